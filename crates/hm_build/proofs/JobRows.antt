-- The row of imports of a module that a worker has claimed.
use Rattle.std.proofs.Common.{◌≡◌, ◌<◌, ℕ, zero, suc, List, [], ◌∷◌, map, length, Some, refl, arith, slice_get, slice_index_or, ap, sym, ◌∙◌, subst}
use Rattle.std.specs.Prelude.{All, Contains}
use Rattle.std.proofs.lemmas.List.{length-map}
use Rattle.std.proofs.lemmas.List.Elements.{All-contains_itself}
use Rattle.hm_store_published.specs.declared.publication.Publication.{Publication}
use Rattle.hm_store_published.specs.Publications.{IsPublishedIn}
use Rattle.hm_store.specs.declared.object.Turn.TheVariants.{Job}
use Rattle.hm_syntax.specs.declared.ast.Module.{Module}
use Rattle.hm_verdicts.specs.Sets.{IsLawfulSet}
use Rattle.hm_store.specs.Builds.{Build, IsLegal}
use Rattle.hm_store_shared.specs.Listings.{HasImports}
use Rattle.hm_build.specs.Workers.{IsWorkOf}

-- there are as many rows as the plan has
pub row_within : {A B : Type 0} (value : A → B) (plan : List B) (rows : List A) (n : ℕ) → map value rows ≡ plan → n < length plan → n < length rows
row_within value plan rows n is lt = subst (λ k. n < k) (ap length (sym is) ∙ length-map rows value) lt

-- each number in the row of a claimed module is published in what its worker has seen
pub published_in_row : (plan : List (List ℕ)) (m : ℕ) (row : List ℕ) (ps : List Publication) → HasImports plan (Job m) ps → row ≡ slice_index_or plan m [] → All (IsPublishedIn ps) row
published_in_row plan m row ps h is k d lt = let n = slice_index_or row k d in h n (subst (λ xs. Contains xs n) is (All-contains_itself row k d lt))

-- a row of the plan, where it is what is taken of a list's elements
pub taken_at : {A B : Type 0} (value : A → B) (xs : List A) (n : ℕ) (d : A) (e : B) → n < length xs → value (slice_index_or xs n d) ≡ slice_index_or (map value xs) n e
taken_at value [] n d e lt = absurd (omega (arith, lt))
taken_at value (x ∷ xs) zero d e lt = refl
taken_at value (x ∷ xs) (suc n) d e lt = taken_at value xs n d e (omega (arith, lt))

pub map_twice : {A B C : Type 0} (f : A → B) (g : B → C) (xs : List A) → map g (map f xs) ≡ map (λ x. g (f x)) xs
map_twice f g [] = refl
map_twice f g (x ∷ xs) = ap (λ ys. g (f x) ∷ ys) (map_twice f g xs)

-- an element that is there
pub got_at : {A B : Type 0} (value : A → B) (xs : List A) (n : ℕ) (d : A) → n < length xs → slice_get (map value xs) n ≡ Some (value (slice_index_or xs n d))
got_at value [] n d lt = absurd (omega (arith, lt))
got_at value (x ∷ xs) zero d lt = refl
got_at value (x ∷ xs) (suc n) d lt = got_at value xs n d (omega (arith, lt))

-- the modules of a store, with the rows of its plan, are the work of the build that has its name
pub work_is : (modules : List Module) (plan : List (List ℕ)) (store : Build) (given : List Module) (rows : List (List ℕ)) → IsLegal store → given ≡ store.modules → store.modules ≡ modules → rows ≡ store.given.imports → store.given.imports ≡ plan
    → IsWorkOf modules plan given rows
work_is modules plan store given rows legal same subjects imports planned = record {
  modules_are = same ∙ subjects;
  rows_are = imports ∙ planned;
  lawful = subst (λ p. IsLawfulSet (record { modules = modules; plan = p })) planned (subst (λ ms. IsLawfulSet (record { modules = ms; plan = store.given.imports })) subjects legal.lawful);
}
