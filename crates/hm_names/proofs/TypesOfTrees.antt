-- Types of the type system that are made from trees: their arguments, and what they have.
use Rattle.std.proofs.Common.{◌≡◌, ◌⊎◌, Contains, ◌||◌, ℕ, suc, ◌<◌, Bool, true, false, cond, List, [], ◌∷◌, map, length, inl, inr, refl, sym, ap, ◌∙◌, subst, arith}
use Rattle.std.proofs.lemmas.Bool.{cases_Bool}
use Rattle.hm_types.specs.Types.{App, more, put_all}
use Rattle.hm_types.specs.Monotypes.{Mono, var, arguments_of, list_of}
use Rattle.hm_types.specs.Types.{Var}
use Rattle.hm_syntax.specs.Trees.{TypeTree, variable_type, constructor_type, function_type, tuple_type, list_type, unit_type, TypeTrees, no_types, more_types}
use Rattle.hm_syntax.specs.Names.{Identifier}
use Rattle.hm_types.specs.declared.Entity.{Entity}
use Rattle.hm_types.specs.declared.Head.TheVariants as head
use Rattle.hm_types.specs.Schemes.{HasNoRigid, AllHaveNoRigid, HasArities, AllHaveArities}
use Rattle.hm_types.specs.Substitution.{occurs, occurs_in_any}
use Rattle.hm_syntax.specs.Lists.{types}
use Rattle.hm_names.specs.Texts.{same_text}
use Rattle.hm_names.specs.Types.{entity_of, place, type_in, types_in, program_of}
use Rattle.hm_names.specs.DeclaredSynonyms.{AreAmong}
use Rattle.hm_names.specs.Variables.{type_variables, types_variables, type_count}
use Rattle.hm_names.proofs.Rows.{types_counted}
use Rattle.hm_names.proofs.Members.{none_in, cases, first}
use Rattle.std.proofs.lemmas.List.Elements.{Contains-append_left, Contains-append_right}
use Rattle.std.proofs.lemmas.Slice.Eq.{bytes_eq-Decides}
use Rattle.std.proofs.lemmas.Bool.Decides.{Decides-eqb}

-- the arguments of a type constructor
pub arguments_are : (vs : List (List ℕ)) (ts : List TypeTree) → arguments_of (map (λ t. program_of (type_in vs t)) ts) ≡ put_all (λ v. Var (var v)) (types_in vs (types ts))
arguments_are vs [] = refl
arguments_are vs (t ∷ ts) = ap (λ z. more (program_of (type_in vs t)) z) (arguments_are vs ts)

pub constructor_is : (vs : List (List ℕ)) (n : Identifier) (ts : List TypeTree) (e : Entity) (us : List Mono) → e ≡ entity_of n → us ≡ map (λ t. program_of (type_in vs t)) ts
    → App (head.Named e) (arguments_of us) ≡ program_of (type_in vs (constructor_type n (types ts)))
constructor_is vs n ts e us is args = ap (λ z. App (head.Named z) (arguments_of us)) is ∙ (ap (λ z. App (head.Named (entity_of n)) (arguments_of z)) args ∙ ap (λ z. App (head.Named (entity_of n)) z) (arguments_are vs ts))

pub tuple_is : (vs : List (List ℕ)) (ts : List TypeTree) (count : ℕ) (us : List Mono) → count ≡ length ts → us ≡ map (λ t. program_of (type_in vs t)) ts
    → App (head.Tuple count) (arguments_of us) ≡ program_of (type_in vs (tuple_type (types ts)))
tuple_is vs ts count us is args =
    ap (λ k. App (head.Tuple k) (arguments_of us)) (is ∙ sym (types_counted ts)) ∙ (ap (λ z. App (head.Tuple (type_count (types ts))) (arguments_of z)) args ∙ ap (λ z. App (head.Tuple (type_count (types ts))) z) (arguments_are vs ts))

-- what such a type has: no rigid variables, and the right number of arguments, whatever the tree; and its variables are among those of the list, if all of the tree are

mutual
  pub no_rigid : (vs : List (List ℕ)) (t : TypeTree) → HasNoRigid (program_of (type_in vs t))
  no_rigid vs (variable_type n) = tt
  no_rigid vs (constructor_type n ts) = all_no_rigid vs ts
  no_rigid vs (function_type a b) = (no_rigid vs a, (no_rigid vs b, tt))
  no_rigid vs (tuple_type ts) = all_no_rigid vs ts
  no_rigid vs (list_type t) = (no_rigid vs t, tt)
  no_rigid vs unit_type = tt

  all_no_rigid : (vs : List (List ℕ)) (ts : TypeTrees) → AllHaveNoRigid (put_all (λ v. Var (var v)) (types_in vs ts))
  all_no_rigid vs no_types = tt
  all_no_rigid vs (more_types t ts) = (no_rigid vs t, all_no_rigid vs ts)

as_many : (vs : List (List ℕ)) (ts : TypeTrees) → length (list_of (put_all (λ v. Var (var v)) (types_in vs ts))) ≡ type_count ts
as_many vs no_types = refl
as_many vs (more_types t ts) = ap suc (as_many vs ts)

mutual
  pub arities : (vs : List (List ℕ)) (t : TypeTree) → HasArities (program_of (type_in vs t))
  arities vs (variable_type n) = tt
  arities vs (constructor_type n ts) = (tt, all_arities vs ts)
  arities vs (function_type a b) = (refl, (arities vs a, (arities vs b, tt)))
  arities vs (tuple_type ts) = (as_many vs ts, all_arities vs ts)
  arities vs (list_type t) = (refl, (arities vs t, tt))
  arities vs unit_type = (refl, tt)

  all_arities : (vs : List (List ℕ)) (ts : TypeTrees) → AllHaveArities (put_all (λ v. Var (var v)) (types_in vs ts))
  all_arities vs no_types = tt
  all_arities vs (more_types t ts) = (arities vs t, all_arities vs ts)

place_inside : (x : List ℕ) (xs : List (List ℕ)) → Contains xs x → place x xs < length xs
place_inside x [] c = absurd (none_in x c)
place_inside x (y ∷ ys) c = elim (cases_Bool (same_text x y)) [
  | inl t ↦ subst (λ b. cond b 0 (suc (place x ys)) < suc (length ys)) (sym t) (omega arith)
  | inr f ↦ elim (cases y ys x c) [
    | inl e ↦ absurd (let z : true ≡ false = sym ((bytes_eq-Decides x y).1 e) ∙ f in cc)
    | inr o ↦ subst (λ b. cond b 0 (suc (place x ys)) < suc (length ys)) (sym f) (omega (arith, place_inside x ys o))
  ]
]

either : (a b : Bool) → (a || b) ≡ true → (a ≡ true) ⊎ (b ≡ true)
either true b h = inl refl
either false b h = inr h

mutual
  pub closed : (vs : List (List ℕ)) (t : TypeTree) → AreAmong vs (type_variables t) → (k : ℕ) → occurs k (program_of (type_in vs t)) ≡ true → k < length vs
  closed vs (variable_type n) h k o = let e = (Decides-eqb (place n.text vs) k).0 o in let l = place_inside n.text vs (h n (first n [])) in omega (arith, e, l)
  closed vs (constructor_type n ts) h k o = all_closed vs ts h k o
  closed vs (function_type a b) h k o = elim (either _ _ o) [
    | inl l ↦ closed vs a (λ n c. h n (Contains-append_left _ _ n c)) k l
    | inr r ↦ elim (either _ _ r) [ inl l ↦ closed vs b (λ n c. h n (Contains-append_right (type_variables a) _ n c)) k l | inr z ↦ absurd (let w : false ≡ true = z in cc) ]
  ]
  closed vs (tuple_type ts) h k o = all_closed vs ts h k o
  closed vs (list_type t) h k o = elim (either _ _ o) [ inl l ↦ closed vs t h k l | inr z ↦ absurd (let w : false ≡ true = z in cc) ]
  closed vs unit_type h k o = absurd (let w : false ≡ true = o in cc)

  all_closed : (vs : List (List ℕ)) (ts : TypeTrees) → AreAmong vs (types_variables ts) → (k : ℕ) → occurs_in_any k (put_all (λ v. Var (var v)) (types_in vs ts)) ≡ true → k < length vs
  all_closed vs no_types h k o = absurd (let w : false ≡ true = o in cc)
  all_closed vs (more_types t ts) h k o = elim (either _ _ o) [
    | inl l ↦ closed vs t (λ n c. h n (Contains-append_left _ _ n c)) k l
    | inr r ↦ all_closed vs ts (λ n c. h n (Contains-append_right (type_variables t) _ n c)) k r
  ]
