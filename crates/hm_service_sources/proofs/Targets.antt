-- The modules that a module imports, as far as its imports have been read.
use Rattle.std.proofs.Common.{◌≡◌, ◌≢◌, ℕ, ◌+◌, ◌<◌, ◌≤◌, List, [], ◌∷◌, ◌++◌, length, get_or, take, Contains, Option, Some, None, IfSome, IfNone, option_to_list, ◌⊎◌, ◌↔◌, inl, inr, refl, ap, sym, ◌∙◌, subst, arith, map, append-nil, length-append}
use Rattle.std.proofs.lemmas.Bool.{cases_lt, cases_order}
use Rattle.std.proofs.lemmas.List.{get_or-map, length-map, take_all, get_or_append_left, get_or_push}
use Rattle.std.proofs.lemmas.List.Elements.{Contains-append_left}
use Rattle.hm_graph_components.proofs.Members.{Contains-nil, Contains-push_cases, Contains-push_new, Contains-take_cases, Contains-take_old, Contains-take_new}
use Rattle.hm_syntax.specs.declared.ast.Import.{Import}
use Rattle.hm_graph.specs.Imports.{IsMissing, IsTaken, Modules, imports_at, name_at, prelude}
use Rattle.hm_run_sources.specs.declared.located.Located.{Located}
use Rattle.hm_service_sources.specs.LeftOut.{ImportsFirst, outlines_of}
use Rattle.hm_service_sources.specs.Steps.{AreImportRows}
use Rattle.hm_service_sources.proofs.Firsts.{imports_are}

-- import i of module m, as the code reads it
pub record Reads (modules : Modules) (m i : ℕ) (name : List ℕ) : Type 0 where
  pub place : i < length (imports_at modules m)
  pub is : get_or (imports_at modules m) i [] ≡ name

pub as_many : (located : List Located) (m : ℕ) (d : Located) (slice : List Import) → m < length located → slice ≡ (get_or located m d).header.imports → length (imports_at (outlines_of located) m) ≡ length slice
as_many located m d slice below same = rw (imports_are located m d below, ← same) (length-map slice (λ i. i.name.text))

pub reads : (located : List Located) (m i : ℕ) (d : Located) (e : Import) (slice : List Import) (name : List ℕ) → m < length located → slice ≡ (get_or located m d).header.imports → i < length slice → name ≡ (get_or slice i e).name.text → Reads (outlines_of located) m i name
reads located m i d e slice name below same inside read = record {
  place = omega (arith, as_many located m d slice below same);
  is = rw (imports_are located m d below, ← same) (get_or-map (λ j. j.name.text) slice i e [] inside ∙ sym read);
}

-- an import that names nothing
pub is_missing : (modules : Modules) (m i n : ℕ) (name : List ℕ) → n ≡ length modules → Reads modules m i name → (name ≢ prelude) × ((k : ℕ) → k < n → name_at modules k ≢ name) → IsMissing modules m i
is_missing modules m i n name size read both = record {
  place = read.place;
  not_prelude = λ same. both.0 (sym read.is ∙ same);
  no_module = λ k below same. both.1 k (omega (arith, below, size)) (same ∙ read.is);
}

pub names_nothing : (modules : Modules) (m i n : ℕ) (name : List ℕ) → n ≡ length modules → Reads modules m i name → IsMissing modules m i → (name ≢ prelude) × ((k : ℕ) → k < n → name_at modules k ≢ name)
names_nothing modules m i n name size read missing = (λ same. missing.not_prelude (read.is ∙ same), λ k below same. missing.no_module k (omega (arith, below, size)) (same ∙ sym read.is))

abbrev pub none_missing : Modules → ℕ → ℕ → Type 0
none_missing modules m i = (j : ℕ) → j < i → ¬ (IsMissing modules m j)

pub none_more : (modules : Modules) (m i : ℕ) → none_missing modules m i → ¬ (IsMissing modules m i) → none_missing modules m (i + 1)
none_more modules m i so_far here j below missing = elim (cases_lt j i) [
  | inl less ↦ so_far j less missing
  | inr past ↦ let last : j ≡ i = omega arith in here (rw last at missing)
]

-- the row has the modules that the first i imports mean
abbrev pub IsRowBelow : Modules → ℕ → ℕ → List ℕ → Type 0
IsRowBelow modules m i row = (k : ℕ) → Contains row k ↔ ((k < length modules) × (Contains (take i (imports_at modules m)) (name_at modules k) × ¬ (IsTaken modules k)))

pub row_begin : (modules : Modules) (m : ℕ) → IsRowBelow modules m 0 []
row_begin modules m k = (λ c. absurd (Contains-nil k c), λ h. absurd (Contains-nil (name_at modules k) h.1.0))

-- two modules of one name that isn't taken are one
one_module : (modules : Modules) (z k : ℕ) → ¬ (IsTaken modules z) → ¬ (IsTaken modules k) → name_at modules z ≡ name_at modules k → z ≡ k
one_module modules z k fresh free same = elim (cases_order z k) [
  | inl is ↦ is
  | inr (inl less) ↦ absurd (free (inr (z, less, same)))
  | inr (inr more) ↦ absurd (fresh (inr (k, more, sym same)))
]

module _ (modules : Modules) (m i n : ℕ) (row : List ℕ) (name : List ℕ) (size : n ≡ length modules) (read : Reads modules m i name) (so_far : IsRowBelow modules m i row) where
  row_some : (k : ℕ) → k < n → name_at modules k ≡ name → ¬ (IsTaken modules k) → IsRowBelow modules m (i + 1) (row ++ k ∷ [])
  row_some k below is free z = (
    λ c. elim (Contains-push_cases row k z c) [
      | inl old ↦ let h = (so_far z).0 old in (h.0, (Contains-take_old (imports_at modules m) i [] (name_at modules z) read.place h.1.0, h.1.1))
      | inr same ↦ rw same (omega (arith, below, size), (Contains-take_new (imports_at modules m) i [] (name_at modules k) read.place (is ∙ sym read.is), free))
    ],
    λ h. elim (Contains-take_cases (imports_at modules m) i [] (name_at modules z) read.place h.1.0) [
      | inl before ↦ Contains-append_left row (k ∷ []) z ((so_far z).1 (h.0, (before, h.1.1)))
      | inr same ↦ Contains-push_new row k z (one_module modules z k h.1.1 free (same ∙ (read.is ∙ sym is)))
    ],
  )

  row_none : ((k : ℕ) → k < n → name_at modules k ≡ name → IsTaken modules k) → IsRowBelow modules m (i + 1) row
  row_none taken z = (
    λ c. let h = (so_far z).0 c in (h.0, (Contains-take_old (imports_at modules m) i [] (name_at modules z) read.place h.1.0, h.1.1)),
    λ h. elim (Contains-take_cases (imports_at modules m) i [] (name_at modules z) read.place h.1.0) [
      | inl before ↦ (so_far z).1 (h.0, (before, h.1.1))
      | inr same ↦ let below = h.0 in absurd (h.1.1 (taken z (omega (arith, below, size)) (same ∙ read.is)))
    ],
  )

  pub row_more : (target : Option ℕ) (next : List ℕ) → IfSome target (λ k. (k < n) × ((name_at modules k ≡ name) × ¬ (IsTaken modules k))) → IfNone target ((k : ℕ) → k < n → name_at modules k ≡ name → IsTaken modules k) → next ≡ row ++ option_to_list target → IsRowBelow modules m (i + 1) next
  row_more (Some k) next some none e = subst (IsRowBelow modules m (i + 1)) (sym e) (row_some k some.0 some.1.0 some.1.1)
  row_more None next some none e = subst (IsRowBelow modules m (i + 1)) (sym (e ∙ append-nil row)) (row_none none)

pub row_end : (modules : Modules) (m i : ℕ) (row : List ℕ) → length (imports_at modules m) ≤ i → IsRowBelow modules m i row → (k : ℕ) → Contains row k ↔ ImportsFirst modules m k
row_end modules m i row past so_far k =
    let whole : take i (imports_at modules m) ≡ imports_at modules m = take_all i (imports_at modules m) past in (
      λ c. let h = (so_far k).0 c in ((h.0, rw whole at h.1.0), h.1.1),
      λ h. (so_far k).1 (h.0.0, (rw whole h.0.1, h.1)),
    )

-- one more row
pub rows_more : (modules : Modules) (n : ℕ) (rows : List (List ℕ)) (row : List ℕ) → AreImportRows modules n rows → ((k : ℕ) → Contains row k ↔ ImportsFirst modules n k) → AreImportRows modules (n + 1) (rows ++ row ∷ [])
rows_more modules n rows row so_far here = record {
  as_many = omega (arith, so_far.as_many, length-append rows (row ∷ []));
  each = λ m k below. elim (cases_lt m n) [
    | inl less ↦ rw (get_or_append_left rows (row ∷ []) [] m (omega (arith, less, so_far.as_many))) (so_far.each m k less)
    | inr past ↦ let last : m ≡ n = omega arith in rw (get_or_push rows row [] m (omega (arith, last, so_far.as_many)), last) (here k)
  ];
}
