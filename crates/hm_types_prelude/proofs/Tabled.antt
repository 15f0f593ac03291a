-- What the interface of Prelude rests on.
use Rattle.std.proofs.Common.{◌≡◌, ℕ, zero, suc, ◌<◌, Bool, true, false, ◌&&◌, ◌==◌, List, [], ◌∷◌, ◌++◌, length, get_or, map, refl, sym, ap, ◌∙◌, subst, arith}
use Rattle.std.specs.Prelude.{codes}
use Rattle.std.specs.List.{push}
use Rattle.std.proofs.lemmas.Bool.{eqb-true}
use Rattle.std.proofs.lemmas.List.{get_or-map, length-map}
use Rattle.hm_types.specs.declared.Head.{Head}
use Rattle.hm_types.specs.declared.Head.TheVariants.{Named, Arrow, Tuple}
use Rattle.hm_types.specs.declared.Head.TheVariants as head
use Rattle.hm_types_prelude.specs.declared.polish.Part.{Part}
use Rattle.hm_types.specs.declared.entries.TypeEntry.{TypeEntry}
use Rattle.hm_types.specs.declared.entries.SynonymEntry.{SynonymEntry}
use Rattle.hm_types.specs.declared.entries.ConstructorEntry.{ConstructorEntry}
use Rattle.hm_types.specs.declared.entries.ValueEntry.{ValueEntry}
use Rattle.hm_types.specs.Types.{App as app, done as none, more, Var as leaf}
use Rattle.hm_types.specs.Monotypes.{Mono, Monos, var, rigid, list_of}
use Rattle.hm_types.specs.Schemes.{TypeScheme, IsScheme, FitsHead, HasArities, AllHaveArities, HasNoRigid, AllHaveNoRigid, canonical_of}
use Rattle.hm_types_prelude.specs.Polish.{IsNumbered, WriteSchemes, written, with_part, read_as}
use Rattle.hm_types.specs.Interfaces.{IsInterface}
use Rattle.hm_types.specs.StandardPrelude.{prelude_interface, prelude_types, prelude_synonyms, prelude_constructors, prelude_values}
use Rattle.hm_types.proofs.InOrder.{canonical_is_scheme}
use Rattle.hm_types.proofs.Ordered.{ordered_by_test, apart_by_test, both_left, both_right}

-- ---- reading from the right

written_last : (ps : List Part) (p : Part) (ts : List Mono) → written (ps ++ p ∷ []) ts ≡ written ps (with_part p ts)
written_last [] p ts = refl
written_last (q ∷ ps) p ts = ap (with_part q) (written_last ps p ts)

-- one more part, read from the right
pub read_more : (left rest : List Part) (p : Part) (before after all : List Mono) → left ≡ push rest p → written left before ≡ all → after ≡ with_part p before → written rest after ≡ all
read_more left rest p before after all step so_far put =
    ap (written rest) put ∙ sym (written_last rest p before) ∙ ap (λ l. written l before) (sym step) ∙ so_far

-- ---- a test of the conditions on a type

abbrev pub fits : Head → ℕ → Bool
fits (Named e) n = true
fits Arrow n = n == 2
fits head.List n = n == 1
fits head.Unit n = n == 0
fits (Tuple k) n = n == k

abbrev mutual
  pub is_regular : Mono → Bool
  is_regular (leaf (var n)) = true
  is_regular (leaf (rigid n)) = false
  is_regular (app h ts) = fits h (length (list_of ts)) && are_regular ts

  pub are_regular : Monos → Bool
  are_regular none = true
  are_regular (more t ts) = is_regular t && are_regular ts

fits_by_test : (h : Head) (n : ℕ) → fits h n ≡ true → FitsHead h n
fits_by_test (Named e) n t = tt
fits_by_test Arrow n t = eqb-true n 2 t
fits_by_test head.List n t = eqb-true n 1 t
fits_by_test head.Unit n t = eqb-true n 0 t
fits_by_test (Tuple k) n t = eqb-true n k t

mutual
  no_rigid_by_test : (t : Mono) → is_regular t ≡ true → HasNoRigid t
  no_rigid_by_test (leaf (var n)) e = tt
  no_rigid_by_test (leaf (rigid n)) e = cc
  no_rigid_by_test (app h ts) e = none_rigid_by_test ts (both_right (fits h (length (list_of ts))) (are_regular ts) e)

  none_rigid_by_test : (ts : Monos) → are_regular ts ≡ true → AllHaveNoRigid ts
  none_rigid_by_test none e = tt
  none_rigid_by_test (more t ts) e = (no_rigid_by_test t (both_left (is_regular t) (are_regular ts) e), none_rigid_by_test ts (both_right (is_regular t) (are_regular ts) e))

mutual
  arities_by_test : (t : Mono) → is_regular t ≡ true → HasArities t
  arities_by_test (leaf (var n)) e = tt
  arities_by_test (leaf (rigid n)) e = tt
  arities_by_test (app h ts) e = (fits_by_test h (length (list_of ts)) (both_left (fits h (length (list_of ts))) (are_regular ts) e), all_arities_by_test ts (both_right (fits h (length (list_of ts))) (are_regular ts) e))

  all_arities_by_test : (ts : Monos) → are_regular ts ≡ true → AllHaveArities ts
  all_arities_by_test none e = tt
  all_arities_by_test (more t ts) e = (arities_by_test t (both_left (is_regular t) (are_regular ts) e), all_arities_by_test ts (both_right (is_regular t) (are_regular ts) e))

abbrev pub rows_are_regular : List (ℕ × List Part) → Bool
rows_are_regular [] = true
rows_are_regular (row ∷ rows) = is_regular (read_as row.1) && rows_are_regular rows

row_by_test : (rows : List (ℕ × List Part)) (k : ℕ) (d : ℕ × List Part) → rows_are_regular rows ≡ true → k < length rows → is_regular (read_as (get_or rows k d).1) ≡ true
row_by_test [] k d e below = absurd (omega (arith, below))
row_by_test (row ∷ rows) zero d e below = both_left (is_regular (read_as row.1)) (rows_are_regular rows) e
row_by_test (row ∷ rows) (suc k) d e below = row_by_test rows k d (both_right (is_regular (read_as row.1)) (rows_are_regular rows) e) (omega (arith, below))

-- the schemes of rows, and the rows as schemes
abbrev pub canonical_rows : List (ℕ × List Part) → List TypeScheme
canonical_rows rows = map (λ row. canonical_of (read_as row.1)) rows

abbrev pub rows_as_schemes : List (ℕ × List Part) → List TypeScheme
rows_as_schemes rows = map (λ row. record { vars = row.0; body = read_as row.1 }) rows

row_is_numbered : (rows : List (ℕ × List Part)) (k : ℕ) (d : ℕ × List Part) → canonical_rows rows ≡ rows_as_schemes rows → k < length rows → IsNumbered (get_or rows k d).0 (read_as (get_or rows k d).1)
row_is_numbered [] k d e below = absurd (omega (arith, below))
row_is_numbered (row ∷ rows) zero d e below = cc
row_is_numbered (row ∷ rows) (suc k) d e below = row_is_numbered rows k d (cc) (omega (arith, below))

pub rows_by_test : (rows : List (ℕ × List Part)) → rows_are_regular rows ≡ true → canonical_rows rows ≡ rows_as_schemes rows → WriteSchemes rows
rows_by_test rows e n = record {
  not_rigid = λ k d below. no_rigid_by_test (read_as (get_or rows k d).1) (row_by_test rows k d e below);
  arities = λ k d below. arities_by_test (read_as (get_or rows k d).1) (row_by_test rows k d e below);
  numbered = λ k d below. row_is_numbered rows k d n below;
}

module _ {X : Type 0} (parts : X → ℕ × List Part) (rows : List X) (k : ℕ) (d : X) (written_schemes : WriteSchemes (map parts rows)) (below : k < length rows) where
  within : k < length (map parts rows)
  within = omega (arith, below, length-map rows parts)

  row_is : get_or (map parts rows) k (0, []) ≡ parts (get_or rows k d)
  row_is = get_or-map parts rows k d (0, []) below

  pub row_not_rigid : HasNoRigid (read_as (parts (get_or rows k d)).1)
  row_not_rigid = let P : (ℕ × List Part) → Type 0 = λ row. HasNoRigid (read_as row.1) in subst P row_is (written_schemes.not_rigid k (0, []) within)

  pub row_arities : HasArities (read_as (parts (get_or rows k d)).1)
  row_arities = let P : (ℕ × List Part) → Type 0 = λ row. HasArities (read_as row.1) in subst P row_is (written_schemes.arities k (0, []) within)

  pub row_numbered : IsNumbered (parts (get_or rows k d)).0 (read_as (parts (get_or rows k d)).1)
  row_numbered = let P : (ℕ × List Part) → Type 0 = λ row. IsNumbered row.0 (read_as row.1) in subst P row_is (written_schemes.numbered k (0, []) within)

-- a type whose variables are numbered is the body of a scheme
pub numbered_is_scheme : (n : ℕ) (t : Mono) → HasNoRigid t → HasArities t → IsNumbered n t → IsScheme (record { vars = n; body = t })
numbered_is_scheme n t r a e = subst IsScheme e (canonical_is_scheme t r a)

-- ---- the table

prelude_is_interface : IsInterface prelude_interface
prelude_is_interface = record {
  types = ordered_by_test (map (λ x. x.name) prelude_types) refl;
  synonyms = ordered_by_test (map (λ x. x.name) prelude_synonyms) refl;
  apart = apart_by_test (map (λ x. x.name) prelude_types) (map (λ x. x.name) prelude_synonyms) refl;
  constructors = ordered_by_test (map (λ x. x.name) prelude_constructors) refl;
  values = ordered_by_test (map (λ x. x.name) prelude_values) refl;
}

pub is_interface : (name : List ℕ) (types : List TypeEntry) (synonyms : List SynonymEntry) (constructors : List ConstructorEntry) (values : List ValueEntry) → name ≡ codes "Prelude" → types ≡ prelude_types → synonyms ≡ prelude_synonyms → constructors ≡ prelude_constructors → values ≡ prelude_values
    → IsInterface (record { name = name; types = types; synonyms = synonyms; constructors = constructors; values = values })
is_interface name types synonyms constructors values n t s c v = rw (n, t, s, c, v) prelude_is_interface
