-- The worked examples.
use Rattle.std.proofs.Common.{◌≡◌, ◌≢◌, ℕ, zero, suc, ◌<◌, List, [], ◌∷◌, length, get_or, Contains, codes, map, inl, inr, refl, ap, sym, ◌∙◌, subst, arith}
use Rattle.hm_graph_components.specs.Closure.{Closure, one, more}
use Rattle.hm_graph_components.proofs.Members.{Contains-nil}
use Rattle.hm_graph.specs.Imports.{IsLawful, IsMissing, Modules, imports_at, name_at, prelude}
use Rattle.hm_graph.specs.Outline.{outline}
use Rattle.hm_run_sources.proofs.OneRefusal.{not_source}
use Rattle.hm_run_sources.specs.declared.located.Located.{Located}
use Rattle.hm_service_sources.specs.LeftOut.{ImportsFirst, IsInTheWay, IsLeftOut, by_import, cycle, missing, outlines_of, own, taken, too_many}
use Rattle.hm_service_sources.specs.Standing.{IsReadable, IsUnreadable, StandsFor}
use Rattle.hm_service_sources.specs.Worked.{LeftOutRow, StandingRow}

pub worked_standing : StandingRow
worked_standing = record {
  latest = λ s t r. inl (r, refl);
  not_earlier = λ s t r apart stands. elim stands [
    | inl h ↦ apart h.1
    | inr h ↦ not_source s r.0 1 h.0.0 r.1 h.0.1.1 h.0.1.0
  ];
  kept = λ s t u r. inr (u, inl (r, refl));
  empty = refl;
}

-- a module without imports
no_import : (l : Located) → l.header.imports ≡ [] → (m : ℕ) → imports_at (outlines_of (l ∷ [])) m ≡ []
no_import l none zero = ap (map (λ i. i.name.text)) none
no_import l none (suc m) = refl

not_imported : (l : Located) → l.header.imports ≡ [] → (a b : ℕ) → ¬ (ImportsFirst (outlines_of (l ∷ [])) a b)
not_imported l none a b h = Contains-nil (name_at (outlines_of (l ∷ [])) b) (subst (λ (names : List (List ℕ)). Contains names (name_at (outlines_of (l ∷ [])) b)) (no_import l none a) h.0.1)

no_cycle : (l : Located) → l.header.imports ≡ [] → {a b : ℕ} → ¬ (Closure (ImportsFirst (outlines_of (l ∷ []))) a b)
no_cycle l none (one {b = b} h) = not_imported l none _ b h
no_cycle l none (more p h) = no_cycle l none p

not_in_the_way : (l : Located) → l.header.name.text ≡ codes "A" → l.header.imports ≡ [] → (m : ℕ) → m < 1 → ¬ (IsInTheWay (outlines_of (l ∷ [])) m)
not_in_the_way l named none zero below (taken t) = elim t [
  | inl same ↦ let no_way : codes "A" ≡ codes "Prelude" = sym named ∙ same in let sizes : 1 ≡ 7 = ap (λ (l : List ℕ). length l) no_way in omega (arith, sizes)
  | inr h ↦ let less = h.1 in omega (arith, less)
]
not_in_the_way l named none zero below (missing {i = i} h) =
    let place : i < length (imports_at (outlines_of (l ∷ [])) 0) = h.place in
    let size : length (imports_at (outlines_of (l ∷ [])) 0) ≡ 0 = ap length (no_import l none 0) in
    omega (arith, place, size)
not_in_the_way l named none zero below (cycle c) = no_cycle l none c
not_in_the_way l named none zero below (too_many t) = omega (arith, t)
not_in_the_way l named none (suc m) below way = omega (arith, below)

alone : (l : Located) → l.header.name.text ≡ codes "A" → l.header.imports ≡ [] → {s : ℕ} → ¬ (IsLeftOut (l ∷ []) s)
alone l named none (own {m = m} below at way) = not_in_the_way l named none m below way
alone l named none (by_import {a = a} {b = b} below at imports out) = not_imported l none a b imports

names_nothing : (l : Located) → l.header.name.text ≡ codes "A" → map (λ i. i.name.text) l.header.imports ≡ codes "B" ∷ [] → IsMissing (outlines_of (l ∷ [])) 0 0
names_nothing l named are = record {
  place = subst (λ (names : List (List ℕ)). 0 < length names) (sym are) (omega arith);
  not_prelude = λ same. let no_way : codes "B" ≡ codes "Prelude" = sym (ap (λ (names : List (List ℕ)). get_or names 0 []) are) ∙ same in let sizes : 1 ≡ 7 = ap (λ (l : List ℕ). length l) no_way in omega (arith, sizes);
  no_module = other;
}
  where
    other : (k : ℕ) → k < 1 → name_at (outlines_of (l ∷ [])) k ≢ get_or (imports_at (outlines_of (l ∷ [])) 0) 0 []
    other zero below same = let no_way : codes "A" ≡ codes "B" = sym named ∙ (same ∙ ap (λ (names : List (List ℕ)). get_or names 0 []) are) in let letters : 65 ≡ 66 = ap (λ (l : List ℕ). get_or l 0 0) no_way in omega (arith, letters)
    other (suc k) below same = omega (arith, below)

pub worked_left_out : LeftOutRow
worked_left_out = record {
  alone = λ l named none out. alone l named none out;
  missing = λ l at named are. own {m = 0} (omega arith) at (missing {i = 0} (names_nothing l named are));
}
