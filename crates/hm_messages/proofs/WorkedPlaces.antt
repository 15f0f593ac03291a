-- The worked examples of the module that a place is in, and of the places of refusals.
use Rattle.std.proofs.Common.{◌≡◌, ◌∙◌, ℕ, zero, suc, ◌<◌, List, [], ◌∷◌, ◌++◌, Contains, ap, arith, get_or, inl, length, length-append, map, refl, subst, sym, ⊎_elim}
use Rattle.std.specs.Prelude.{codes}
use Rattle.hm_lex.specs.Places.{IsBefore}
use Rattle.hm_lex.specs.declared.token.Place.{Place}
use Rattle.hm_syntax.specs.declared.ast.Header.{Header}
use Rattle.hm_syntax.specs.declared.ast.Import.{Import}
use Rattle.hm_syntax.specs.declared.ast.Module.{Module}
use Rattle.hm_run_sources.proofs.ModuleCounts.{source_modules_once}
use Rattle.hm_run_sources.specs.Origins.{AreLocated, IsSpelledBy}
use Rattle.hm_run_sources.specs.SourceModules.{AreModulesOf, HasModules}
use Rattle.hm_run_sources.specs.declared.located.Located.{Located}
use Rattle.hm_messages.specs.ModuleStarts.{IsWithin, Start, module_start}
use Rattle.hm_messages.specs.Refused.{IsNamedAt, place_of}
use Rattle.hm_messages.specs.Worked.{ModuleRow, PlaceRow}

-- ---- the module that a place is in

abbrev between : Place
between = record { line = 5; column = 1 }

abbrev start_a : Start
start_a = record { place = record { line = 1; column = 8 }; name = codes "A" }

abbrev start_b : Start
start_b = record { place = record { line = 9; column = 8 }; name = codes "B" }

isnt_before_a : ¬ (IsBefore between start_a.place)
isnt_before_a h = ⊎_elim (λ low. omega (arith, low)) (λ same. omega (arith, same.0)) h

is_before_b : IsBefore between start_b.place
is_before_b = inl (omega arith)

first_of : Start → List Start → Start
first_of s [] = s
first_of s (t ∷ ts) = t

second_of : Start → List Start → Start
second_of s [] = s
second_of s (t ∷ ts) = first_of s ts

first_letter : List ℕ → ℕ
first_letter [] = 0
first_letter (x ∷ xs) = x

isnt_in_b : (earlier later : List Start) (here : Start) → start_a ∷ start_b ∷ [] ≡ earlier ++ here ∷ later → here.name ≡ codes "B" → ¬ (IsBefore between here.place) → ⊥
unfolding first_of second_of first_letter
isnt_in_b [] later here all named begun =
    let is : start_a ≡ here = ap (first_of start_a) all in
    let letters : 65 ≡ 66 = ap (λ (s : Start). first_letter s.name) is ∙ ap first_letter named in
    omega (arith, letters)
isnt_in_b (s ∷ []) later here all named begun =
    let is : start_b ≡ here = ap (second_of start_a) all in
    begun (subst (λ (s : Start). IsBefore between s.place) is is_before_b)
isnt_in_b (s ∷ t ∷ ss) later here all named begun =
    let long : 2 ≡ suc (suc (length (ss ++ here ∷ later))) = ap length all in
    omega (arith, long, length-append ss (here ∷ later))

pub worked_modules : ModuleRow
worked_modules = record {
  first = λ s a b is_a is_b spelled. (
    a ∷ b ∷ [],
    spelled,
    record {
      earlier = [];
      here = module_start a;
      later = module_start b ∷ [];
      all = refl;
      named = ap (λ (t : Start). t.name) is_a;
      begun = subst (λ (t : Start). ¬ (IsBefore between t.place)) (sym is_a) isnt_before_a;
      ends = subst (λ (t : Start). IsBefore between t.place) (sym is_b) is_before_b;
    },
  );
  not_second = λ s a b is_a is_b spelled h.
      let same : h.0 ≡ a ∷ b ∷ [] = source_modules_once s h.0 (a ∷ b ∷ []) h.1 spelled in
      let starts : map module_start h.0 ≡ start_a ∷ start_b ∷ [] = ap (map module_start) same ∙ (ap (λ (t : Start). t ∷ module_start b ∷ []) is_a ∙ ap (λ (t : Start). start_a ∷ t ∷ []) is_b) in
      let w : IsWithin (start_a ∷ start_b ∷ []) between (codes "B") = subst (λ (l : List Start). IsWithin l between (codes "B")) starts h.2 in
      isnt_in_b w.earlier w.later w.here w.all w.named w.begun;
}

-- ---- the places of refusals

module _ (s : List ℕ) (m : Module) (spelled : HasModules s (m ∷ [])) where
  abbrev only : Located
  only = record { header = m.header; source = 0 }

  spelled_by : (k : ℕ) (d : Located) → k < 1 → IsSpelledBy (s ∷ []) k (get_or (only ∷ []) k d).source
  spelled_by zero d low = record { inside = omega arith; earlier = []; own = m ∷ []; before = refl; spelled = spelled; low = omega arith; high = omega arith }
  spelled_by (suc k) d low = absurd (omega (arith, low))

  is_named : IsNamedAt (s ∷ []) 0 (place_of m.header.name)
  is_named = record {
    located = only ∷ [];
    of_sources = record { modules = m ∷ []; read = (m ∷ [], [], spelled, refl, refl); as_many = refl; headers = refl; each = spelled_by };
    here = only;
    among = (0, omega arith, refl);
    within = refl;
    at = inl refl;
  }

  one_module : (modules : List Module) → AreModulesOf (s ∷ []) modules → modules ≡ m ∷ []
  one_module modules read = read.4 ∙ (ap (λ (l : List Module). read.0 ++ l) read.3 ∙ ap (λ (l : List Module). l ++ []) (source_modules_once s read.0 (m ∷ []) read.2 spelled))

first_header : Header → List Header → Header
first_header h [] = h
first_header h (x ∷ xs) = x

has_header : (h : Header) (ls : List Located) (k : ℕ) (d : Located) → map (λ (l : Located). l.header) ls ≡ h ∷ [] → k < length ls → (get_or ls k d).header ≡ h
unfolding first_header
has_header h [] k d e low = absurd (omega (arith, low))
has_header h (l ∷ ls) zero d e low = ap (first_header h) e
has_header h (l ∷ []) (suc k) d e low = absurd (omega (arith, low))
has_header h (l ∷ x ∷ ls) (suc k) d e low = let long : suc (suc (length (map (λ (l : Located). l.header) ls))) ≡ 1 = ap length e in absurd (omega (arith, long))

no_import : (is : List Import) (i : Import) → is ≡ [] → ¬ (Contains is i)
no_import is i none h = omega (arith, h.1, ap length none)

only_at_name : (s : List ℕ) (m : Module) (p : Place) → HasModules s (m ∷ []) → m.header.imports ≡ [] → ¬ (p ≡ place_of m.header.name) → ¬ (IsNamedAt (s ∷ []) 0 p)
only_at_name s m p spelled none other h =
    let are : AreLocated (s ∷ []) h.located = h.of_sources in
    let modules : are.modules ≡ m ∷ [] = one_module s m spelled are.modules are.read in
    let headers : map (λ (l : Located). l.header) h.located ≡ m.header ∷ [] = are.headers ∙ ap (map (λ (m : Module). m.header)) modules in
    let here : h.here.header ≡ m.header = ap (λ (l : Located). l.header) (sym h.among.2) ∙ has_header m.header h.located h.among.0 h.here headers h.among.1 in
    ⊎_elim (λ at. other (at ∙ ap (λ (x : Header). place_of x.name) here)) (λ i. no_import h.here.header.imports i.0 (ap (λ (x : Header). x.imports) here ∙ none) i.1) h.at

pub worked_places : PlaceRow
worked_places = record {
  at_name = is_named;
  not_elsewhere = only_at_name;
  in_second = λ s t p. (refl, refl);
  not_in_first = λ s t p h. let zeroth : 0 ≡ 1 = h.0 in omega (arith, zeroth);
}
