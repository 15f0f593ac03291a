-- Heads, right sides without local declarations, and the walk over a whole module.
use Rattle.std.proofs.Common.{◌≡◌, ◌==◌, Bool, true, arith, List, [], ◌∷◌, ◌++◌, length, map, Option, None, refl, sym, ap, ap₂, ◌∙◌, append-nil}
use Rattle.std.proofs.lemmas.Bool.{eqb-true}
use Rattle.hm_syntax.specs.Trees.{Pattern, Expression, Declaration, RightSide, right_side, no_declarations}
use Rattle.hm_syntax.specs.Lists.{bodies, declarations}
use Rattle.hm_names.specs.declared.faults.Fault.{Fault}
use Rattle.hm_names.specs.Walk.{Locals}
use Rattle.hm_names.specs.Resolved.{pattern_with, right_side_with, bare}
use Rattle.hm_names.specs.Found.{Walking, Lookups, noting, locals_of, resolver_of, binder_of, list_faults, declarations_faults, part_with, parts_faults, bodies_faults, right_side_faults, repeated, outside}
use Rattle.hm_names.proofs.Rows.{parts_map, parts_are}

pub matched : (w after : Walking) (fs : List Fault) (ps done : List Pattern) → after ≡ noting fs w
    → done ≡ map (pattern_with (resolver_of after.known) (binder_of None)) ps → done ≡ map (pattern_with (resolver_of w.known) bare) ps
matched w after fs ps done e q = q ∙ ap (λ (v : Walking). map (pattern_with (resolver_of v.known) bare) ps) e

pub none_local : (ds seen : List Declaration) (b : Bool) → seen ≡ ds → b ≡ (length seen == 0) → b ≡ true → ds ≡ []
none_local [] seen b e f t = refl
none_local (d ∷ ds) seen b e f t =
    let none : length (d ∷ ds) ≡ 0 = eqb-true (length (d ∷ ds)) 0 (sym (f ∙ ap (λ (zs : List Declaration). length zs == 0) e) ∙ t) in
    absurd (omega (arith, none))

no_list_faults : list_faults no_declarations ≡ []
unfolding list_faults repeated outside
no_list_faults = refl

module _ (k : Lookups) (xs : Locals) (r : RightSide) (parts ps : List (Option Expression × Expression)) (ds : List Declaration) (shown : r ≡ right_side (bodies parts) (declarations ds)) (same : ps ≡ parts) (empty : ds ≡ []) where
  alone : r ≡ right_side (bodies ps) no_declarations
  alone = shown ∙ ap₂ (λ (gs : List (Option Expression × Expression)) (zs : List Declaration). right_side (bodies gs) (declarations zs)) (sym same) empty

  pub side_resolved : (made : List (Option Expression × Expression)) (rest : List Declaration) → made ≡ map (part_with (resolver_of k) xs) ps → rest ≡ []
      → right_side (bodies made) (declarations rest) ≡ right_side_with (resolver_of k) xs r
  side_resolved made rest m l =
      ap₂ (λ (gs : List (Option Expression × Expression)) (zs : List Declaration). right_side (bodies gs) (declarations zs)) m l
      ∙ (ap (λ gs. right_side gs no_declarations) (parts_map (resolver_of k) xs ps) ∙ sym (ap (right_side_with (resolver_of k) xs) alone))

  no_more : bodies_faults k xs (bodies ps) ≡ right_side_faults k xs (right_side (bodies ps) no_declarations)
  no_more = sym (append-nil (bodies_faults k xs (bodies ps))) ∙ ap (λ fs. bodies_faults k xs (bodies ps) ++ (fs ++ [])) (sym no_list_faults)

  pub side_noted : (w after : Walking) → after ≡ noting (parts_faults k xs ps) w → after ≡ noting (right_side_faults k xs r) w
  side_noted w after e = e ∙ ap (λ fs. noting fs w) (parts_are k xs ps ∙ (no_more ∙ sym (ap (right_side_faults k xs) alone)))

pub all_noted : (k : Lookups) (ds xs ys : List Declaration) (start mid last : Walking) (faults : List Fault) → start ≡ record { known = k; groups = []; faults = [] } → xs ≡ ds → ys ≡ ds
    → mid ≡ noting (list_faults (declarations xs)) start → last ≡ noting (declarations_faults mid.known (locals_of mid) (declarations ys)) mid → faults ≡ last.faults
    → list_faults (declarations ds) ++ declarations_faults k [] (declarations ds) ≡ faults
all_noted k ds xs ys start mid last faults s ex ey m l f =
    let first : mid ≡ noting (list_faults (declarations ds)) (record { known = k; groups = []; faults = [] }) = m ∙ ap₂ (λ (zs : List Declaration) (w : Walking). noting (list_faults (declarations zs)) w) ex s in
    let second : last ≡ noting (declarations_faults k [] (declarations ds)) (noting (list_faults (declarations ds)) (record { known = k; groups = []; faults = [] })) =
    l ∙ ap₂ (λ (w : Walking) (zs : List Declaration). noting (declarations_faults w.known (locals_of w) (declarations zs)) w) first ey in
    sym (f ∙ ap (λ (w : Walking). w.faults) second)
