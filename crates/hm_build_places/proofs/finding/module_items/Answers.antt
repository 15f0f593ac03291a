use Rattle.std.proofs.Common.{rules, ◌≡◌, ◌∙◌, ap, map, subst, sym}
use Rattle.std.specs.Arc.{arc_value}
use Rattle.hm_types.specs.Interfaces.{Exports as Interface}
use Rattle.hm_names.specs.Imports.{AreImportsOf}
use Rattle.hm_scope_imports.proofs.Apart.{imports_are_apart}
use Rattle.hm_verdicts.specs.Sets.{imports_of, module_at}
use Rattle.hm_verdicts.specs.Verdicts.{ArePublished}
use Rattle.hm_build_place_texts.specs.Facts.{item_of}
use Rattle.hm_build_places.specs.Answers.{AreParts, IsUseItem, of_skipped, of_uses, uses_on, with_column}
use Rattle.hm_build_places.specs.Known.{HasNoUses, origin_of}
use Rattle.hm_build_places.specs.Views.{known_of}
use Rattle.hm_build_places.proofs.Looked.{has_uses}
use Rattle.hm_build_places.proofs.finding.module_items.Goals as goal

pub uses_of-requires : goal.uses_of-requires
uses_of-requires c =
    let m = module_at (known_of c.args.view.now).set c.args.number in
    let are : AreImportsOf m (map arc_value c.in-Some.imports.items) = search rules in
    imports_are_apart m c.deref-prelude.result.now (map arc_value c.as_slice.result.now) (ap (λ (f : Interface). f.name) (c.deref-prelude.ensures ∙ c.interface.ensures))
    (subst (λ l. AreImportsOf m (map arc_value l)) (sym c.as_slice.ensures.value) are)

pub returns-in_default : goal.returns-in_default
returns-in_default c =
    let k = known_of c.args.view.now in
    let origin : origin_of k c.args.number ≡ c.args.spot.source = search rules in
    let none : HasNoUses k c.args.number = search rules in
    let found = c.in_ok-closed_items.ensures in
    of_skipped {us = found.0} origin none found.1.0 found.1.1

pub returns : goal.returns
returns c =
    let k = known_of c.args.view.now in
    let i = c.args.number in
    let place = with_column c.args.spot.line c.args.spot.column in
    let us = c.in_ok-uses.uses.items in
    let items = map item_of c.in_ok-items_of.field-0.items in
    let origin : origin_of k i ≡ c.args.spot.source = search rules in
    let published : ArePublished k.status (imports_of k.set i) (map arc_value c.in-Some.imports.items) = search rules in
    let uses = has_uses k i c.module_of.result.now c.deref-prelude.result.now (map arc_value c.in-Some.imports.items) (map arc_value c.as_slice.result.now) us
    c.module_of.ensures (c.deref-prelude.ensures ∙ c.interface.ensures) (ap (map arc_value) c.as_slice.ensures.value) published c.in_ok-uses.ensures in
    let names : map (λ u. u.now) c.as_slice-3.result.now ≡ uses_on place us =
    ap (map (λ u. u.now)) c.as_slice-3.ensures.value ∙ (c.in_ok-found.ensures ∙ ap (uses_on place) c.as_slice-2.ensures.value) in
    of_uses {us = us} origin uses (subst (λ l. AreParts (IsUseItem k i) l items) names c.in_ok-items_of.ensures)
