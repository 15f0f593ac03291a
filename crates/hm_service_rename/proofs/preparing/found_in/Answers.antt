use Rattle.std.proofs.Common.{rules, ◌≡◌, ◌∙◌, ◌<◌, IfSome, Vec, Global, ap, get_or, length, map, subst, sym, true, ℕ}
use Rattle.std.specs.List.{Any}
use Rattle.std.proofs.lemmas.List.{get_or-map, length-map}
use Rattle.hm_service_rename.proofs.Named.{target_found}
use Rattle.hm_service_rename.specs.Prepared.{place_in}
use Rattle.hm_uses_references.specs.References.{AreReferences}
use Rattle.hm_uses_references.specs.declared.finding.Reference.{Reference}
use Rattle.hm_service_rename.proofs.preparing.found_in.Goals as goal

pub returns : goal.returns
returns c =
    let names = c.args.names.now in
    let place = c.args.place.now in
    let items = c.in_ok-on.on.items in
    let item = c.index.result.now in
    let some : 0 < length items = search rules in
    let referring : AreReferences names place.source (place_in place) c.in-Some.references.items = search rules in
    let bound : Any (λ (x : Reference). x.binds ≡ true) c.in-Some.references.items = subst (Any (λ (x : Reference). x.binds ≡ true)) c.as_slice.ensures.value (c.is_bound.ensures.yes c.if-not-is_bound.false) in
    let first : item.now ≡ get_or (map (λ n. n.now) items) 0 item.now = ap (λ n. n.now) c.index.ensures ∙ sym (get_or-map (λ n. n.now) items 0 item item.now some) in
    target_found names (map (λ n. n.now) items) place.source (place_in place) item.now c.in_ok-target_of.field-0 c.in-Some.references.items c.in_ok-on.ensures
    (subst (λ (n : ℕ). 0 < n) (sym (length-map items (λ n. n.now))) some) first c.in_ok-target_of.ensures.reference c.in_ok-target_of.ensures.name referring bound
