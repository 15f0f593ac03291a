use Rattle.std.proofs.Common.{rules, ◌≡◌, ◌∙◌, ◌∷◌, ◌++◌, [], Some, ap, get_or, map, None}
use Rattle.std.specs.Arc.{arc_value}
use Rattle.std.proofs.lemmas.List.{map-append}
use Rattle.hm_store.specs.Builds.{interface_at}
use Rattle.hm_store.specs.Settlements.{settlement}
use Rattle.hm_service_references.proofs.Looked.{looked_up, not_all, not_looked_up, taken_published}
use Rattle.hm_service_references.proofs.imported.published.Goals as goal

pub loop-number-preserved : goal.loop-number-preserved
loop-number-preserved c =
    let store = c.args.store.now in
    let numbers = c.args.numbers.now in
    let at = c.loop-number.number-index in
    let old = c.loop-number.interfaces.items in
    let new = c.push.new.self.items in
    let f = arc_value c.in-Some.interface.now in
    let kept : interface_at store.kept (get_or numbers at 0) ≡ Some f = search rules in
    let cloned : arc_value c.in_ok-clone-in-Some.field-0 ≡ f = search rules in
    let pushed : map arc_value new ≡ map arc_value old ++ f ∷ [] =
    ap (map arc_value) c.in_ok-push-in-Some.ensures.items ∙ (map-append arc_value old (c.in_ok-clone-in-Some.field-0 ∷ []) ∙ ap (λ g. map arc_value old ++ g ∷ []) cloned) in
    taken_published (settlement store) numbers at 0 (map arc_value old) (map arc_value new) f c.loop-number-test.true c.loop-number.invariant (looked_up store (get_or numbers at 0) f kept) pushed

pub returns-in-None-clause-none : goal.returns-in-None-clause-none
returns-in-None-clause-none c fs =
    let store = c.args.store.now in
    let numbers = c.args.numbers.now in
    let at = c.loop-number.number-index in
    let none : interface_at store.kept (get_or numbers at 0) ≡ None = search rules in
    not_all (settlement store) numbers at 0 fs c.loop-number-test.true (λ f. not_looked_up store (get_or numbers at 0) f none)
