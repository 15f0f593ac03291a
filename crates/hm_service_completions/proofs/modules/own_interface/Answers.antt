use Rattle.std.proofs.Common.{rules, ◌≡◌, ◌∙◌, None, Some, ap, sym}
use Rattle.std.specs.Arc.{arc_value}
use Rattle.hm_store.specs.Builds.{interface_at}
use Rattle.hm_service_completions.proofs.OwnInterfaces.{own_is}
use Rattle.hm_service_completions.proofs.modules.own_interface.Goals as goal

pub returns-in-Some : goal.returns-in-Some
returns-in-Some c =
    let store = c.args.view.now.store.now in
    let kept : interface_at store.kept c.args.number ≡ Some (arc_value c.in-Some.interface.now) = search rules in
    ap Some c.deref.ensures ∙ (sym kept ∙ sym (own_is store c.args.number))

pub returns-in-None : goal.returns-in-None
returns-in-None c =
    let store = c.args.view.now.store.now in
    let none : interface_at store.kept c.args.number ≡ None = search rules in
    sym none ∙ sym (own_is store c.args.number)
