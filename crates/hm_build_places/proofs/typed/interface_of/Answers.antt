use Rattle.std.proofs.Common.{rules, ◌≡◌, Some, None, subst, sym}
use Rattle.std.specs.Arc.{arc_value}
use Rattle.hm_store.specs.Builds.{interface_at}
use Rattle.hm_verdicts.specs.Verdicts.{Published}
use Rattle.hm_build_places.specs.Known.{IsNumberOf}
use Rattle.hm_build_places.specs.Typed.{not_good, of_module}
use Rattle.hm_build_places.specs.Views.{known_of}
use Rattle.hm_build_places.proofs.Looked.{looked_up, not_looked_up}
use Rattle.hm_build_places.proofs.typed.interface_of.Goals as goal

pub returns-in-Some-clause-some : goal.returns-in-Some-clause-some
returns-in-Some-clause-some c =
    let k = known_of c.args.view.now in
    let store = c.args.view.now.store.now in
    let i = c.in_ok-number.number in
    let f = arc_value c.in-Some.interface.now in
    let named : IsNumberOf k c.args.name.now i = search rules in
    let kept : interface_at store.kept i ≡ Some f = search rules in
    of_module named (subst (λ g. k.status i ≡ Published g) (sym c.deref-in-Some.ensures) (looked_up store i f kept))

pub returns-in-None-clause-none : goal.returns-in-None-clause-none
returns-in-None-clause-none c =
    let store = c.args.view.now.store.now in
    let i = c.in_ok-number.number in
    let named : IsNumberOf (known_of c.args.view.now) c.args.name.now i = search rules in
    let none : interface_at store.kept i ≡ None = search rules in
    not_good named (λ f. not_looked_up store i f none)
