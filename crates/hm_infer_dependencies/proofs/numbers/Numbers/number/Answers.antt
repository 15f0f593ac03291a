use Rattle.std.proofs.Common.{◌≡◌, Some, None, sym, subst, ◌∙◌, take, arith}
use Rattle.std.specs.List.{slice_get}
use Rattle.hm_names_keys.specs.Variables.{Variable, variable_of}
use Rattle.hm_names_keys.specs.Keys.{number_of}
use Rattle.hm_names_keys.proofs.SameVariables.{look_up}
use Rattle.hm_infer_dependencies.specs.Numberings.{nodes_of, few, IsNode, MayHave}
use Rattle.hm_infer_dependencies.proofs.Numberings.{no_other, none_of_all}
use Rattle.hm_infer_dependencies.proofs.numbers.Numbers.number.Goals as goal

pub returns-in-Some-clause-some : goal.returns-in-Some-clause-some
returns-in-Some-clause-some c =
    rw (← c.self.view_is) (subst (λ (y : Variable). slice_get (nodes_of c.self.inside.nodes.items) c.in-Some.number ≡ Some (Some y)) c.key_of-key.ensures (rw c.deref.ensures.value at c.in-Some.ensures))

pub returns-then-len-le-FEW-clause-none : goal.returns-then-len-le-FEW-clause-none
returns-then-len-le-FEW-clause-none c =
    let x = variable_of c.args.name.now in
    let absent : ¬ (IsNode (nodes_of (take few c.self.inside.nodes.items)) x) =
    subst (λ (y : Variable). ¬ (IsNode (nodes_of (take few c.self.inside.nodes.items)) y)) c.key_of-key.ensures (rw c.deref.ensures.value at c.in-None.ensures) in
    rw (← c.self.view_is) (none_of_all c.self.inside.nodes.items x (omega (arith, c.if-len-le-FEW.true, c.len.ensures, c.self.inside.nodes.ok.0)) absent)

pub returns-in-Some-get-clause-some : goal.returns-in-Some-get-clause-some
returns-in-Some-get-clause-some c =
    let e : number_of c.self.inside.table (variable_of c.args.name.now) ≡ Some c.in-Some-get.number.now =
    sym (look_up c.self.inside.table c.key_of-key.result (variable_of c.args.name.now) c.key_of-key.ensures) ∙ sym c.in-Some-get.ensures.value in
    rw (← c.self.view_is) (c.self.invariant.numbered.some (variable_of c.args.name.now) c.in-Some-get.number.now e)

pub returns-in-None-get-clause-none : goal.returns-in-None-get-clause-none
returns-in-None-get-clause-none c =
    let x = variable_of c.args.name.now in
    let absent : ¬ (IsNode (nodes_of (take few c.self.inside.nodes.items)) x) =
    subst (λ (y : Variable). ¬ (IsNode (nodes_of (take few c.self.inside.nodes.items)) y)) c.key_of-key.ensures (rw c.deref.ensures.value at c.in-None.ensures) in
    let e : number_of c.self.inside.table x ≡ None = sym (look_up c.self.inside.table c.key_of-key.result x c.key_of-key.ensures) ∙ sym c.in-None-get.ensures.value in
    rw (← c.self.view_is) (no_other c.self.inside.nodes.items c.self.inside.table x c.self.invariant.numbered absent e)

pub returns-then-not-may_have-clause-none : goal.returns-then-not-may_have-clause-none
returns-then-not-may_have-clause-none c = λ node.
    let x = variable_of c.args.name.now in
    let may = c.self.invariant.qualified x (subst (λ ns. IsNode ns x) (sym c.self.view_is) node) in
    c.may_have.ensures c.if-not-may_have.true (subst (λ (v : Variable). MayHave c.self.inside.qualifiers v.qualifier) (sym c.key_of-key.ensures) may)
