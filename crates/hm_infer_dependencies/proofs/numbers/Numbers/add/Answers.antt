use Rattle.std.proofs.Common.{◌≡◌, Some, sym, ◌∙◌, ap, length, ◌++◌, ◌∷◌, [], ◌-◌, cond, subst, arith, List, Option, vec_len}
use Rattle.std.specs.Map.{lookup}
use Rattle.std.proofs.lemmas.List.{length-map}
use Rattle.hm_names_keys.specs.Variables.{Variable, variable_of}
use Rattle.hm_names_keys.specs.Keys.{number_of, same_variable, variable_of_key}
use Rattle.hm_infer_dependencies.specs.Numberings.{nodes_of, IsNode, IsNumbering}
use Rattle.hm_names_keys.proofs.SameVariables.{updated}
use Rattle.hm_infer_dependencies.proofs.Numberings.{AreQualified, few_more, more_qualified, pushed_qualified, IsNumbering-more, IsNumbering-same, nodes_of-push}
use Rattle.hm_names_keys.proofs.Pushed.{take_all_but}
use Rattle.hm_infer_dependencies.proofs.numbers.Numbers.add.Goals as goal

pub invariant_of-self-in-Ok : goal.invariant_of-self-in-Ok
invariant_of-self-in-Ok c =
    let nodes : List (Option Variable) = nodes_of c.self.inside.nodes.items in
    let x : Variable = variable_of c.args.name.now in
    let count : c.len-number.result ≡ length nodes = omega (arith, c.len-number.ensures, c.self.inside.nodes.ok.0, length-map c.self.inside.nodes.items (λ k. Rattle.std.specs.Prelude.option_map variable_of_key k)) in
    let u : (y : Variable) → number_of c.insert.new.self y ≡ cond (same_variable x y) (Some (length nodes)) (number_of c.self.inside.table y) =
    λ y. updated c.self.inside.table c.insert.new.self c.key_of-key.result x (Some c.len-number.result) c.key_of-key.ensures c.in-Ok.ensures.updates.0 y ∙ ap (λ n. cond (same_variable x y) (Some n) (number_of c.self.inside.table y)) count in
    let is = ap nodes_of c.in_ok-push.ensures.items ∙ (nodes_of-push c.self.inside.nodes.items (Some c.key_of-key.result) ∙ ap (λ z. nodes ++ Some z ∷ []) c.key_of-key.ensures) in
    record {
      numbered = subst (λ ns. IsNumbering ns c.insert.new.self) (sym is) (IsNumbering-more nodes c.self.inside.table c.insert.new.self x c.self.invariant.numbered (subst (λ ns. ¬ (IsNode ns x)) (sym c.self.view_is) c.in-None.ensures.none) (omega (arith, c.if-number-lt-FEW.false, count)) u);
      qualified = subst (λ ns. AreQualified ns c.with-self-inside.result) (sym is) (pushed_qualified nodes c.self.inside.qualifiers c.with-self-inside.result x (variable_of_key c.key_of-key.result) c.self.invariant.qualified c.with-self-inside.ensures.old c.key_of-key.ensures c.with-self-inside.ensures.new);
    }

pub invariant_of-self-then-number-lt-FEW : goal.invariant_of-self-then-number-lt-FEW
invariant_of-self-then-number-lt-FEW c =
    let nodes : List (Option Variable) = nodes_of c.self.inside.nodes.items in
    let x : Variable = variable_of c.args.name.now in
    let count : c.len-number.result ≡ length nodes = omega (arith, c.len-number.ensures, c.self.inside.nodes.ok.0, length-map c.self.inside.nodes.items (λ k. Rattle.std.specs.Prelude.option_map variable_of_key k)) in
    let is = ap nodes_of c.in_ok-push.ensures.items ∙ (nodes_of-push c.self.inside.nodes.items (Some c.key_of-key.result) ∙ ap (λ z. nodes ++ Some z ∷ []) c.key_of-key.ensures) in
    record {
      numbered = subst (λ ns. IsNumbering ns c.self.inside.table) (sym is) (few_more nodes c.self.inside.table x c.self.invariant.numbered (subst (λ ns. ¬ (IsNode ns x)) (sym c.self.view_is) c.in-None.ensures.none) (omega (arith, c.if-number-lt-FEW.true, count)));
      qualified = subst (λ ns. AreQualified ns c.with-self-inside.result) (sym is) (pushed_qualified nodes c.self.inside.qualifiers c.with-self-inside.result x (variable_of_key c.key_of-key.result) c.self.invariant.qualified c.with-self-inside.ensures.old c.key_of-key.ensures c.with-self-inside.ensures.new);
    }

pub invariant_of-self-in-Err : goal.invariant_of-self-in-Err
invariant_of-self-in-Err c =
    let long : vec_len c.push.new.self - 1 ≡ length c.self.inside.nodes.items = omega (arith, c.in_ok-push.ensures.len, c.self.inside.nodes.ok.0) in
    let is = ap nodes_of (c.pop.ensures.rest ∙ take_all_but c.self.inside.nodes.items c.push.new.self.items (vec_len c.push.new.self - 1) (Some c.key_of-key.result) long c.in_ok-push.ensures.items) in
    record {
      numbered = IsNumbering-same (nodes_of c.self.inside.nodes.items) (nodes_of c.pop.new.self.items) c.self.inside.table c.insert.new.self c.self.invariant.numbered is (λ y. ap (lookup (λ k. same_variable y (variable_of_key k))) c.in-Err.ensures.err);
      qualified = subst (λ ns. AreQualified ns c.with-self-inside.result) (sym is) (more_qualified (nodes_of c.self.inside.nodes.items) c.self.inside.qualifiers c.with-self-inside.result c.self.invariant.qualified c.with-self-inside.ensures.old);
    }
