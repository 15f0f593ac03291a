use Rattle.std.proofs.Common.{sym, subst}
use Rattle.hm_syntax.specs.declared.ast.Export.{Export}
use Rattle.hm_names.specs.Bindings.{Adds}
use Rattle.hm_scope_exports.specs.ExportItems.{GivesPair, ItemFault}
use Rattle.hm_scope_exports.proofs.exports.add_item.Goals as goal

pub returns-in_ok-add_value-in-Var-clause-given : goal.returns-in_ok-add_value-in-Var-clause-given
returns-in_ok-add_value-in-Var-clause-given c = λ m fs e. subst (λ (i : Export). Adds c.args.out.now.items c.add_value.new.out.items (GivesPair m fs i)) (sym c.in-Var.is) (c.in_ok-add_value-in-Var.ensures.given m fs e)

pub returns-in_ok-add_value-in-Var-clause-faults : goal.returns-in_ok-add_value-in-Var-clause-faults
returns-in_ok-add_value-in-Var-clause-faults c = λ m fs e. subst (λ (i : Export). Adds c.args.faults.now.items c.add_value.new.faults.items (ItemFault m fs i)) (sym c.in-Var.is) (c.in_ok-add_value-in-Var.ensures.faults m fs e)

pub returns-in_ok-add_type-in-Con-clause-given : goal.returns-in_ok-add_type-in-Con-clause-given
returns-in_ok-add_type-in-Con-clause-given c = λ m fs e. subst (λ (i : Export). Adds c.args.out.now.items c.add_type.new.out.items (GivesPair m fs i)) (sym c.in-Con.is) (c.in_ok-add_type-in-Con.ensures.given m fs e)

pub returns-in_ok-add_type-in-Con-clause-faults : goal.returns-in_ok-add_type-in-Con-clause-faults
returns-in_ok-add_type-in-Con-clause-faults c = λ m fs e. subst (λ (i : Export). Adds c.args.faults.now.items c.add_type.new.faults.items (ItemFault m fs i)) (sym c.in-Con.is) (c.in_ok-add_type-in-Con.ensures.faults m fs e)

pub returns-in_ok-add_whole-in-Whole-clause-given : goal.returns-in_ok-add_whole-in-Whole-clause-given
returns-in_ok-add_whole-in-Whole-clause-given c = λ m fs e. subst (λ (i : Export). Adds c.args.out.now.items c.add_whole.new.out.items (GivesPair m fs i)) (sym c.in-Whole.is) (c.in_ok-add_whole-in-Whole.ensures.given m fs e)

pub returns-in_ok-add_whole-in-Whole-clause-faults : goal.returns-in_ok-add_whole-in-Whole-clause-faults
returns-in_ok-add_whole-in-Whole-clause-faults c = λ m fs e. subst (λ (i : Export). Adds c.args.faults.now.items c.add_whole.new.faults.items (ItemFault m fs i)) (sym c.in-Whole.is) (c.in_ok-add_whole-in-Whole.ensures.faults m fs e)
