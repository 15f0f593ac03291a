use Rattle.std.proofs.Common.{rules, ◌≡◌}
use Rattle.hm_syntax.specs.Lists.{constructors}
use Rattle.hm_syntax.specs.Trees.{data_declaration}
use Rattle.hm_uses_symbols.proofs.Listed.{data_declared}
use Rattle.hm_uses_symbols.proofs.declared.add_declared.Goals as goal

pub returns-in_ok-add_constructors-in-DataType : goal.returns-in_ok-add_constructors-in-DataType
returns-in_ok-add_constructors-in-DataType c =
    let is : c.args.decl.now ≡ data_declaration c.in-DataType.name c.in-DataType.params.items (constructors c.in-DataType.constrs.items) = search rules in
    data_declared c.args.found.now.items c.push.new.self.items c.add_constructors.new.found.items c.new.result c.in-DataType.name c.in-DataType.params.items c.deref.result.now c.in-DataType.constrs.items c.args.decl.now is c.new.ensures
    c.in_ok-push-in-DataType.ensures.items c.in_ok-add_constructors-in-DataType.ensures c.deref.ensures.value
