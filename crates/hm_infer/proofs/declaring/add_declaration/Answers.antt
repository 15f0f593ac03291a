use Rattle.std.proofs.Common.{◌∙◌, sym, ap}
use Rattle.hm_syntax.specs.Views.OfExpressions.{declaration_of}
use Rattle.hm_infer.proofs.CoreTables.{data_schemes}
use Rattle.hm_infer.proofs.declaring.add_declaration.Goals as goal

pub returns-in_ok-add_constructors-in-DataType : goal.returns-in_ok-add_constructors-in-DataType
returns-in_ok-add_constructors-in-DataType c = data_schemes c.args.home.now c.in-DataType.name c.in-DataType.params.items c.deref.result.now c.in-DataType.constrs.items c.deref-in-DataType.result.now c.args.decl.now _ _ (ap declaration_of (sym c.in-DataType.is) ∙ c.decl.view_is) c.deref.ensures.value c.deref-in-DataType.ensures.value c.in_ok-add_constructors-in-DataType.ensures
