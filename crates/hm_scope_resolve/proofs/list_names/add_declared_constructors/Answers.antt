use Rattle.std.proofs.Common.{◌≡◌, ◌++◌, ◌∙◌, ap, sym, subst, map}
use Rattle.hm_syntax.specs.Trees.{Declaration, more_declarations}
use Rattle.hm_syntax.specs.Views.OfExpressions.{declaration_of}
use Rattle.hm_names.specs.Entities.{constructor_name}
use Rattle.hm_names.specs.Faults.Lists.{constructor_names}
use Rattle.hm_scope_resolve.proofs.Clauses.{data_more}
use Rattle.hm_scope_resolve.proofs.list_names.add_declared_constructors.Goals as goal

pub returns-in_ok-add_constructors-in-DataType : goal.returns-in_ok-add_constructors-in-DataType
returns-in_ok-add_constructors-in-DataType c = λ ds.
    let seen = ap declaration_of (sym c.in-DataType.is) ∙ c.decl.view_is in
    subst (λ (d : Declaration). c.add_constructors.new.out ++ constructor_names ds ≡ c.args.out.now ++ constructor_names (more_declarations d ds)) seen
    (data_more c.add_constructors.new.out c.args.out.now c.in-DataType.name c.in-DataType.params.items c.in-DataType.constrs.items (c.in_ok-add_constructors-in-DataType.ensures ∙ ap (λ l. c.args.out.now ++ map constructor_name l) c.deref.ensures.value) ds)
