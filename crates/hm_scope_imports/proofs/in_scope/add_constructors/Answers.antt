use Rattle.std.proofs.Common.{ℕ, List, false, subst, ap}
use Rattle.hm_syntax.specs.Trees.{DataConstructor}
use Rattle.hm_names.specs.Bindings.{Adds, IsPairOf}
use Rattle.hm_names.specs.Entities.{named, constructor_name}
use Rattle.hm_names.specs.declared.namespace.Namespace.TheVariants.{Constructors}
use Rattle.hm_names.proofs.AddedPairs.{for_more, for_all}
use Rattle.hm_scope_imports.proofs.in_scope.add_constructors.Goals as goal

pub loop-constr-preserved : goal.loop-constr-preserved
loop-constr-preserved c =
    for_more (λ (k : DataConstructor). IsPairOf false c.args.module_name.now Constructors (constructor_name k).text (named c.args.module_name.now (constructor_name k).text)) c.args.pairs.now.items c.loop-constr.pairs.items c.add_own.new.pairs.items c.args.constrs.now c.loop-constr.constr-index c.constr-item.result c.loop-constr-test.true c.constr-item.is c.loop-constr.invariant (subst (λ (x : List ℕ). Adds c.loop-constr.pairs.items c.add_own.new.pairs.items (IsPairOf false c.args.module_name.now Constructors x (named c.args.module_name.now x)))
    (ap (λ (k : DataConstructor). (constructor_name k).text) c.constr.view_is) c.in_ok-add_own.ensures)

pub returns : goal.returns
returns c = for_all (λ (k : DataConstructor). IsPairOf false c.args.module_name.now Constructors (constructor_name k).text (named c.args.module_name.now (constructor_name k).text)) c.args.pairs.now.items c.loop-constr.pairs.items c.args.constrs.now c.loop-constr.constr-index c.loop-constr-test.false c.loop-constr.invariant
