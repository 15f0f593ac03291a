use Rattle.std.proofs.Common.{subst}
use Rattle.hm_names.specs.declared.namespace.Namespace.TheVariants.{Constructors}
use Rattle.hm_scope_tables.specs.Meanings.{IsMeaning}
use Rattle.hm_messages_details.proofs.Arities.{scoped}
use Rattle.hm_messages_details.proofs.counts.scoped_arity.Goals as goal

pub returns-in-Entity : goal.returns-in-Entity
returns-in-Entity c =
    let site = c.args.site.now in
    scoped site.program.now c.args.name.now site.scope.now site.tables.now c.in-Entity.entity c.constructor_arity.result
    (λ fs scope. subst (IsMeaning site.program.now fs Constructors c.args.name.now) c.in-Entity.is (c.meaning.ensures.means site.program.now fs scope)) c.constructor_arity.ensures
