use Rattle.hm_types.specs.Monotypes.{rigid}
use Rattle.hm_types.specs.Types.{Var as leaf}
use Rattle.hm_types.specs.Shape.{type_of}
use Rattle.std.proofs.Common.{sym}
use Rattle.hm_unify.specs.Steps.{pendings_of}
use Rattle.hm_unify.proofs.Pairs.{pushed_right, leaves_same, lighter_same, never_other}
use Rattle.hm_unify.proofs.steps.push_rigid.Goals as goal

pub returns-in-Var-clause-leaves : goal.returns-in-Var-clause-leaves
returns-in-Var-clause-leaves c = λ _. pushed_right (pendings_of c.args.work.now.items) _ (leaf (rigid c.args.number)) c.args.right c.in-Var.variable c.in-Var.is c.in_ok-push_variable.ensures

pub returns-clause-leaves : goal.returns-clause-leaves
returns-clause-leaves c = λ fit. leaves_same (pendings_of c.args.work.now.items) (leaf (rigid c.args.number)) (type_of c.args.right) (sym (c.is_rigid.ensures.0 fit))

pub returns-clause-lighter : goal.returns-clause-lighter
returns-clause-lighter c = λ _ _. lighter_same (pendings_of c.args.work.now.items) (leaf (rigid c.args.number)) (type_of c.args.right)

pub returns-clause-differ : goal.returns-clause-differ
returns-clause-differ c = λ no. never_other (pendings_of c.args.work.now.items) c.args.number c.args.right c.in_default.not-Var (λ same. let yes = c.is_rigid.ensures.1 same in absurd (cc))
