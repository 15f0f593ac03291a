use Rattle.std.proofs.Common.{◌∷◌, ◌∙◌, ap, map, subst}
use Rattle.std.specs.Arc.{arc_value}
use Rattle.std.specs.Result.{IfOk}
use Rattle.hm_types.specs.Interfaces.{Exports as Interface}
use Rattle.hm_scope.specs.Answers.{IsAnswer}
use Rattle.hm_scope.specs.Outcome.{IsOutcome}
use Rattle.hm_scope_imports.proofs.Apart.{imports_are_apart}
use Rattle.hm_scope.proofs.scoping.core_or_faults.Goals as goal

pub phases_answer-requires : goal.phases_answer-requires
phases_answer-requires c = imports_are_apart c.args.module.now c.deref.result.now (map arc_value c.args.imports.now) (ap (λ (p : Interface). p.name) (c.deref.ensures ∙ c.interface-prelude.ensures)) c.requires

pub outcome_of-requires : goal.outcome_of-requires
outcome_of-requires c = subst (λ (p : Interface). IsAnswer c.args.module.now (p ∷ map arc_value c.args.imports.now) c.in_ok-answer.answer) c.deref.ensures c.in_ok-answer.ensures

pub returns : goal.returns
returns c = subst (λ (p : Interface). IfOk c.outcome_of.result (IsOutcome c.args.module.now (p ∷ map arc_value c.args.imports.now))) c.interface-prelude.ensures c.outcome_of.ensures
