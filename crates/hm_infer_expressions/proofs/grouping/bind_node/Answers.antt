use Rattle.std.proofs.Common.{[], ◌∷◌, refl, Some, ap, ◌∙◌}
use Rattle.std.specs.Prelude.{option_map}
use Rattle.hm_names_keys.specs.Keys.{variable_of_key}
use Rattle.hm_names_keys.specs.Variables.{identifier}
use Rattle.hm_infer_expressions.proofs.Naming.{binds_skipped, node_unwritten, node_bound}
use Rattle.hm_infer_expressions.proofs.grouping.bind_node.Goals as goal

pub returns-in_default-clause-bound : goal.returns-in_default-clause-bound
returns-in_default-clause-bound c = λ k all e xs σ base b s.
    binds_skipped xs σ base c.args.environment.now _ b (node_unwritten k all c.args.numbers.now c.args.node e (c.variable.ensures ∙ ap (λ o. Some (option_map variable_of_key o)) c.in_default.is))

pub returns-clause-bound : goal.returns-clause-bound
returns-clause-bound c = λ k all e. node_bound k all c.args.numbers.now c.args.node _ (identifier (variable_of_key c.in-Some.name)) _ c.args.environment.now c.bind.new.self e (c.variable.ensures ∙ ap (λ o. Some (option_map variable_of_key o)) c.in-Some.is) refl c.in_ok-bind.ensures.bound

pub returns-in_default-clause-kept : goal.returns-in_default-clause-kept
returns-in_default-clause-kept c = ([], refl)

pub returns-clause-kept : goal.returns-clause-kept
returns-clause-kept c = (_ ∷ [], c.in_ok-bind.ensures.bound)

pub returns-in_err-bind-clause-kept : goal.returns-in_err-bind-clause-kept
returns-in_err-bind-clause-kept c = ([], c.in_err-bind.ensures.same)
