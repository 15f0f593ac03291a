use Rattle.std.proofs.Common.{sym, subst}
use Rattle.hm_types.specs.Shape.{type_of}
use Rattle.hm_typing.specs.Names.{Identifier}
use Rattle.hm_typing.specs.Schemes.{Monotype}
use Rattle.hm_typing.specs.Syntax.{bool, pattern, no_pattern, pattern_names}
use Rattle.hm_infer_context.specs.Patterns.{HaveTypes, AreGiven, IsMatched, RefusesMatch}
use Rattle.hm_names.specs.Syntax.{pattern_of}
use Rattle.hm_infer_context.specs.Constructors.{known_of}
use Rattle.hm_infer_context.proofs.Entered.{choice_type, AsksChoice, entered_answers, entered_refused, entering_passed}
use Rattle.hm_infer_context.proofs.functions.open_alternative.Goals as goal

pub match_pattern-requires-clause-variables : goal.match_pattern-requires-clause-variables
match_pattern-requires-clause-variables c = subst (AreGiven c.args.inference.now.solver.given) (sym c.new-variables.ensures) tt

pub match_pattern-requires-clause-typed : goal.match_pattern-requires-clause-typed
match_pattern-requires-clause-typed c = ((λ x. bool), subst (HaveTypes (λ x. bool)) (sym c.new-variables.ensures) tt)

pub returns-in_err-match_pattern-clause-opened : goal.returns-in_err-match_pattern-clause-opened
returns-in_err-match_pattern-clause-opened c =
    entering_passed (pattern (pattern_of (known_of c.args.constructors.now) c.args.pat.now) no_pattern) (choice_type c.args.first (type_of c.args.t.now)) (type_of c.args.t.now) c.args.inference.now.solver c.match_pattern.new.solver c.args.inference.now.environment c.args.inference.now.environment c.from_residual.result c.in_err-match_pattern.field-0.0 c.from_residual.ensures.1
    (entered_refused (known_of c.args.constructors.now) c.args.pat.now c.args.first (type_of c.args.t.now) c.args.inference.now.solver c.in_err-match_pattern.field-0.0
    (subst (λ vs. (τ : Identifier → Monotype) → HaveTypes τ vs → RefusesMatch (AsksChoice (known_of c.args.constructors.now) c.args.pat.now c.args.first) c.args.inference.now.solver vs τ c.in_err-match_pattern.field-0.0) c.new-variables.ensures c.in_err-match_pattern.ensures))

pub returns-clause-opened : goal.returns-clause-opened
returns-clause-opened c =
    entered_answers (known_of c.args.constructors.now) c.args.pat.now c.args.first (type_of c.args.t.now) c.args.inference.now.solver c.match_pattern.new.solver c.match_pattern.new.variables c.args.inference.now.environment c.bind_variables.new.self c.requires.given c.requires.assumed
    (subst (λ vs. (τ : Identifier → Monotype) → HaveTypes τ vs → (τ1 : Identifier → Monotype) × IsMatched (AsksChoice (known_of c.args.constructors.now) c.args.pat.now c.args.first) (pattern_names (pattern_of (known_of c.args.constructors.now) c.args.pat.now)) c.args.inference.now.solver vs τ c.match_pattern.new.solver c.match_pattern.new.variables τ1) c.new-variables.ensures c.in_ok-match_pattern.ensures) c.in_ok-bind_variables.ensures.bound
