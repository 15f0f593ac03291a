use Rattle.std.proofs.Common.{◌+◌, false, length, arith, sym, subst, refl}
use Rattle.hm_types.specs.Shape.{type_of}
use Rattle.hm_syntax.specs.Lists.{patterns}
use Rattle.hm_typing.specs.Names.{Identifier}
use Rattle.hm_typing.specs.Schemes.{Monotype}
use Rattle.hm_typing.specs.Syntax.{bool, patterns_names}
use Rattle.hm_infer_context.specs.Problems.{monotype}
use Rattle.hm_infer_context.specs.Patterns.{HaveTypes, AreGiven, IsMatched, RefusesMatch}
use Rattle.hm_names.specs.Syntax.{patterns_of}
use Rattle.hm_infer_context.specs.Constructors.{known_of}
use Rattle.hm_infer_context.proofs.MatchedForms.{AsksAll, numbers_given}
use Rattle.hm_infer_context.proofs.OpenedFunctions.{FunctionTaken, opened_answers, opened_refused_first, opened_refused_second, opening_passed}
use Rattle.hm_infer_context.proofs.functions.open_function.Goals as goal

pub returns-in_err-first-clause-opened : goal.returns-in_err-first-clause-opened
returns-in_err-first-clause-opened c =
    opening_passed (patterns_of (known_of c.args.constructors.now) (patterns c.args.pats.now)) (monotype (type_of c.args.t.now)) c.args.inference.now.solver c.function_parts.new.solver c.args.inference.now.environment c.args.inference.now.environment c.from_residual.result c.in_err-first.field-0.0 c.from_residual.ensures.1
    (opened_refused_first (known_of c.args.constructors.now) c.args.pats.now (type_of c.args.t.now) (length c.args.pats.now) c.args.inference.now.solver c.in_err-first.field-0.0 refl c.in_err-first.ensures.below c.requires.given c.in_err-first.ensures.answers)

pub match_patterns-requires-clause-given : goal.match_patterns-requires-clause-given
match_patterns-requires-clause-given c = λ j h.
    numbers_given (FunctionTaken (type_of c.args.t.now) c.args.inference.now.solver.given (length c.args.pats.now)) c.args.inference.now.solver c.function_parts.new.solver ((length c.args.pats.now) + 1) c.in_ok-first.first c.in_ok-first.ensures.answers c.in_ok-first.ensures.first j (omega (arith, h))

pub match_patterns-requires-clause-fits : goal.match_patterns-requires-clause-fits
match_patterns-requires-clause-fits c = omega (arith, c.in_ok-first.ensures.fits)

pub match_patterns-requires-clause-variables : goal.match_patterns-requires-clause-variables
match_patterns-requires-clause-variables c = subst (AreGiven c.function_parts.new.solver.given) (sym c.new-variables.ensures) tt

pub match_patterns-requires-clause-typed : goal.match_patterns-requires-clause-typed
match_patterns-requires-clause-typed c = ((λ x. bool), subst (HaveTypes (λ x. bool)) (sym c.new-variables.ensures) tt)

pub returns-in_err-match_patterns-clause-opened : goal.returns-in_err-match_patterns-clause-opened
returns-in_err-match_patterns-clause-opened c =
    opening_passed (patterns_of (known_of c.args.constructors.now) (patterns c.args.pats.now)) (monotype (type_of c.args.t.now)) c.args.inference.now.solver c.match_patterns.new.solver c.args.inference.now.environment c.args.inference.now.environment c.from_residual-in_err-match_patterns.result c.in_err-match_patterns.field-0.0 c.from_residual-in_err-match_patterns.ensures.1
    (opened_refused_second (known_of c.args.constructors.now) c.args.pats.now (type_of c.args.t.now) (length c.args.pats.now) c.in_ok-first.first c.args.inference.now.solver c.function_parts.new.solver c.in_err-match_patterns.field-0.0 refl c.in_ok-first.ensures.first c.in_ok-first.ensures.below c.requires.given c.in_ok-first.ensures.answers
    (subst (λ vs. (τ : Identifier → Monotype) → HaveTypes τ vs → RefusesMatch (AsksAll (known_of c.args.constructors.now) (patterns c.args.pats.now) false c.in_ok-first.first 0) c.function_parts.new.solver vs τ c.in_err-match_patterns.field-0.0) c.new-variables.ensures c.in_err-match_patterns.ensures))

pub returns-clause-opened : goal.returns-clause-opened
returns-clause-opened c =
    opened_answers (known_of c.args.constructors.now) c.args.pats.now (type_of c.args.t.now) (length c.args.pats.now) c.in_ok-first.first c.args.inference.now.solver c.function_parts.new.solver c.match_patterns.new.solver c.match_patterns.new.variables c.args.inference.now.environment c.bind_variables.new.self refl c.in_ok-first.ensures.first c.in_ok-first.ensures.below c.requires.given c.requires.assumed c.in_ok-first.ensures.answers
    (subst (λ vs. (τ : Identifier → Monotype) → HaveTypes τ vs → (τ1 : Identifier → Monotype) × IsMatched (AsksAll (known_of c.args.constructors.now) (patterns c.args.pats.now) false c.in_ok-first.first 0) (patterns_names (patterns_of (known_of c.args.constructors.now) (patterns c.args.pats.now))) c.function_parts.new.solver vs τ c.match_patterns.new.solver c.match_patterns.new.variables τ1) c.new-variables.ensures c.in_ok-match_patterns.ensures) c.in_ok-bind_variables.ensures.bound
