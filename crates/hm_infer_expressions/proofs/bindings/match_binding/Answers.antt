use Rattle.std.proofs.Common.{sym, subst, arith}
use Rattle.hm_typing.specs.Syntax.{bool}
use Rattle.hm_names.specs.Syntax.{pattern_of}
use Rattle.hm_infer_context.specs.Constructors.{known_of}
use Rattle.hm_infer_context.specs.Kept.{variables_of}
use Rattle.hm_infer_context.specs.Patterns.{HaveTypes}
use Rattle.hm_infer_expressions.proofs.Derived.{refused_by}
use Rattle.hm_infer_expressions.proofs.NodeTypes.{PatternMatched, AsksBinding, binding_solved, binding_refused, pattern_refused, from_none, refused_none, pattern_grows, pattern_given, pattern_many, types_later}
use Rattle.hm_infer_expressions.proofs.bindings.match_binding.Goals as goal

pub match_pattern-requires-clause-typed : goal.match_pattern-requires-clause-typed
match_pattern-requires-clause-typed c = ((λ x. bool), subst (HaveTypes (λ x. bool)) (sym c.new-variables.ensures) tt)

pub returns-in_err-match_pattern-clause-answers : goal.returns-in_err-match_pattern-clause-answers
returns-in_err-match_pattern-clause-answers c = λ τ b.
    let p = pattern_of (known_of c.args.constructors.now) c.args.pat.now in
    refused_by (AsksBinding p c.args.node.now.types.now c.args.node.now.own τ) c.args.solver.now c.match_pattern.new.solver c.from_residual.result c.in_err-match_pattern.field-0.0 c.from_residual.ensures.1
    (pattern_refused p c.args.node.now.types.now c.args.node.now.own τ c.args.solver.now c.in_err-match_pattern.field-0.0 (refused_none p c.args.node.now.types.now c.args.node.now.own c.args.solver.now c.new-variables.result c.in_err-match_pattern.field-0.0 c.new-variables.ensures c.in_err-match_pattern.ensures))

pub equate_types-requires-clause-before : goal.equate_types-requires-clause-before
equate_types-requires-clause-before c =
    let p = pattern_of (known_of c.args.constructors.now) c.args.pat.now in
    let m : PatternMatched p c.args.node.now.types.now c.args.node.now.own c.args.solver.now c.match_pattern.new.solver (variables_of c.as_slice.result.now) = from_none p c.args.node.now.types.now c.args.node.now.own c.args.solver.now c.match_pattern.new.solver c.new-variables.result c.match_pattern.new.variables (variables_of c.as_slice.result.now) c.new-variables.ensures c.as_slice.ensures c.in_ok-match_pattern.ensures in
    omega (arith, c.requires.before, pattern_many p c.args.node.now.types.now c.args.node.now.own c.args.solver.now c.match_pattern.new.solver c.as_slice.result.now m)

pub equate_types-requires-clause-given : goal.equate_types-requires-clause-given
equate_types-requires-clause-given c =
    let p = pattern_of (known_of c.args.constructors.now) c.args.pat.now in
    let m : PatternMatched p c.args.node.now.types.now c.args.node.now.own c.args.solver.now c.match_pattern.new.solver (variables_of c.as_slice.result.now) = from_none p c.args.node.now.types.now c.args.node.now.own c.args.solver.now c.match_pattern.new.solver c.new-variables.result c.match_pattern.new.variables (variables_of c.as_slice.result.now) c.new-variables.ensures c.as_slice.ensures c.in_ok-match_pattern.ensures in
    types_later c.args.solver.now.given c.match_pattern.new.solver.given c.args.node.now.types.now (pattern_grows p c.args.node.now.types.now c.args.node.now.own c.args.solver.now c.match_pattern.new.solver (variables_of c.as_slice.result.now) m) c.requires.given

pub equate_types-requires-clause-items : goal.equate_types-requires-clause-items
equate_types-requires-clause-items c =
    let p = pattern_of (known_of c.args.constructors.now) c.args.pat.now in
    let m : PatternMatched p c.args.node.now.types.now c.args.node.now.own c.args.solver.now c.match_pattern.new.solver (variables_of c.as_slice.result.now) = from_none p c.args.node.now.types.now c.args.node.now.own c.args.solver.now c.match_pattern.new.solver c.new-variables.result c.match_pattern.new.variables (variables_of c.as_slice.result.now) c.new-variables.ensures c.as_slice.ensures c.in_ok-match_pattern.ensures in
    pattern_given p c.args.node.now.types.now c.args.node.now.own c.args.solver.now c.match_pattern.new.solver (variables_of c.as_slice.result.now) m

pub returns-in_err-equate_types-clause-answers : goal.returns-in_err-equate_types-clause-answers
returns-in_err-equate_types-clause-answers c = λ τ b.
    let p = pattern_of (known_of c.args.constructors.now) c.args.pat.now in
    let m : PatternMatched p c.args.node.now.types.now c.args.node.now.own c.args.solver.now c.match_pattern.new.solver (variables_of c.as_slice.result.now) = from_none p c.args.node.now.types.now c.args.node.now.own c.args.solver.now c.match_pattern.new.solver c.new-variables.result c.match_pattern.new.variables (variables_of c.as_slice.result.now) c.new-variables.ensures c.as_slice.ensures c.in_ok-match_pattern.ensures in
    refused_by (AsksBinding p c.args.node.now.types.now c.args.node.now.own τ) c.args.solver.now c.equate_types.new.solver c.from_residual-in_err-equate_types.result c.in_err-equate_types.field-0.0 c.from_residual-in_err-equate_types.ensures.1
    (binding_refused p c.args.node.now.types.now c.args.node.now.own τ b c.as_slice.result.now c.args.solver.now c.match_pattern.new.solver c.requires.given c.requires.own c.requires.before m c.in_err-equate_types.field-0.0 c.in_err-equate_types.ensures.answers)

pub returns-clause-answers : goal.returns-clause-answers
returns-clause-answers c = λ τ b.
    let p = pattern_of (known_of c.args.constructors.now) c.args.pat.now in
    let m : PatternMatched p c.args.node.now.types.now c.args.node.now.own c.args.solver.now c.match_pattern.new.solver (variables_of c.as_slice.result.now) = from_none p c.args.node.now.types.now c.args.node.now.own c.args.solver.now c.match_pattern.new.solver c.new-variables.result c.match_pattern.new.variables (variables_of c.as_slice.result.now) c.new-variables.ensures c.as_slice.ensures c.in_ok-match_pattern.ensures in
    binding_solved p c.args.node.now.types.now c.args.node.now.own τ b c.as_slice.result.now c.args.solver.now c.match_pattern.new.solver c.requires.given c.requires.own c.requires.before m c.equate_types.new.solver c.in_ok-equate_types.ensures.answers

pub returns-clause-grows : goal.returns-clause-grows
returns-clause-grows c =
    let p = pattern_of (known_of c.args.constructors.now) c.args.pat.now in
    let m : PatternMatched p c.args.node.now.types.now c.args.node.now.own c.args.solver.now c.match_pattern.new.solver (variables_of c.as_slice.result.now) = from_none p c.args.node.now.types.now c.args.node.now.own c.args.solver.now c.match_pattern.new.solver c.new-variables.result c.match_pattern.new.variables (variables_of c.as_slice.result.now) c.new-variables.ensures c.as_slice.ensures c.in_ok-match_pattern.ensures in
    let g = pattern_grows p c.args.node.now.types.now c.args.node.now.own c.args.solver.now c.match_pattern.new.solver (variables_of c.as_slice.result.now) m in
    omega (arith, g, c.in_ok-equate_types.ensures.given)
