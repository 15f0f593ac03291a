use Rattle.std.proofs.Common.{◌≡◌, ap, sym, ◌∙◌, subst, refl, arith, rules, ◌<◌, ◌-◌, length, Ok}
use Rattle.hm_types.specs.Shape.{type_of}
use Rattle.hm_syntax.specs.Lists.{patterns}
use Rattle.hm_syntax.specs.Sizes.{pattern_size, patterns_size}
use Rattle.hm_syntax.specs.Views.OfPatterns.{pattern_of as tree_of}
use Rattle.hm_syntax.specs.Trees.{variable_pattern, bound_pattern, literal_pattern, wildcard_pattern, constructor_pattern, tuple_pattern, list_pattern, lazy_pattern}
use Rattle.hm_typing.specs.Names.{Identifier}
use Rattle.hm_typing.specs.Schemes.{Monotype}
use Rattle.hm_typing.specs.Syntax.{pattern_names}
use Rattle.hm_infer_context.specs.Patterns.{HaveTypes, RefusesMatch, IsMatched}
use Rattle.hm_names.specs.Syntax.{pattern_of}
use Rattle.hm_infer_context.specs.Constructors.{known_of}
use Rattle.hm_infer_context.specs.PartTypes.{is_one, first_of}
use Rattle.hm_typing.specs.Programs.{monotype_of}
use Rattle.hm_infer_context.specs.ConstructorParts.{AreGivenTypes, HasArguments, put_types}
use Rattle.hm_infer_context.specs.Inferred.{IsFound}
use Rattle.hm_infer_context.proofs.States.{problem_below}
use Rattle.hm_infer_context.proofs.Matching.{given_later, match_passed, matched_nothing}
use Rattle.hm_infer_context.proofs.MatchedForms.{Asks, AsksAll, pattern_is, bound_answers, bound_refused, literal_answers, tuple_answers_at, tuple_refused_at, list_answers_at, list_refused, row_empty, row_back_at, row_refused_at, row_whole, size_at, later_number, parts_given, numbers_given, number_given, later_given}
use Rattle.hm_infer_context.proofs.ConstructorParts.{AsksTypes, constructor_answers, constructor_refused, given_at, types_back, types_empty, types_refused, types_whole}
use Rattle.hm_infer_context.proofs.patterns.+matching.Goals as goal

pub match_pattern-returns-in_err-match_pattern-in-Bound : goal.match_pattern-returns-in_err-match_pattern-in-Bound
match_pattern-returns-in_err-match_pattern-in-Bound t c =
    let p = c.in-Bound.inner.value in
    pattern_is (known_of c.args.constructors.now) (bound_pattern c.in-Bound.name p) c.args.pattern.now (type_of c.args.t.now) c.args.solver.now c.args.variables.now c.match_pattern.new.solver c.match_pattern.new.variables c.from_residual.result (sym (ap tree_of c.in-Bound.is) ∙ c.pattern.view_is)
    (match_passed (Asks (known_of c.args.constructors.now) (bound_pattern c.in-Bound.name p) (type_of c.args.t.now)) _ c.args.solver.now c.args.variables.now c.match_pattern.new.solver c.match_pattern.new.variables c.from_residual.result c.in_err-match_pattern-in-Bound.field-0.0 c.from_residual.ensures.1
    (bound_refused (known_of c.args.constructors.now) c.in-Bound.name p (type_of c.args.t.now) c.args.solver.now c.args.variables.now c.in_err-match_pattern-in-Bound.field-0.0
    (subst (λ q. (τ : Identifier → Monotype) → HaveTypes τ c.args.variables.now → RefusesMatch (Asks (known_of c.args.constructors.now) q (type_of c.args.t.now)) c.args.solver.now c.args.variables.now τ c.in_err-match_pattern-in-Bound.field-0.0) c.deref.ensures c.in_err-match_pattern-in-Bound.ensures)))

pub match_pattern-add_variable-requires-in-Bound-clause-given : goal.match_pattern-add_variable-requires-in-Bound-clause-given
match_pattern-add_variable-requires-in-Bound-clause-given t c = later_given c.args.solver.now c.match_pattern.new.solver (type_of c.args.t.now) (c.in_ok-match_pattern-in-Bound.ensures c.requires.typed.0 c.requires.typed.1).1.grows c.requires.given

pub match_pattern-add_variable-requires-in-Bound-clause-variables : goal.match_pattern-add_variable-requires-in-Bound-clause-variables
match_pattern-add_variable-requires-in-Bound-clause-variables t c = (c.in_ok-match_pattern-in-Bound.ensures c.requires.typed.0 c.requires.typed.1).1.given

pub match_pattern-returns-in_ok-match_pattern-in-Bound : goal.match_pattern-returns-in_ok-match_pattern-in-Bound
match_pattern-returns-in_ok-match_pattern-in-Bound t c =
    let p = c.in-Bound.inner.value in
    pattern_is (known_of c.args.constructors.now) (bound_pattern c.in-Bound.name p) c.args.pattern.now (type_of c.args.t.now) c.args.solver.now c.args.variables.now c.add_variable-in-Bound.new.solver c.add_variable-in-Bound.new.variables c.add_variable-in-Bound.result (sym (ap tree_of c.in-Bound.is) ∙ c.pattern.view_is)
    (bound_answers (known_of c.args.constructors.now) c.in-Bound.name p (type_of c.args.t.now) c.args.solver.now c.args.variables.now c.match_pattern.new.solver c.match_pattern.new.variables c.add_variable-in-Bound.new.solver c.add_variable-in-Bound.new.variables c.add_variable-in-Bound.result c.requires.given
    (subst (λ q. (τ : Identifier → Monotype) → HaveTypes τ c.args.variables.now → (τ1 : Identifier → Monotype) × IsMatched (Asks (known_of c.args.constructors.now) q (type_of c.args.t.now)) (pattern_names (pattern_of (known_of c.args.constructors.now) q)) c.args.solver.now c.args.variables.now τ c.match_pattern.new.solver c.match_pattern.new.variables τ1) c.deref.ensures c.in_ok-match_pattern-in-Bound.ensures)
    c.add_variable-in-Bound.ensures)

pub match_pattern-returns-in-Var : goal.match_pattern-returns-in-Var
match_pattern-returns-in-Var t c =
    pattern_is (known_of c.args.constructors.now) (variable_pattern c.in-Var.name) c.args.pattern.now (type_of c.args.t.now) c.args.solver.now c.args.variables.now c.add_variable.new.solver c.add_variable.new.variables c.add_variable.result (sym (ap tree_of c.in-Var.is) ∙ c.pattern.view_is) c.add_variable.ensures

pub match_pattern-returns-in_ok-own-in-Literal : goal.match_pattern-returns-in_ok-own-in-Literal
match_pattern-returns-in_ok-own-in-Literal t c =
    pattern_is (known_of c.args.constructors.now) (literal_pattern c.in-Literal.literal) c.args.pattern.now (type_of c.args.t.now) c.args.solver.now c.args.variables.now c.equate.new.solver c.args.variables.now c.equate.result (sym (ap tree_of c.in-Literal.is) ∙ c.pattern.view_is)
    (literal_answers (known_of c.args.constructors.now) c.in-Literal.literal (type_of c.args.t.now) (type_of c.in_ok-own-in-Literal.own) c.args.solver.now c.args.variables.now c.equate.new.solver c.equate.result c.requires.variables c.in_ok-own-in-Literal.ensures.shape c.equate.ensures.given c.equate.ensures.answers)

pub match_pattern-returns-in-Wild : goal.match_pattern-returns-in-Wild
match_pattern-returns-in-Wild t c =
    pattern_is {X = Unit {0}} (known_of c.args.constructors.now) wildcard_pattern c.args.pattern.now (type_of c.args.t.now) c.args.solver.now c.args.variables.now c.args.solver.now c.args.variables.now (Ok tt) (sym (ap tree_of c.in-Wild.is) ∙ c.pattern.view_is) (λ τ h. (τ, matched_nothing c.args.solver.now c.args.variables.now τ (problem_below c.args.solver.now c.well_formed-2.ensures) h c.requires.variables))

pub match_pattern-returns-in-Lazy : goal.match_pattern-returns-in-Lazy
match_pattern-returns-in-Lazy t c =
    let p = c.in-Lazy.inner.value in
    pattern_is (known_of c.args.constructors.now) (lazy_pattern p) c.args.pattern.now (type_of c.args.t.now) c.args.solver.now c.args.variables.now c.match_pattern-in-Lazy.new.solver c.match_pattern-in-Lazy.new.variables c.match_pattern-in-Lazy.result (sym (ap tree_of c.in-Lazy.is) ∙ c.pattern.view_is)
    (pattern_is (known_of c.args.constructors.now) c.deref-in-Lazy.result.now p (type_of c.args.t.now) c.args.solver.now c.args.variables.now c.match_pattern-in-Lazy.new.solver c.match_pattern-in-Lazy.new.variables c.match_pattern-in-Lazy.result c.deref-in-Lazy.ensures c.match_pattern-in-Lazy.ensures)

pub match_pattern-returns-in_err-types-in-Con : goal.match_pattern-returns-in_err-types-in-Con
match_pattern-returns-in_err-types-in-Con t c =
    pattern_is (known_of c.args.constructors.now) (constructor_pattern c.in-Con.name (patterns c.in-Con.parts.items)) c.args.pattern.now (type_of c.args.t.now) c.args.solver.now c.args.variables.now c.constructor_parts.new.solver c.args.variables.now c.from_residual-in_err-types-in-Con.result (sym (ap tree_of c.in-Con.is) ∙ c.pattern.view_is)
    (match_passed (Asks (known_of c.args.constructors.now) (constructor_pattern c.in-Con.name (patterns c.in-Con.parts.items)) (type_of c.args.t.now)) _ c.args.solver.now c.args.variables.now c.constructor_parts.new.solver c.args.variables.now c.from_residual-in_err-types-in-Con.result c.in_err-types-in-Con.field-0.0 c.from_residual-in_err-types-in-Con.ensures.1
    (constructor_refused (known_of c.args.constructors.now) c.in-Con.name c.in-Con.parts.items c.as_scheme.result.now c.len.result (type_of c.args.t.now) c.args.solver.now c.args.variables.now c.in_err-types-in-Con.field-0.0 (c.as_scheme.ensures ∙ c.in_ok-scheme-in-Con.ensures) (omega (arith, c.len.ensures, c.in-Con.parts.ok.0)) c.in_err-types-in-Con.ensures.refused))

pub match_pattern-returns-in_ok-types-in-Con : goal.match_pattern-returns-in_ok-types-in-Con
match_pattern-returns-in_ok-types-in-Con t c =
    pattern_is (known_of c.args.constructors.now) (constructor_pattern c.in-Con.name (patterns c.in-Con.parts.items)) c.args.pattern.now (type_of c.args.t.now) c.args.solver.now c.args.variables.now c.match_row.new.solver c.match_row.new.variables c.match_row.result (sym (ap tree_of c.in-Con.is) ∙ c.pattern.view_is)
    (constructor_answers (known_of c.args.constructors.now) c.in-Con.name c.in-Con.parts.items c.deref-in-Con.result.now c.as_scheme.result.now c.len.result c.deref-in-Con-2.result.now (type_of c.args.t.now) c.args.solver.now c.args.variables.now c.constructor_parts.new.solver c.match_row.new.solver c.match_row.new.variables c.match_row.result (c.as_scheme.ensures ∙ c.in_ok-scheme-in-Con.ensures) (omega (arith, c.len.ensures, c.in-Con.parts.ok.0)) c.deref-in-Con.ensures.value c.requires.variables
    (subst (λ z. IsFound (HasArguments (monotype_of c.as_scheme.result.now.body) c.len.result (type_of c.args.t.now)) c.args.solver.now c.constructor_parts.new.solver (λ r. put_types r z)) (sym c.deref-in-Con-2.ensures.value) c.in_ok-types-in-Con.ensures.found) c.match_row.ensures)

pub match_pattern-match_row-requires : goal.match_pattern-match_row-requires
match_pattern-match_row-requires t c =
    let z = ap pattern_size (sym (ap tree_of c.in-Con.is) ∙ c.pattern.view_is) in
    let y = ap (λ ps. patterns_size (patterns ps)) c.deref-in-Con.ensures.value in
    let smaller : patterns_size (patterns c.deref-in-Con.result.now) < pattern_size c.args.pattern.now = omega (arith, z, y) in
    let counted : length c.deref-in-Con-2.result.now ≡ length c.deref-in-Con.result.now = ap length c.deref-in-Con-2.ensures.value ∙ (c.in_ok-types-in-Con.ensures.len ∙ (let w : c.len.result ≡ length c.in-Con.parts.items = omega (arith, c.len.ensures, c.in-Con.parts.ok.0) in w ∙ sym (ap length c.deref-in-Con.ensures.value))) in
    (search rules, (counted, (subst (AreGivenTypes c.constructor_parts.new.solver.given) (sym c.deref-in-Con-2.ensures.value) c.in_ok-types-in-Con.ensures.given, (given_later c.args.solver.now.given c.constructor_parts.new.solver.given c.args.variables.now c.in_ok-types-in-Con.ensures.found.grows c.requires.variables, c.requires.typed))))

pub match_pattern-returns-in_err-first-in-Tuple : goal.match_pattern-returns-in_err-first-in-Tuple
match_pattern-returns-in_err-first-in-Tuple t c =
    pattern_is (known_of c.args.constructors.now) (tuple_pattern (patterns c.in-Tuple.parts.items)) c.args.pattern.now (type_of c.args.t.now) c.args.solver.now c.args.variables.now c.tuple_parts.new.solver c.args.variables.now c.from_residual-in_err-first-in-Tuple.result (sym (ap tree_of c.in-Tuple.is) ∙ c.pattern.view_is)
    (match_passed (Asks (known_of c.args.constructors.now) (tuple_pattern (patterns c.in-Tuple.parts.items)) (type_of c.args.t.now)) _ c.args.solver.now c.args.variables.now c.tuple_parts.new.solver c.args.variables.now c.from_residual-in_err-first-in-Tuple.result c.in_err-first-in-Tuple.field-0.0 c.from_residual-in_err-first-in-Tuple.ensures.1 (tuple_refused_at (known_of c.args.constructors.now) c.in-Tuple.parts.items c.len-in-Tuple.result (type_of c.args.t.now) c.args.solver.now c.args.variables.now c.in_err-first-in-Tuple.field-0.0 (omega (arith, c.len-in-Tuple.ensures, c.in-Tuple.parts.ok.0)) c.in_err-first-in-Tuple.ensures.below c.requires.variables c.requires.given c.in_err-first-in-Tuple.ensures.answers))

pub match_pattern-returns-in_ok-first-in-Tuple : goal.match_pattern-returns-in_ok-first-in-Tuple
match_pattern-returns-in_ok-first-in-Tuple t c =
    pattern_is (known_of c.args.constructors.now) (tuple_pattern (patterns c.in-Tuple.parts.items)) c.args.pattern.now (type_of c.args.t.now) c.args.solver.now c.args.variables.now c.match_patterns.new.solver c.match_patterns.new.variables c.match_patterns.result (sym (ap tree_of c.in-Tuple.is) ∙ c.pattern.view_is)
    (tuple_answers_at (known_of c.args.constructors.now) c.in-Tuple.parts.items c.deref-in-Tuple.result.now c.len-in-Tuple.result c.in_ok-first-in-Tuple.first (type_of c.args.t.now) c.args.solver.now c.args.variables.now c.tuple_parts.new.solver c.match_patterns.new.solver c.match_patterns.new.variables c.match_patterns.result (omega (arith, c.len-in-Tuple.ensures, c.in-Tuple.parts.ok.0)) c.deref-in-Tuple.ensures.value c.in_ok-first-in-Tuple.ensures.below c.requires.variables c.requires.given c.in_ok-first-in-Tuple.ensures.first c.in_ok-first-in-Tuple.ensures.answers c.match_patterns.ensures)

pub match_pattern-match_patterns-requires : goal.match_pattern-match_patterns-requires
match_pattern-match_patterns-requires t c =
    let z = ap pattern_size (sym (ap tree_of c.in-Tuple.is) ∙ c.pattern.view_is) in
    let y = ap (λ ps. patterns_size (patterns ps)) c.deref-in-Tuple.ensures.value in
    let smaller : patterns_size (patterns c.deref-in-Tuple.result.now) < pattern_size c.args.pattern.now = omega (arith, z, y) in
    (search rules, ((λ j h. numbers_given _ c.args.solver.now c.tuple_parts.new.solver c.len-in-Tuple.result c.in_ok-first-in-Tuple.first c.in_ok-first-in-Tuple.ensures.answers c.in_ok-first-in-Tuple.ensures.first j (omega (arith, h, c.deref-in-Tuple.ensures.len, c.len-in-Tuple.ensures))), (omega (arith, c.in_ok-first-in-Tuple.ensures.fits, c.deref-in-Tuple.ensures.len, c.len-in-Tuple.ensures), (parts_given _ c.args.solver.now c.tuple_parts.new.solver c.len-in-Tuple.result c.args.variables.now c.in_ok-first-in-Tuple.ensures.answers c.requires.variables, c.requires.typed))))

pub match_pattern-returns-in_err-first-in-List : goal.match_pattern-returns-in_err-first-in-List
match_pattern-returns-in_err-first-in-List t c =
    pattern_is (known_of c.args.constructors.now) (list_pattern (patterns c.in-List.parts.items)) c.args.pattern.now (type_of c.args.t.now) c.args.solver.now c.args.variables.now c.list_part.new.solver c.args.variables.now c.from_residual-in_err-first-in-List.result (sym (ap tree_of c.in-List.is) ∙ c.pattern.view_is)
    (match_passed (Asks (known_of c.args.constructors.now) (list_pattern (patterns c.in-List.parts.items)) (type_of c.args.t.now)) _ c.args.solver.now c.args.variables.now c.list_part.new.solver c.args.variables.now c.from_residual-in_err-first-in-List.result c.in_err-first-in-List.field-0.0 c.from_residual-in_err-first-in-List.ensures.1 (list_refused (known_of c.args.constructors.now) c.in-List.parts.items (type_of c.args.t.now) c.args.solver.now c.args.variables.now c.in_err-first-in-List.field-0.0 c.in_err-first-in-List.ensures.below c.requires.variables c.requires.given c.in_err-first-in-List.ensures.answers))

pub match_pattern-returns-in_ok-first-in-List : goal.match_pattern-returns-in_ok-first-in-List
match_pattern-returns-in_ok-first-in-List t c =
    pattern_is (known_of c.args.constructors.now) (list_pattern (patterns c.in-List.parts.items)) c.args.pattern.now (type_of c.args.t.now) c.args.solver.now c.args.variables.now c.match_patterns-in-List.new.solver c.match_patterns-in-List.new.variables c.match_patterns-in-List.result (sym (ap tree_of c.in-List.is) ∙ c.pattern.view_is)
    (list_answers_at (known_of c.args.constructors.now) c.in-List.parts.items c.deref-in-List.result.now c.in_ok-first-in-List.first (type_of c.args.t.now) c.args.solver.now c.args.variables.now c.list_part.new.solver c.match_patterns-in-List.new.solver c.match_patterns-in-List.new.variables c.match_patterns-in-List.result c.deref-in-List.ensures.value c.in_ok-first-in-List.ensures.below c.requires.variables c.requires.given c.in_ok-first-in-List.ensures.first c.in_ok-first-in-List.ensures.answers c.match_patterns-in-List.ensures)

pub match_pattern-match_patterns-requires-in-List : goal.match_pattern-match_patterns-requires-in-List
match_pattern-match_patterns-requires-in-List t c =
    let z = ap pattern_size (sym (ap tree_of c.in-List.is) ∙ c.pattern.view_is) in
    let y = ap (λ ps. patterns_size (patterns ps)) c.deref-in-List.ensures.value in
    let smaller : patterns_size (patterns c.deref-in-List.result.now) < pattern_size c.args.pattern.now = omega (arith, z, y) in
    (search rules, (number_given _ c.args.solver.now c.list_part.new.solver c.in_ok-first-in-List.first _ c.in_ok-first-in-List.ensures.answers c.in_ok-first-in-List.ensures.first, (omega (arith, c.in_ok-first-in-List.ensures.fits), (parts_given _ c.args.solver.now c.list_part.new.solver 1 c.args.variables.now c.in_ok-first-in-List.ensures.answers c.requires.variables, c.requires.typed))))

pub match_patterns-parts-init : goal.match_patterns-parts-init
match_patterns-parts-init t c = record {
  in_range = omega arith;
  matched = row_empty (known_of c.args.constructors.now) c.args.parts.now _ (is_one c.args.types) (first_of c.args.types) c.args.solver.now c.args.variables.now refl (problem_below c.args.solver.now c.well_formed-2.ensures) c.requires.variables;
}

pub match_patterns-match_pattern-requires : goal.match_patterns-match_pattern-requires
match_patterns-match_pattern-requires t c =
    let m = c.parts.invariant.matched c.requires.typed.0 c.requires.typed.1 in
    let smaller : pattern_size c.index-parts-j.result < patterns_size (patterns c.args.parts.now) = size_at c.args.parts.now (c.parts.j - 1) c.index-parts-j.result (omega arith) c.index-parts-j.is in
    (search rules, (later_number c.args.solver.now c.parts.solver c.at-number.result c.args.parts.now c.parts.j (is_one c.args.types) (first_of c.args.types) m.1.grows c.at-number.ensures c.parts-test.true c.parts.invariant.in_range c.requires.given, (m.1.given, (m.0, m.1.typed))))

pub match_patterns-returns-in_err-match_pattern : goal.match_patterns-returns-in_err-match_pattern
match_patterns-returns-in_err-match_pattern t c =
    match_passed (AsksAll (known_of c.args.constructors.now) (patterns c.args.parts.now) (is_one c.args.types) (first_of c.args.types) 0) _ c.args.solver.now c.args.variables.now c.match_pattern.new.solver c.match_pattern.new.variables c.from_residual.result c.in_err-match_pattern.field-0.0 c.from_residual.ensures.1
    (row_refused_at (known_of c.args.constructors.now) c.args.parts.now c.parts.j c.at-number.result c.index-parts-j.result (is_one c.args.types) (first_of c.args.types) c.args.solver.now c.args.variables.now c.parts.solver c.parts.variables c.in_err-match_pattern.field-0.0 c.at-number.ensures c.parts-test.true c.parts.invariant.in_range c.index-parts-j.is c.requires.given c.parts.invariant.matched
    c.in_err-match_pattern.ensures)

pub match_patterns-parts-preserved : goal.match_patterns-parts-preserved
match_patterns-parts-preserved t c = record {
  in_range = omega arith;
  matched = row_back_at {X = Unit {0}} (known_of c.args.constructors.now) c.args.parts.now c.parts.j c.at-number.result c.index-parts-j.result (is_one c.args.types) (first_of c.args.types) c.args.solver.now c.args.variables.now c.parts.solver c.parts.variables c.match_pattern.new.solver c.match_pattern.new.variables tt c.at-number.ensures c.parts-test.true c.parts.invariant.in_range c.index-parts-j.is c.requires.given c.parts.invariant.matched
      c.in_ok-match_pattern.ensures;
}

pub match_patterns-returns : goal.match_patterns-returns
match_patterns-returns t c = row_whole (known_of c.args.constructors.now) c.args.parts.now c.parts.j (is_one c.args.types) (first_of c.args.types) c.args.solver.now c.args.variables.now c.parts.solver c.parts.variables (omega arith) c.parts.invariant.matched

pub match_row-parts-init : goal.match_row-parts-init
match_row-parts-init t c = record {
  in_range = omega arith;
  matched = types_empty (known_of c.args.constructors.now) c.args.parts.now c.args.types.now _ c.args.solver.now c.args.variables.now refl (problem_below c.args.solver.now c.well_formed-2.ensures) c.requires.variables;
}

pub match_row-match_pattern-requires : goal.match_row-match_pattern-requires
match_row-match_pattern-requires t c =
    let m = c.parts.invariant.matched c.requires.typed.0 c.requires.typed.1 in
    let n = c.requires.len in
    let k = c.parts.invariant.in_range in
    let smaller : pattern_size c.index-parts-j.result < patterns_size (patterns c.args.parts.now) = size_at c.args.parts.now (c.parts.j - 1) c.index-parts-j.result (omega arith) c.index-parts-j.is in
    let w = given_at c.args.solver.now.given c.args.types.now (c.parts.j - 1) c.index-types-j.result (omega (arith, n, k, c.parts-test.true)) c.index-types-j.is c.requires.given in
    (search rules, (later_given c.args.solver.now c.parts.solver (type_of c.index-types-j.result) m.1.grows w, (m.1.given, (m.0, m.1.typed))))

pub match_row-returns-in_err-match_pattern : goal.match_row-returns-in_err-match_pattern
match_row-returns-in_err-match_pattern t c =
    match_passed (AsksTypes (known_of c.args.constructors.now) c.args.parts.now c.args.types.now 0) _ c.args.solver.now c.args.variables.now c.match_pattern.new.solver c.match_pattern.new.variables c.from_residual.result c.in_err-match_pattern.field-0.0 c.from_residual.ensures.1
    (types_refused (known_of c.args.constructors.now) c.args.parts.now c.args.types.now c.parts.j c.index-parts-j.result c.index-types-j.result c.args.solver.now c.args.variables.now c.parts.solver c.parts.variables c.in_err-match_pattern.field-0.0 c.requires.len c.parts-test.true c.parts.invariant.in_range c.index-parts-j.is c.index-types-j.is c.requires.given c.parts.invariant.matched
    c.in_err-match_pattern.ensures)

pub match_row-parts-preserved : goal.match_row-parts-preserved
match_row-parts-preserved t c = record {
  in_range = omega arith;
  matched = types_back {X = Unit {0}} (known_of c.args.constructors.now) c.args.parts.now c.args.types.now c.parts.j c.index-parts-j.result c.index-types-j.result c.args.solver.now c.args.variables.now c.parts.solver c.parts.variables c.match_pattern.new.solver c.match_pattern.new.variables tt c.requires.len c.parts-test.true c.parts.invariant.in_range c.index-parts-j.is c.index-types-j.is c.requires.given c.parts.invariant.matched
      c.in_ok-match_pattern.ensures;
}

pub match_row-returns : goal.match_row-returns
match_row-returns t c = types_whole (known_of c.args.constructors.now) c.args.parts.now c.args.types.now c.parts.j c.args.solver.now c.args.variables.now c.parts.solver c.parts.variables (omega arith) c.parts.invariant.matched
