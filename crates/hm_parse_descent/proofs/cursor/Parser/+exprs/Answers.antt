use Rattle.std.proofs.Common.{◌≡◌, ◌<◌, ◌≤◌, List, [], ◌∷◌, ◌++◌, length, true, false, Option, Some, ap, sym, ◌∙◌, rules, arith, refl, codes}
use Rattle.hm_syntax.specs.Names.{Identifier}
use Rattle.hm_syntax.specs.Trees.{Expression, Declaration, Alternative}
use Rattle.hm_parse_grammar.specs.declared.symbol.Symbol.TheVariants.{Colon, Comma, Bar, LeftBrace, RightBrace}
use Rattle.hm_parse_grammar.specs.Reading.Basics.{peek, is_at, tail, past_semicolons, loop, behind}
use Rattle.hm_parse_grammar.specs.Reading.Constructors.{special_at}
use Rattle.hm_parse_grammar.specs.Reading.Patterns.{all_patterns}
use Rattle.hm_parse_grammar.specs.Reading.Expressions.{begins_open, tuple_of_expressions, list_of_expressions, exp_with, guarded_in, next_guarded, next_item_of, alt_with, decl_with, all_expressions}
use Rattle.hm_parse_descent.proofs.CommaLoops.{tuple_rest, list_rest}
use Rattle.hm_parse_descent.proofs.TypeLoops.{comma_shorter, tail_length}
use Rattle.hm_parse_descent.proofs.ExpressionLoops.{binding_is, chain_shorter, exp_shorter, opd_shorter, colon_shorter, expect_shorter, past_shorter, components_start, components_go_on, elements_start, elements_go_on, guards_start, guards_go_on, next_guarded_shorter, alts_start, alts_go_on, next_alts_shorter, decls_start, decls_go_on, next_decls_shorter}
use Rattle.hm_parse_descent.proofs.ColonLoops.{colons_go_on, colons_opened}
use Rattle.hm_parse_descent.proofs.cursor.Parser.+exprs.Goals as goal

pub exp_in-components-init : goal.exp_in-components-init
exp_in-components-init t c =
    let one : length c.in_ok-found.found.items ≡ 1 = ap (λ (z : List Expression). length z) c.in_ok-found.ensures in
    let short : length c.exp.new.self < length c.skip.new.self = exp_shorter c.skip.new.self c.exp.new.self c.in_ok-first.first c.in_ok-first.ensures in
    let skipped : length c.skip.new.self ≡ length (tail c.args.self.now) = ap length c.skip.ensures in
    let taken : length (tail c.args.self.now) ≤ length c.args.self.now = tail_length c.args.self.now in
    record {
      read = components_start c.in_ok-first.first c.in_ok-found.found.items c.args.self.now c.exp.new.self (ap (exp_with all_expressions) (sym c.skip.ensures) ∙ c.in_ok-first.ensures) (search rules) c.in_ok-found.ensures;
      few = omega (arith, one);
      left = omega (arith, short, skipped, taken);
    }

pub exp_in-components-preserved : goal.exp_in-components-preserved
exp_in-components-preserved t c =
    let at : is_at Comma c.components.self ≡ true = search rules in
    let short : length c.exp-in-components.new.self < length c.skip-in-components.new.self = exp_shorter _ _ _ c.in_ok-exp.ensures in
    let skipped : length c.skip-in-components.new.self ≡ length (tail c.components.self) = ap length c.skip-in-components.ensures in
    let taken : length (tail c.components.self) < length c.components.self = comma_shorter c.components.self at in
    record {
      read = ap (λ (z : List Expression). tuple_rest (exp_with all_expressions) tuple_of_expressions z c.exp-in-components.new.self) c.in_ok-push.ensures.items
          ∙ (components_go_on c.components.found.items c.in_ok-exp.field-0 c.components.self c.exp-in-components.new.self at (ap (exp_with all_expressions) (sym c.skip-in-components.ensures) ∙ c.in_ok-exp.ensures) ∙ c.components.invariant.read);
      few = search rules;
      left = omega (arith, short, skipped, taken, c.components.invariant.left);
    }

pub exp_list-elements-init : goal.exp_list-elements-init
exp_list-elements-init t c = record {
  read = elements_start c.in_ok-first.first c.in_ok-found.found.items c.args.self.now c.exp.new.self c.in_ok-first.ensures c.in_ok-found.ensures;
  left = exp_shorter c.args.self.now c.exp.new.self c.in_ok-first.first c.in_ok-first.ensures;
}

pub exp_list-elements-preserved : goal.exp_list-elements-preserved
exp_list-elements-preserved t c =
    let at : is_at Comma c.elements.self ≡ true = search rules in
    let short : length c.exp-in-elements.new.self < length c.skip.new.self = exp_shorter _ _ _ c.in_ok-exp.ensures in
    let skipped : length c.skip.new.self ≡ length (tail c.elements.self) = ap length c.skip.ensures in
    let taken : length (tail c.elements.self) < length c.elements.self = comma_shorter c.elements.self at in
    record {
      read = ap (λ (z : List Expression). list_rest (exp_with all_expressions) list_of_expressions z c.exp-in-elements.new.self) c.in_ok-push.ensures.items
          ∙ (elements_go_on c.elements.found.items c.in_ok-exp.field-0 c.elements.self c.exp-in-elements.new.self at (ap (exp_with all_expressions) (sym c.skip.ensures) ∙ c.in_ok-exp.ensures) ∙ c.elements.invariant.read);
      left = omega (arith, short, skipped, taken, c.elements.invariant.left);
    }

pub bodies-guards-init : goal.bodies-guards-init
bodies-guards-init t c = record {
  read = ap (λ (z : List (Option Expression × Expression)). behind z (loop (next_guarded all_expressions c.args.mark) c.args.self.now)) c.new-found.ensures.items ∙ guards_start c.args.mark c.args.self.now (search rules) (search rules);
  left = omega arith;
}

pub bodies-guards-preserved : goal.bodies-guards-preserved
bodies-guards-preserved t c =
    let at : is_at Bar c.guards.self ≡ true = search rules in
    let next : guarded_in all_expressions c.args.mark (tail c.guards.self) ≡ Some (c.in_ok-guarded.field-0, c.guarded.new.self) = ap (guarded_in all_expressions c.args.mark) (sym c.skip-in-guards.ensures) ∙ c.in_ok-guarded.ensures in
    let short : length c.guarded.new.self < length c.guards.self = next_guarded_shorter c.args.mark c.guards.self c.guarded.new.self c.in_ok-guarded.field-0 at next in
    record {
      read = ap (λ (z : List (Option Expression × Expression)). behind z (loop (next_guarded all_expressions c.args.mark) c.guarded.new.self)) c.in_ok-push.ensures.items
          ∙ (guards_go_on c.args.mark c.guards.found.items c.in_ok-guarded.field-0 c.guards.self c.guarded.new.self at next ∙ c.guards.invariant.read);
      left = omega (arith, short, c.guards.invariant.left);
    }

pub alts-alts-init : goal.alts-alts-init
alts-alts-init t c =
    let past : length c.reaches_brace.new.self ≡ length (past_semicolons c.args.self.now) = ap length c.reaches_brace.ensures.past in
    let short : length (past_semicolons c.args.self.now) ≤ length c.args.self.now = past_shorter c.args.self.now in
    record {
      read = ap (λ (z : List Alternative). behind z (loop (next_item_of (alt_with all_expressions)) c.reaches_brace.new.self)) c.new-found.ensures.items
          ∙ (ap (λ z. behind [] (loop (next_item_of (alt_with all_expressions)) z)) c.reaches_brace.ensures.past ∙ alts_start c.args.self.now (search rules));
      left = omega (arith, past, short);
    }

pub alts-alts-preserved : goal.alts-alts-preserved
alts-alts-preserved t c =
    let brace : is_at RightBrace (past_semicolons c.alts.self) ≡ false = search rules in
    let pat : all_patterns.whole (past_semicolons c.alts.self) ≡ Some (c.in_ok-pat.pat, c.pat.new.self) = ap (λ z. all_patterns.whole z) (sym c.reaches_brace-in-alts.ensures.past) ∙ c.in_ok-pat.ensures in
    let short : length c.item_end.new.self < length c.alts.self = next_alts_shorter c.in_ok-pat.pat c.in-Ok.answer c.alts.self c.pat.new.self c.rhs.new.self c.item_end.new.self brace pat c.in-Ok.ensures c.in_ok-item_end.ensures in
    record {
      read = ap (λ (z : List Alternative). behind z (loop (next_item_of (alt_with all_expressions)) c.item_end.new.self)) c.in_ok-push.ensures.items
          ∙ (alts_go_on c.alts.found.items c.in_ok-pat.pat c.in-Ok.answer c.alts.self c.pat.new.self c.rhs.new.self c.item_end.new.self brace pat c.in-Ok.ensures c.in_ok-item_end.ensures ∙ c.alts.invariant.read);
      left = omega (arith, short, c.alts.invariant.left);
    }

pub decls-decls-init : goal.decls-decls-init
decls-decls-init t c = record {
  read = ap (λ (z : List Declaration). behind z (loop (next_item_of (decl_with all_expressions)) c.expect.new.self)) c.new-found.ensures.items ∙ decls_start c.args.self.now c.expect.new.self c.in_ok-expect.ensures;
  left = expect_shorter LeftBrace c.args.self.now c.expect.new.self c.in_ok-expect.ensures;
}

pub decls-decls-preserved : goal.decls-decls-preserved
decls-decls-preserved t c =
    let brace : is_at RightBrace (past_semicolons c.decls.self) ≡ false = search rules in
    let decl : decl_with all_expressions (past_semicolons c.decls.self) ≡ Some (c.in_ok-decl.field-0, c.decl.new.self) = ap (decl_with all_expressions) (sym c.reaches_brace.ensures.past) ∙ c.in_ok-decl.ensures in
    let short : length c.item_end.new.self < length c.decls.self = next_decls_shorter c.in_ok-decl.field-0 c.decls.self c.decl.new.self c.item_end.new.self brace decl c.in_ok-item_end.ensures in
    record {
      read = ap (λ (z : List Declaration). behind z (loop (next_item_of (decl_with all_expressions)) c.item_end.new.self)) c.in_ok-push.ensures.items
          ∙ (decls_go_on c.decls.found.items c.in_ok-decl.field-0 c.decls.self c.decl.new.self c.item_end.new.self brace decl c.in_ok-item_end.ensures ∙ c.decls.invariant.read);
      left = omega (arith, short, c.decls.invariant.left);
    }

pub guarded-exp-requires : goal.guarded-exp-requires
guarded-exp-requires t c =
    let guard_read : length c.chain.new.self < length c.args.self.now = chain_shorter c.args.self.now c.chain.new.self (c.in_ok-test.test, c.in_ok-test.field-0-1) c.in_ok-test.ensures in
    let mark_read : length c.before-2.new.self < length c.chain.new.self = expect_shorter c.args.mark c.chain.new.self c.before-2.new.self c.in_ok-guard.ensures.read in
    (omega (arith, c.decreases, guard_read, mark_read), tt)

pub colons-returns-then-begins_open : goal.colons-returns-then-begins_open
colons-returns-then-begins_open t c =
    let at : is_at Colon c.colons.self ≡ true = search rules in
    let opened : begins_open (peek c.with_colon.new.self) ≡ true = search rules in
    let pushed : c.push.new.self.items ≡ c.colons.operands.items ++ (c.colons.last, special_at (codes ":") c.colons.self) ∷ [] =
    c.in_ok-push.ensures.items ∙ ap (λ (z : Expression × Identifier). c.colons.operands.items ++ z ∷ []) c.in_ok-linked.ensures.both in
    sym c.colons.invariant.read
    ∙ colons_opened c.colons.operands.items c.push.new.self.items c.colons.last c.in_ok-e.e c.in_ok-whole.whole c.colons.self c.with_colon.new.self c.open_exp.new.self at c.in_ok-linked.ensures.ok pushed opened c.in_ok-e.ensures c.in_ok-whole.ensures

pub colons-colons-preserved : goal.colons-colons-preserved
colons-colons-preserved t c =
    let at : is_at Colon c.colons.self ≡ true = search rules in
    let closed : begins_open (peek c.with_colon.new.self) ≡ false = search rules in
    let taken : length (tail c.colons.self) < length c.colons.self = colon_shorter c.colons.self at in
    let same : length c.with_colon.new.self ≡ length (tail c.colons.self) = ap length c.in_ok-linked.ensures.ok in
    let operand : length c.operand.new.self < length c.with_colon.new.self = opd_shorter c.with_colon.new.self c.operand.new.self c.in_ok-last.last c.in_ok-last.ensures in
    let pushed : c.push.new.self.items ≡ c.colons.operands.items ++ (c.colons.last, special_at (codes ":") c.colons.self) ∷ [] =
    c.in_ok-push.ensures.items ∙ ap (λ (z : Expression × Identifier). c.colons.operands.items ++ z ∷ []) c.in_ok-linked.ensures.both in
    record {
      read = colons_go_on c.colons.operands.items c.push.new.self.items c.colons.last c.in_ok-last.last (special_at (codes ":") c.colons.self) c.colons.self c.with_colon.new.self c.operand.new.self at c.in_ok-linked.ensures.ok refl pushed closed c.in_ok-last.ensures ∙ c.colons.invariant.read;
      left = omega (arith, taken, same, operand, c.colons.invariant.left);
    }

pub colons-colons-smaller : goal.colons-colons-smaller
colons-colons-smaller t c =
    let at : is_at Colon c.colons.self ≡ true = search rules in
    let taken : length (tail c.colons.self) < length c.colons.self = colon_shorter c.colons.self at in
    let same : length c.with_colon.new.self ≡ length (tail c.colons.self) = ap length c.in_ok-linked.ensures.ok in
    let operand : length c.operand.new.self < length c.with_colon.new.self = opd_shorter c.with_colon.new.self c.operand.new.self c.in_ok-last.last c.in_ok-last.ensures in
    omega (arith, taken, same, operand)

pub binding-returns : goal.binding-returns
binding-returns t c =
    binding_is c.args.self.now c.pat.new.self c.rhs.new.self c.place-place.result c.in_ok-pat.pat c.in-Ok.answer c.place-place.ensures c.in_ok-pat.ensures c.in-Ok.ensures
    ∙ ap (λ z. Some (z, c.rhs.new.self)) (sym c.in_ok-binding_of.ensures)
