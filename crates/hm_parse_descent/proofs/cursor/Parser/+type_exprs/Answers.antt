use Rattle.std.proofs.Common.{◌≡◌, ◌<◌, List, length, true, ap, sym, ◌∙◌, rules, arith}
use Rattle.hm_syntax.specs.Trees.{TypeTree}
use Rattle.hm_parse_grammar.specs.declared.symbol.Symbol.TheVariants.{Comma}
use Rattle.hm_parse_grammar.specs.Reading.Basics.{peek, is_at, tail, loop, behind}
use Rattle.hm_parse_grammar.specs.Reading.Types.{begins_atype, tuple_of_types, next_atype, type_at}
use Rattle.hm_parse_descent.proofs.CommaLoops.{tuple_rest}
use Rattle.hm_parse_descent.proofs.TypeLoops.{components_start, components_go_on, type_shorter, comma_shorter, atypes_go_on, atypes_shorter}
use Rattle.hm_parse_descent.proofs.cursor.Parser.+type_exprs.Goals as goal

pub type_in-components-init : goal.type_in-components-init
type_in-components-init t c =
    let one : length c.in_ok-found.found.items ≡ 1 = ap (λ (z : List TypeTree). length z) c.in_ok-found.ensures in
    let short : length c.type_expr.new.self < length c.args.self.now = type_shorter c.args.self.now c.type_expr.new.self c.in_ok-first.first c.in_ok-first.ensures in
    record {
      read = components_start c.in_ok-first.first c.in_ok-found.found.items c.args.self.now c.type_expr.new.self (search rules) c.in_ok-first.ensures (search rules) c.in_ok-found.ensures;
      few = omega (arith, one);
      left = omega (arith, short);
    }

pub type_in-components-preserved : goal.type_in-components-preserved
type_in-components-preserved t c =
    let at : is_at Comma c.components.self ≡ true = search rules in
    let next : type_at (tail c.components.self) ≡ _ = ap type_at (sym c.skip-in-components.ensures) ∙ c.in_ok-type_expr.ensures in
    let short : length c.type_expr-in-components.new.self < length c.skip-in-components.new.self = type_shorter _ _ _ c.in_ok-type_expr.ensures in
    let skipped : length c.skip-in-components.new.self ≡ length (tail c.components.self) = ap length c.skip-in-components.ensures in
    let taken : length (tail c.components.self) < length c.components.self = comma_shorter c.components.self at in
    record {
      read = ap (λ (z : List TypeTree). tuple_rest type_at tuple_of_types z c.type_expr-in-components.new.self) c.in_ok-push.ensures.items
          ∙ (components_go_on c.components.found.items c.in_ok-type_expr.field-0 c.components.self c.type_expr-in-components.new.self at next ∙ c.components.invariant.read);
      few = search rules;
      left = omega (arith, short, skipped, taken, c.components.invariant.left);
    }

pub atypes-atypes-preserved : goal.atypes-atypes-preserved
atypes-atypes-preserved t c =
    let begins : begins_atype (peek c.atypes.self) ≡ true = search rules in
    let short : length c.atype.new.self < length c.atypes.self = atypes_shorter c.atypes.self c.atype.new.self c.in_ok-atype.field-0 begins c.in_ok-atype.ensures in
    record {
      read = ap (λ (z : List TypeTree). behind z (loop (next_atype type_at) c.atype.new.self)) c.in_ok-push.ensures.items
          ∙ (atypes_go_on c.atypes.found.items c.in_ok-atype.field-0 c.atypes.self c.atype.new.self begins c.in_ok-atype.ensures ∙ c.atypes.invariant.read);
      left = omega (arith, short, c.atypes.invariant.left);
    }
