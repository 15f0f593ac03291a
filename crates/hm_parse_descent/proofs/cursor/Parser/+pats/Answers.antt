use Rattle.std.proofs.Common.{◌≡◌, ◌<◌, ◌≤◌, List, length, true, ap, sym, ◌∙◌, rules, arith}
use Rattle.hm_syntax.specs.Trees.{Pattern}
use Rattle.hm_parse_grammar.specs.declared.symbol.Symbol.TheVariants.{Comma}
use Rattle.hm_parse_grammar.specs.Reading.Basics.{peek, is_at, tail, loop, behind}
use Rattle.hm_parse_grammar.specs.Reading.Patterns.{begins_apat, tuple_of_patterns, list_of_patterns, next_apat, all_patterns}
use Rattle.hm_parse_descent.proofs.CommaLoops.{tuple_rest, list_rest}
use Rattle.hm_parse_descent.proofs.TypeLoops.{comma_shorter, tail_length}
use Rattle.hm_parse_descent.proofs.PatternLoops.{pattern_shorter, components_start, components_go_on, elements_start, elements_go_on, apats_go_on, apats_shorter}
use Rattle.hm_parse_descent.proofs.cursor.Parser.+pats.Goals as goal

pub pat_in-components-init : goal.pat_in-components-init
pat_in-components-init t c =
    let one : length c.in_ok-found.found.items ≡ 1 = ap (λ (z : List Pattern). length z) c.in_ok-found.ensures in
    let short : length c.pat.new.self < length c.skip.new.self = pattern_shorter c.skip.new.self c.pat.new.self c.in_ok-first.first c.in_ok-first.ensures in
    let skipped : length c.skip.new.self ≡ length (tail c.args.self.now) = ap length c.skip.ensures in
    let taken : length (tail c.args.self.now) ≤ length c.args.self.now = tail_length c.args.self.now in
    record {
      read = components_start c.in_ok-first.first c.in_ok-found.found.items c.args.self.now c.pat.new.self (ap (λ z. all_patterns.whole z) (sym c.skip.ensures) ∙ c.in_ok-first.ensures) (search rules) c.in_ok-found.ensures;
      few = omega (arith, one);
      left = omega (arith, short, skipped, taken);
    }

pub pat_in-components-preserved : goal.pat_in-components-preserved
pat_in-components-preserved t c =
    let at : is_at Comma c.components.self ≡ true = search rules in
    let short : length c.pat-in-components.new.self < length c.skip-in-components.new.self = pattern_shorter _ _ _ c.in_ok-pat.ensures in
    let skipped : length c.skip-in-components.new.self ≡ length (tail c.components.self) = ap length c.skip-in-components.ensures in
    let taken : length (tail c.components.self) < length c.components.self = comma_shorter c.components.self at in
    record {
      read = ap (λ (z : List Pattern). tuple_rest all_patterns.whole tuple_of_patterns z c.pat-in-components.new.self) c.in_ok-push.ensures.items
          ∙ (components_go_on c.components.found.items c.in_ok-pat.field-0 c.components.self c.pat-in-components.new.self at (ap (λ z. all_patterns.whole z) (sym c.skip-in-components.ensures) ∙ c.in_ok-pat.ensures) ∙ c.components.invariant.read);
      few = search rules;
      left = omega (arith, short, skipped, taken, c.components.invariant.left);
    }

pub pat_list-elements-init : goal.pat_list-elements-init
pat_list-elements-init t c = record {
  read = elements_start c.in_ok-first.first c.in_ok-found.found.items c.args.self.now c.pat.new.self c.in_ok-first.ensures c.in_ok-found.ensures;
  left = pattern_shorter c.args.self.now c.pat.new.self c.in_ok-first.first c.in_ok-first.ensures;
}

pub pat_list-elements-preserved : goal.pat_list-elements-preserved
pat_list-elements-preserved t c =
    let at : is_at Comma c.elements.self ≡ true = search rules in
    let short : length c.pat-in-elements.new.self < length c.skip.new.self = pattern_shorter _ _ _ c.in_ok-pat.ensures in
    let skipped : length c.skip.new.self ≡ length (tail c.elements.self) = ap length c.skip.ensures in
    let taken : length (tail c.elements.self) < length c.elements.self = comma_shorter c.elements.self at in
    record {
      read = ap (λ (z : List Pattern). list_rest all_patterns.whole list_of_patterns z c.pat-in-elements.new.self) c.in_ok-push.ensures.items
          ∙ (elements_go_on c.elements.found.items c.in_ok-pat.field-0 c.elements.self c.pat-in-elements.new.self at (ap (λ z. all_patterns.whole z) (sym c.skip.ensures) ∙ c.in_ok-pat.ensures) ∙ c.elements.invariant.read);
      left = omega (arith, short, skipped, taken, c.elements.invariant.left);
    }

pub apats-apats-preserved : goal.apats-apats-preserved
apats-apats-preserved t c =
    let begins : begins_apat (peek c.apats.self) ≡ true = search rules in
    let short : length c.apat.new.self < length c.apats.self = apats_shorter c.apats.self c.apat.new.self c.in_ok-apat.field-0 begins c.in_ok-apat.ensures in
    record {
      read = ap (λ (z : List Pattern). behind z (loop (next_apat all_patterns) c.apat.new.self)) c.in_ok-push.ensures.items
          ∙ (apats_go_on c.apats.found.items c.in_ok-apat.field-0 c.apats.self c.apat.new.self begins c.in_ok-apat.ensures ∙ c.apats.invariant.read);
      left = omega (arith, short, c.apats.invariant.left);
    }
