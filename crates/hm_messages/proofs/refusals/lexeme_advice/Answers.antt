use Rattle.std.proofs.Common.{rules, arith, ◌≡◌, ◌-◌, ◌<◌, ◌≤◌, ℕ, List, get_or, length, subst}
use Rattle.std.proofs.lemmas.List.{length-map}
use Rattle.hm_messages_excerpts.specs.Excerpts.{IsExcerptAt, IsRestOfLine}
use Rattle.hm_messages.specs.declared.pages.Page.{Page}
use Rattle.hm_messages.proofs.AtPage.{text_is}
use Rattle.hm_messages.proofs.refusals.lexeme_advice.Goals as goal

pub returns : goal.returns
returns c inside =
    let pages : List Page = c.args.pages.now.items.items in
    let k : ℕ = c.args.source - 1 in
    let one : Page = c.index.result.now in
    let two : Page = c.index-2.result.now in
    let many : c.args.source ≤ length pages = subst (λ (n : ℕ). c.args.source ≤ n) (length-map pages (λ (p : Page). p.lines)) c.requires.1 in
    let within : k < length pages = omega (arith, c.requires.0, many) in
    let one_is : one ≡ get_or pages k one = search rules in
    let two_is : two ≡ get_or pages k two = search rules in
    record {
      rest = c.in-Some.rest.now;
      from = subst (λ (s : List ℕ). IsRestOfLine s c.args.place c.in-Some.rest.now) (text_is pages k one within one_is) c.in-Some.ensures.some;
      holds = c.lexeme_hint-hint.ensures.holds;
      first = λ e. c.is_first.ensures (c.lexeme_hint-hint.ensures.first e);
      shown = c.in-Some-excerpt.excerpt;
      at = subst (λ (s : List ℕ). IsExcerptAt s c.args.place c.in-Some-excerpt.excerpt) (text_is pages k two within two_is) c.in-Some-excerpt.ensures.some;
      name_is = c.operator_in-name.ensures;
    }
