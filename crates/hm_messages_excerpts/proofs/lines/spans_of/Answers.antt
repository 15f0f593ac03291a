use Rattle.std.proofs.Common.{◌≡◌, ◌≤◌, ◌<◌, ◌+◌, ◌-◌, ℕ, List, length, take, drop, get_or, subst, sym, ap, ◌∙◌, arith}
use Rattle.std.proofs.lemmas.List.{get_or-drop, take_rest, length-drop, length_push}
use Rattle.hm_lex.specs.Cut.{is_line_end, place_after}
use Rattle.hm_lex.specs.declared.token.Place.{Place}
use Rattle.hm_lex.proofs.Places.{place}
use Rattle.hm_messages_excerpts.specs.Lines.{IsWithout}
use Rattle.hm_messages_excerpts.proofs.Places.{lines_more, place_behind}
use Rattle.hm_messages_excerpts.proofs.lines.spans_of.Goals as goal

pub loop-start-preserved : goal.loop-start-preserved
loop-start-preserved c =
    let source : List ℕ = c.args.source.now in
    let start : ℕ = c.loop-start.start in
    let len : ℕ = c.line_len.result in
    let i = c.loop-start.invariant in
    let inside : start ≤ length source = c.loop-start-test.true in
    let rest : take (length source - start) (drop start source) ≡ drop start source = take_rest source start in
    let within : start + len ≤ length source = omega (arith, inside, length-drop start source, ap length rest, c.line_len.ensures.within) in
    let line = i.line inside in
    let column = i.column inside in
    let plain : IsWithout is_line_end (take len (drop start source)) = subst (λ (l : List ℕ). IsWithout is_line_end (take len l)) rest c.line_len.ensures.plain in
    let long : length c.push.new.self.items ≡ length c.loop-start.spans.items + 1 = ap length c.in_ok-push.ensures.items ∙ length_push c.loop-start.spans.items _ in
    let end : start + len < length source → get_or source (start + len) 0 ≡ 10 =
    λ more. sym (get_or-drop start source len 0) ∙ subst (λ (l : List ℕ). get_or l len 0 ≡ 10) rest (c.line_len.ensures.end (omega (arith, more, length-drop start source, ap length rest))) in
    let next : start + len + 1 ≤ length source → place_after (take (start + len + 1) source) ≡ place (length c.loop-start.spans.items + 2) 1 =
    λ more. place_behind source start len (length c.loop-start.spans.items) (omega (arith, more)) line column plain
    (subst (λ (l : List ℕ). get_or l len 0 ≡ 10) rest (c.line_len.ensures.end (omega (arith, more, length-drop start source, ap length rest)))) in
    record {
      within = omega (arith, within);
      lines = lines_more source c.loop-start.spans.items c.push.new.self.items start len within i.lines line column plain end c.in_ok-push.ensures.items;
      line = λ more. ap (λ (p : Place). p.line) (next more) ∙ omega (arith, long);
      column = λ more. ap (λ (p : Place). p.column) (next more);
    }
