use Rattle.std.proofs.Common.{rules, ◌≡◌, ◌<◌, ◌-◌, ℕ, get_or, length, sym, ap, ◌∙◌, arith}
use Rattle.hm_messages_excerpts.specs.declared.lines.Span.{Span}
use Rattle.hm_messages_excerpts.proofs.Places.{found}
use Rattle.hm_messages_excerpts.proofs.lines.SourceLines.spot.Goals as goal

pub returns-then-place-len-clause-none : goal.returns-then-place-len-clause-none
returns-then-place-len-clause-none c h =
    let f = found c.args.self.now c.self.inside.spans.items c.args.place (search rules) h in
    let past : length c.self.inside.spans.items < c.args.place.line = search rules in
    omega (arith, f.inside, f.line, past)

pub returns-then-offset-end-clause-none : goal.returns-then-offset-end-clause-none
returns-then-offset-end-clause-none c h =
    let spans = c.self.inside.spans.items in
    let f = found c.args.self.now spans c.args.place (search rules) h in
    let number : f.number ≡ c.args.place.line - 1 = omega (arith, f.line) in
    let span : Span = c.index.result.now in
    let is : span ≡ get_or spans (c.args.place.line - 1) span = search rules in
    let same : get_or spans f.number span ≡ span = ap (λ (k : ℕ). get_or spans k span) number ∙ sym is in
    let past : span.end - span.start < c.args.place.column - 1 = search rules in
    omega (arith, f.column, f.short span, ap (λ (s : Span). s.start) same, ap (λ (s : Span). s.end) same, past)
