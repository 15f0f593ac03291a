use Rattle.std.proofs.Common.{rules, ◌≡◌, ◌+◌, ◌-◌, ◌≤◌, ℕ, List, take, drop, refl, ap, ◌∙◌}
use Rattle.hm_lex.proofs.Places.{place}
use Rattle.hm_messages_excerpts.specs.Marks.{marked}
use Rattle.hm_messages_excerpts.proofs.Around.{back_same, line_of, line_text, spot_along}
use Rattle.hm_messages_excerpts.proofs.lines.SourceLines.mark_end.Goals as goal

pub columns_of-requires : goal.columns_of-requires
columns_of-requires c =
    let spot = c.in_ok-start.field-0 in
    let low : c.marked-len.result ≤ spot.end - (spot.start + spot.offset) = search rules in
    (place c.args.place.line (c.args.place.column + c.marked-len.result), spot_along c.args.self.now c.args.place spot c.marked-len.result c.in_ok-start.ensures.some low)

pub returns-clause-some : goal.returns-clause-some
returns-clause-some c =
    let source : List ℕ = c.args.self.now in
    let spot = c.in_ok-start.field-0 in
    let is = c.in_ok-start.ensures.some in
    let low : c.marked-len.result ≤ spot.end - (spot.start + spot.offset) = search rules in
    let len : c.marked-len.result ≡ marked (take (spot.end - (spot.start + spot.offset)) (drop (spot.start + spot.offset) source)) = search rules in
    let behind = place c.args.place.line (c.args.place.column + c.marked-len.result) in (
      behind,
      record {
        front = take spot.offset (line_text source spot);
        back = drop spot.offset (line_text source spot);
        line = line_of source c.args.place spot is;
        line_is = refl;
        column_is = ap (λ (n : ℕ). c.args.place.column + n) (len ∙ ap marked (back_same source c.args.place spot is));
      },
      c.columns_of.ensures behind (spot_along source c.args.place spot c.marked-len.result is low),
    )
