use Rattle.std.proofs.Common.{rules, ℕ, List, take, drop}
use Rattle.hm_messages_excerpts.proofs.Around.{line_of, line_text}
use Rattle.hm_messages_excerpts.proofs.lines.SourceLines.excerpt.Goals as goal

pub returns-clause-some : goal.returns-clause-some
returns-clause-some c =
    let source : List ℕ = c.args.self.now in
    let spot = c.in_ok-start.field-0 in
    let front : List ℕ = take spot.offset (line_text source spot) in
    let back : List ℕ = drop spot.offset (line_text source spot) in
    record {
      front = front;
      back = back;
      line = line_of source c.args.place spot c.in_ok-start.ensures.some;
      cut = search rules;
    }
