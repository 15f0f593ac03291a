use Rattle.std.proofs.Common.{rules, ◌≡◌, ℕ, List, take, drop, subst, sym}
use Rattle.hm_messages_excerpts.proofs.Around.{line_of, line_text}
use Rattle.hm_messages_excerpts.specs.Excerpts.{IsLineAround}
use Rattle.hm_messages_excerpts.proofs.lines.SourceLines.rest_of_line.Goals as goal

pub returns-clause-some : goal.returns-clause-some
returns-clause-some c =
    let source : List ℕ = c.args.self.now in
    let spot = c.in_ok-start.field-0 in
    let front : List ℕ = take spot.offset (line_text source spot) in
    let rest : List ℕ = c.split_at.result.1.now in
    let is : rest ≡ drop spot.offset (line_text source spot) = search rules in
    (front, subst (λ (b : List ℕ). IsLineAround source c.args.place front b) (sym is) (line_of source c.args.place spot c.in_ok-start.ensures.some))
