use Rattle.std.proofs.Common.{rules, ◌≡◌, ◌+◌, ◌≤◌, ℕ, List, length, take, drop, sym, ap, ◌∙◌, arith}
use Rattle.hm_messages_excerpts.specs.Columns.{characters, utf16_units}
use Rattle.hm_messages_excerpts.proofs.Around.{front_long, front_same, line_of, line_text}
use Rattle.hm_messages_excerpts.proofs.lines.SourceLines.columns_of.Goals as goal

pub columns_at-requires-clause-within : goal.columns_at-requires-clause-within
columns_at-requires-clause-within c =
    let is = c.requires.1 in
    let within : c.args.spot.start + c.args.spot.offset ≤ length c.args.self.now = omega (arith, is.within, is.line.ordered, is.line.within) in
    search rules

pub returns : goal.returns
returns c = λ place is.
    let source : List ℕ = c.args.self.now in
    let spot = c.args.spot in
    let front : List ℕ = take spot.offset (line_text source spot) in
    let same : take spot.offset (drop spot.start source) ≡ front = front_same source place spot is in
    let bytes_are : c.columns_at.result.bytes ≡ spot.offset + 1 = search rules in
    let characters_are : c.columns_at.result.characters ≡ characters (take spot.offset (drop spot.start source)) + 1 = search rules in
    let utf16_are : c.columns_at.result.utf16 ≡ utf16_units (take spot.offset (drop spot.start source)) + 1 = search rules in
    record {
      front = front;
      back = drop spot.offset (line_text source spot);
      line = line_of source place spot is;
      bytes_are = bytes_are ∙ ap (λ (n : ℕ). n + 1) (sym (front_long source place spot is));
      characters_are = characters_are ∙ ap (λ (l : List ℕ). characters l + 1) same;
      utf16_are = utf16_are ∙ ap (λ (l : List ℕ). utf16_units l + 1) same;
    }
