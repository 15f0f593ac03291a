use Rattle.std.proofs.Common.{rules, ◌≡◌, ◌-◌, length, take, drop, arith}
use Rattle.std.proofs.lemmas.List.{length-drop, take_all}
use Rattle.std.specs.Prelude.{slice_range}
use Rattle.hm_messages_changes.specs.Exchanges.{bracketed}
use Rattle.hm_messages_changes.proofs.Pieces.{five_in_row}
use Rattle.hm_messages_changes.proofs.exchanges.with_exchanged.Goals as goal

pub returns : goal.returns
returns c =
    let source = c.args.source.now in
    let first = c.args.first in
    let second = c.args.second in
    let in_front : c.as_slice.result.now ≡ bracketed source second = search rules in
    let after : c.as_slice-2.result.now ≡ bracketed source first = search rules in
    let end : take (length source - second.to) (drop second.to source) ≡ drop second.to source = take_all _ _ (omega (arith, length-drop second.to source)) in
    five_in_row (take first.from source) (bracketed source second) (slice_range source first.to second.from) (bracketed source first) (drop second.to source)
    c.as_slice.result.now c.as_slice-2.result.now (take (length source - second.to) (drop second.to source)) c.in_ok-joined.field-0.items in_front after end c.in_ok-joined.ensures
