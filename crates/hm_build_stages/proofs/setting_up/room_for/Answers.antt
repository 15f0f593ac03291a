use Rattle.std.proofs.Common.{rules, ◌≡◌, ◌-◌, ◌+◌, ◌^◌, map, min, take, length, sum_by, sym, ap, ◌∙◌}
use Rattle.std.proofs.lemmas.List.{take_all}
use Rattle.hm_build_stages.proofs.RoomSums.{rooms, whole}
use Rattle.hm_build_stages.proofs.setting_up.room_for.Goals as goal

pub returns : goal.returns
returns c =
    let rows = c.args.imports.now in
    let all : take c.loop-row.row-index rows ≡ rows = take_all c.loop-row.row-index rows c.loop-row-test.false in
    whole _ c.loop-row.room
    (c.loop-row.invariant ∙ ap (λ xs. min xs (2 ^ 64 - 1)) (ap (λ xs. 2 + sum_by (λ row. length row + 2) (map (λ row. row.items) xs)) all ∙ rooms (map (λ row. row.items) rows)))
    c.if-room.false
