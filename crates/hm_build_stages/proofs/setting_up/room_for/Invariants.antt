use Rattle.std.proofs.Common.{◌≡◌, ◌+◌, ◌-◌, ◌*◌, ◌^◌, map, min, take, length, sum_by}
use Rattle.hm_build_stages.proofs.setting_up.room_for.Given as goal

abbrev pub invariant-loop-row : goal.invariant-loop-row
invariant-loop-row l = l.room ≡ min (2 + sum_by (λ row. length row + 2) (map (λ row. row.items) (take l.row-index l.imports))) (2 ^ 64 - 1)
