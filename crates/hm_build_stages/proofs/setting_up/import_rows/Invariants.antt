use Rattle.std.proofs.Common.{◌≡◌, map, take}
use Rattle.hm_build_stages.proofs.setting_up.import_rows.Given as goal

abbrev pub invariant-loop-number : goal.invariant-loop-number
invariant-loop-number l = map (λ row. row.items) l.rows.items ≡ take l.number l.plan
