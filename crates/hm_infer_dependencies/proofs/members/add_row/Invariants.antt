use Rattle.std.proofs.Common.{take}
use Rattle.hm_infer_dependencies.specs.GroupMembers.{AddsRow}
use Rattle.hm_infer_dependencies.proofs.members.add_row.Given as goal

abbrev pub invariant-loop-place : goal.invariant-loop-place
invariant-loop-place l = AddsRow l.node (take l.place-index l.row) l.initial.members.items l.members.items
