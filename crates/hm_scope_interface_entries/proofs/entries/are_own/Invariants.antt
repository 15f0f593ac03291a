use Rattle.std.proofs.Common.{◌≡◌, All, Contains, take}
use Rattle.hm_names.specs.declared.cores.Exported.{Exported}
use Rattle.hm_scope_interface_entries.proofs.entries.are_own.Given as goal

abbrev pub invariant-loop-exported : goal.invariant-loop-exported
invariant-loop-exported l = All (λ (x : Exported). (x.entity.«module» ≡ l.home) × Contains l.own x.entity.name) (take l.exported-index l.exports)
