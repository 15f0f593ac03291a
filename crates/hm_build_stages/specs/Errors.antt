-- Why a build fails, for the crate's own functions.
use Rattle.std.specs.Prelude.{ℕ, List}
use Rattle.hm_store_shared.specs.declared.dealing.SharedFault.{SharedFault}
use Rattle.hm_store_shared.specs.declared.dealing.SharedFault.TheVariants as shared
use Rattle.hm_run_sources.specs.Origins.{AreHeadersFor, IsModuleOf}
use Rattle.hm_run_sources.specs.Runs.{IsRefusalOf}
use Rattle.hm_build_stages.specs.declared.faults.BuildFault.{BuildFault}
use Rattle.hm_build_stages.specs.declared.faults.BuildFault.TheVariants as build

-- why a build of the modules of sources fails. For refused sources this is their fault, with the headers of the modules if the plan has it. If memory ran
-- out in the check of a module, this is the module
abbrev pub IsBuildFault : List (List ℕ) → BuildFault → Type 0
IsBuildFault sources (build.Refused r) = IsRefusalOf sources r.fault × AreHeadersFor sources r.fault r.located.items
IsBuildFault sources build.Workers = Unit {0}
IsBuildFault sources build.NoWorker = Unit {0}
IsBuildFault sources build.Memory = Unit {0}
IsBuildFault sources (build.Exhausted m) = IsModuleOf sources m
IsBuildFault sources build.Mixed = Unit {0}

-- the same, if the number of workers is allowed
abbrev pub IsBuildError : List (List ℕ) → BuildFault → Type 0
IsBuildError sources (build.Refused r) = IsRefusalOf sources r.fault × AreHeadersFor sources r.fault r.located.items
IsBuildError sources build.Workers = ⊥
IsBuildError sources build.NoWorker = Unit {0}
IsBuildError sources build.Memory = Unit {0}
IsBuildError sources (build.Exhausted m) = IsModuleOf sources m
IsBuildError sources build.Mixed = Unit {0}

-- why a build fails if its store can't be shared
abbrev pub build_fault_of : SharedFault → BuildFault
build_fault_of shared.Memory = build.Memory
build_fault_of shared.NoReader = build.NoWorker
