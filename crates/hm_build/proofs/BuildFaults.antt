-- Why there is no build, where its workers ended early, its store can't be shared, or its records don't agree.
use Rattle.std.proofs.Common.{◌≡◌, ◌⊎◌, ◌<◌, ◌∙◌, ℕ, List, length, map, get_or, sym, ap, subst, ⊎_elim}
use Rattle.std.proofs.lemmas.List.{length-map}
use Rattle.hm_store_shared.specs.declared.dealing.SharedFault.{SharedFault}
use Rattle.hm_store_shared.specs.declared.dealing.SharedFault.TheVariants as shared
use Rattle.hm_syntax.specs.declared.ast.Module.{Module}
use Rattle.hm_run_sources.proofs.Origins.{module_by_counts}
use Rattle.hm_run_sources.specs.ModuleCounts.{AreCountedModules, IsCountedTo}
use Rattle.hm_run_sources.specs.declared.located.SourceModule.{SourceModule}
use Rattle.hm_build_stages.specs.declared.faults.BuildFault.{BuildFault}
use Rattle.hm_build_stages.specs.declared.faults.BuildFault.TheVariants.{Refused, Workers, Memory, Mixed, NoWorker, Exhausted}
use Rattle.hm_build_stages.specs.Errors as stages
use Rattle.hm_build.proofs.JobRows.{taken_at}
use Rattle.hm_build.specs.Workers.{IsWorkError, IsWorkModule}

as_work : (modules : List Module) (counts : List ℕ) (e fault : BuildFault) → fault ≡ e → IsWorkError modules counts e → IsWorkError modules counts fault
as_work modules counts e fault is at = subst (IsWorkError modules counts) (sym is) at

pub from_shared : (modules : List Module) (counts : List ℕ) (given : SharedFault) (fault : BuildFault) → fault ≡ stages.build_fault_of given → IsWorkError modules counts fault
from_shared modules counts shared.Memory fault is = as_work modules counts Memory fault is tt
from_shared modules counts shared.NoReader fault is = as_work modules counts NoWorker fault is tt

pub from_memory : (modules : List Module) (counts : List ℕ) (fault : BuildFault) → fault ≡ Memory → IsWorkError modules counts fault
from_memory modules counts fault is = as_work modules counts Memory fault is tt

pub from_end : (modules : List Module) (counts : List ℕ) (fault : BuildFault) → (fault ≡ Memory) ⊎ (fault ≡ Mixed) → IsWorkError modules counts fault
from_end modules counts fault either = ⊎_elim (λ is. as_work modules counts Memory fault is tt) (λ is. as_work modules counts Mixed fault is tt) either

-- a module of which there is a shared copy, with its source and its name
pub is_work_module : {A : Type 0} (value : A → Module) (shared : List A) (counts : List ℕ) (m : SourceModule) (d : A) → m.number < length shared → IsCountedTo counts m.number m.source
    → m.name ≡ (value (get_or shared m.number d)).header.name → IsWorkModule (map value shared) counts m
is_work_module value shared counts m d within counted named = record {
  within = subst (λ n. m.number < n) (sym (length-map shared value)) within;
  counted = counted;
  named = λ e. named ∙ ap (λ (h : Module). h.header.name) (taken_at value shared m.number d e within);
}

-- the workers' fault is that of the build of the sources
pub build_error : (sources : List (List ℕ)) (modules : List Module) (counts : List ℕ) (fault : BuildFault) → AreCountedModules sources modules counts → IsWorkError modules counts fault → stages.IsBuildError sources fault
build_error sources modules counts (Refused r) counted h = absurd h
build_error sources modules counts Workers counted h = h
build_error sources modules counts NoWorker counted h = tt
build_error sources modules counts Memory counted h = tt
build_error sources modules counts (Exhausted m) counted h = module_by_counts sources modules counts m h.within h.counted h.named counted
build_error sources modules counts Mixed counted h = tt
