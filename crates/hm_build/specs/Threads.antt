-- What the thread of a run returns. No public clause names it.
use Rattle.std.specs.Prelude.{◌≡◌, ◌⊎◌, ℕ, List, None, Result, IfErr, IfOk, IfSome, string_bytes}
use Rattle.hm_build.specs.declared.outputs.NoOutput.{NoOutput}
use Rattle.hm_build_output.specs.Outputs.{IsExhaustionFor, IsOutput}
use Rattle.hm_build_output.specs.declared.options.RunOptions.{RunOptions}
use Rattle.hm_build_output.specs.declared.outputs.Output.{Output}
use Rattle.hm_run_io.specs.declared.faults.RunFault.TheVariants.{Memory, Mixed, NoWorker}

pub record IsResultOf (run_options : RunOptions) (sources : List (List ℕ)) (result : Result Output NoOutput) : Type 0 where
  pub ok : IfOk result (λ o. IsOutput run_options sources sources o.status (string_bytes o.text) o.messages.items)
  pub err : IfErr result (λ e. (e.fault ≡ Memory) ⊎ ((e.fault ≡ NoWorker) ⊎ (e.fault ≡ Mixed)))
  pub exhausted : IfErr result (λ e. IfSome e.message (λ m. IsExhaustionFor run_options.messages sources m.items))
  pub silent : IfErr result (λ e. (e.fault ≡ Memory) ⊎ (e.message ≡ None))
