-- The exit statuses. Status 0 is also that of help and version, 2 that of a refused command line, and 4 that of a source that can't be opened.
use Rattle.std.specs.Prelude.{ℕ}
use Rattle.hm_run_io.specs.declared.faults.RunFault.{RunFault}
use Rattle.hm_run_io.specs.declared.faults.RunFault.TheVariants.{Read, Write, Memory, NoWorker, Mixed, Workers}
use Rattle.hm_run_sources.specs.declared.status.Status.{Status}
use Rattle.hm_run_sources.specs.declared.status.Status.TheVariants.{Good, Faulty, Refused}

abbrev pub code_of : Status → ℕ
code_of Good = 0
code_of Faulty = 1
code_of Refused = 2

abbrev pub code_of_fault : RunFault → ℕ
code_of_fault Workers = 2
code_of_fault Memory = 3
code_of_fault Read = 4
code_of_fault Write = 4
code_of_fault Mixed = 5
code_of_fault NoWorker = 6
