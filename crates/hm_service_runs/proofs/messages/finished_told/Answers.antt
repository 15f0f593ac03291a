use Rattle.std.proofs.Common.{List, ℕ, map, string_bytes, subst}
use Rattle.hm_store_shared.specs.Gathered.{records_in}
use Rattle.hm_service_messages.specs.Lines.{AreTold}
use Rattle.hm_service_runs.proofs.RunsTold.{run_told, workers_of}
use Rattle.hm_service_runs.proofs.messages.finished_told.Goals as goal

pub returns : goal.returns
returns c =
    let o = c.in_ok-output.output in
    let told = c.in_ok-told.told in
    let options = c.in_ok-options.options in
    let sources = map (λ s. s.items) c.args.sources.now in
    let f = c.args.finished.now in
    let records = records_in f.records in
    run_told c.args.workers c.args.numbers.now sources told options o.status (string_bytes o.text) o.messages.items c.in_ok-options.ensures
    (c.in_ok-output.ensures records (workers_of c.args.workers c.args.numbers.now options sources f.store records c.in_ok-options.ensures c.requires.finished)) (subst (λ (l : List ℕ). AreTold told l) c.as_slice.ensures.value c.in_ok-told.ensures.ok)
