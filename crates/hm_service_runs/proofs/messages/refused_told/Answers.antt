use Rattle.std.proofs.Common.{List, ℕ, map, string_bytes, subst}
use Rattle.hm_service_messages.specs.Lines.{AreTold}
use Rattle.hm_service_runs.proofs.RunsTold.{run_told}
use Rattle.hm_service_runs.proofs.messages.refused_told.Goals as goal

pub returns : goal.returns
returns c =
    let o = c.in_ok-output.output in
    let told = c.in_ok-told.told in
    run_told c.args.workers c.args.numbers.now (map (λ s. s.items) c.args.sources.now) told c.in_ok-options.options o.status (string_bytes o.text) o.messages.items c.in_ok-options.ensures c.in_ok-output.ensures
    (subst (λ (l : List ℕ). AreTold told l) c.as_slice.ensures.value c.in_ok-told.ensures.ok)
