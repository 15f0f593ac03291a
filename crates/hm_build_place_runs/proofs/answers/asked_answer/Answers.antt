use Rattle.std.proofs.Common.{rules, ◌≡◌, List, ℕ, map, string_bytes, subst}
use Rattle.hm_build_reports.specs.FinishedBuilds.{IsFinished}
use Rattle.hm_run_sources.specs.ModuleCounts.{AreCountedModules, AreOrigins}
use Rattle.hm_store_shared.specs.Gathered.{records_in}
use Rattle.hm_build_place_runs.proofs.Answered.{answered}
use Rattle.hm_build_place_runs.proofs.answers.asked_answer.Goals as goal

-- the answer of a build that is finished
pub returns-in-Ok-clause-ok : goal.returns-in-Ok-clause-ok
returns-in-Ok-clause-ok g c =
    let f = c.in-Ok.finished in
    let workers = c.args.asked.now.options.workers in
    let q = c.args.asked.now.question in
    let sources = map (λ s. s.items) c.args.sources.now in
    let built : map (λ s. s.items) c.in_ok-built.built.items ≡ sources = c.in_ok-built.ensures in
    let a = c.in_ok-answer-in-Ok.answer in
    let told = c.in_ok-answer-in-Ok.ensures in
    let origins : AreOrigins f.counts.items told.0 = search rules in
    answered (map (λ n. n.items) q.names.items) sources f.store (records_in f.records) workers f.counts.items (record { source = q.source; line = q.line; column = q.column; format = q.format }) (string_bytes a.text)
    (subst (λ (l : List (List ℕ)). IsFinished l workers f.store (records_in f.records)) built c.in-Ok.ensures.finished) c.in-Ok.ensures.verdicts
    (subst (λ (l : List (List ℕ)). AreCountedModules l f.store.modules f.counts.items) built c.in-Ok.ensures.counted) a.status told.0 origins told.1.1
