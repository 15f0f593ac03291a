use Rattle.std.proofs.Common.{rules, ◌≡◌, List, ℕ, inr, map, subst}
use Rattle.std.specs.Arc.{arc_value}
use Rattle.hm_verdicts.specs.ModuleVerdicts.{Verdict}
use Rattle.hm_verdicts.specs.Outcomes.{verdict_of}
use Rattle.hm_messages_hidden.specs.Hidden.{IsVerdictBeyond}
use Rattle.hm_build_messages.specs.Explanations.{AreHiddenNotes}
use Rattle.hm_build_messages.proofs.hidden.module_notes.Goals as goal

pub returns : goal.returns
returns c =
    let format = c.args.«module».now.format in
    let page = c.args.«module».now.page.now in
    let question = c.args.«module».now.question.now in
    let verdict = c.in-Some.outcome.verdict in
    let text = c.in_ok-verdict_notes.field-0.items in
    let same : verdict_of c.verdict.result.now ≡ verdict = search rules in
    let told : AreHiddenNotes format page.file.now page.lines (verdict_of c.verdict.result.now) text = search rules in
    inr (record {
      verdict = verdict;
      beyond = subst (λ (s : List ℕ). IsVerdictBeyond s question.name.now (map arc_value question.imports.now) c.args.«module».now.faults.now verdict) c.requires c.in-Some.ensures;
      stated = subst (λ (v : Verdict). AreHiddenNotes format page.file.now page.lines v text) same told;
    })
