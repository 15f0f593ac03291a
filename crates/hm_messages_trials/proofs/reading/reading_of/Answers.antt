use Rattle.std.proofs.Common.{rules, ◌≡◌, ◌∙◌, true, sym}
use Rattle.std.proofs.lemmas.Bool.{false≢true}
use Rattle.hm_messages_trials.proofs.reading.reading_of.Goals as goal

-- an effort that is used up pays for nothing
pub returns-clause-none : goal.returns-clause-none
returns-clause-none c used =
    let paid : c.pays.result ≡ true = search rules in
    absurd (false≢true (sym (c.pays.ensures.refused (c.begin.ensures used)) ∙ paid))
