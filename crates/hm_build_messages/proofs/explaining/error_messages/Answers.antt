use Rattle.std.proofs.Common.{rules, ◌≡◌, ◌++◌, false, subst, take}
use Rattle.std.proofs.lemmas.List.{take_all}
use Rattle.hm_messages.specs.Pages.{files_in, texts_in}
use Rattle.hm_build_messages.specs.Explanations.{AreErrorsStated, AreInTurn}
use Rattle.hm_build_reports.specs.Settling.{module_set, statuses_of}
use Rattle.hm_build_messages.proofs.Turns.{taken_turn}
use Rattle.hm_build_messages.proofs.explaining.error_messages.Goals as goal

pub errors_of-requires-clause-number : goal.errors_of-requires-clause-number
errors_of-requires-clause-number c = c.requires.rows c.loop-row.row-index _ c.loop-row-test.true

pub loop-row-preserved : goal.loop-row-preserved
loop-row-preserved c =
    let told = c.args.view.now in
    let message = c.in_ok-messages.messages.items in
    let pushed : c.extend_from_slice.new.self.items ≡ c.loop-row.text.items ++ message = search rules in
    taken_turn (λ r before after m. AreErrorsStated told.pages.now.format (files_in told.pages.now.items.items) (texts_in told.pages.now.items.items) (module_set told.modules.now told.plan.now) (statuses_of told.settled.now) r.number before after m)
    c.args.rows.now c.loop-row.row-index _ false c.loop-row.allowance.is_limit_stated c.errors_of.new.allowance.is_limit_stated c.loop-row.text.items c.extend_from_slice.new.self.items message (search rules) c.loop-row.invariant c.in_ok-messages.ensures pushed

pub returns : goal.returns
returns c =
    let told = c.args.view.now in
    let all : take c.loop-row.row-index c.args.rows.now ≡ c.args.rows.now = take_all _ _ (search rules) in (
      c.loop-row.allowance.is_limit_stated,
      subst (λ l. AreInTurn (λ r before after m. AreErrorsStated told.pages.now.format (files_in told.pages.now.items.items) (texts_in told.pages.now.items.items) (module_set told.modules.now told.plan.now) (statuses_of told.settled.now) r.number before after m) l false c.loop-row.allowance.is_limit_stated c.loop-row.text.items) all c.loop-row.invariant,
    )
