use Rattle.std.proofs.Common.{rules, ◌≡◌, ℕ, All, List, true, sym, subst}
use Rattle.std.specs.Prelude.{is_some}
use Rattle.hm_lex.specs.Texts.{LiesIn}
use Rattle.hm_lex.specs.declared.token.Token.{Token}
use Rattle.hm_parse_grammar.specs.Grammar.Modules.{Spells}
use Rattle.hm_syntax.specs.declared.ast.Module.{Module}
use Rattle.hm_messages_hints.specs.Marks.{IsMarkIn}
use Rattle.hm_messages_hints.specs.Repairs.{repaired, unrepaired}
use Rattle.hm_messages_hints.specs.declared.mark.Mark.{Mark}
use Rattle.hm_messages_repairs.proofs.Trials.{all_on, both, from_copy, repair_of, some_of, trial_lies}
use Rattle.hm_messages_repairs.proofs.trial.is_read.Goals as goal

pub parse_run-requires : goal.parse_run-requires
parse_run-requires c =
    let more = c.mark_token-2.new.text.items in
    let trial = c.in-Some.trial.items in
    let is : trial ≡ repaired c.args.repair c.in_ok-mark.mark c.in_ok-close.close c.args.tokens.now = search rules in
    let lies = trial_lies c.args.source.now c.in_ok-text.text.items c.mark_token.new.text.items more c.args.tokens.now trial c.args.repair c.mark_of.result c.in_ok-mark.mark c.in_ok-close.close
    c.requires c.in_ok-text.ensures.items c.in_ok-mark.ensures.extends c.in_ok-mark.ensures.mark c.in_ok-close.ensures.extends c.in_ok-close.ensures.mark is in
    subst (λ (l : List ℕ). All (LiesIn l) c.as_slice-2.result.now) (sym c.as_slice.ensures.value)
    (subst (λ (l : List Token). All (LiesIn more) l) (sym c.as_slice-2.ensures.value) lies)

pub is_unread-requires-clause-lie : goal.is_unread-requires-clause-lie
is_unread-requires-clause-lie c =
    let source = c.args.source.now in
    let more = c.mark_token-2.new.text.items in
    let on = both source c.mark_token.new.text.items more (from_copy source c.in_ok-text.text.items c.mark_token.new.text.items c.in_ok-text.ensures.items c.in_ok-mark.ensures.extends) c.in_ok-close.ensures.extends in
    subst (λ (l : List ℕ). All (LiesIn l) c.args.tokens.now) (sym c.as_slice-3.ensures.value) (all_on source more c.args.tokens.now on c.requires)

pub returns : goal.returns
returns c = λ none.
    let more = c.mark_token-2.new.text.items in
    let trial = c.in-Some.trial.items in
    let is : trial ≡ repaired c.args.repair c.in_ok-mark.mark c.in_ok-close.close c.args.tokens.now = search rules in
    let some : is_some c.in_ok-found.found ≡ true = search rules in
    let got = some_of c.in_ok-found.found c.in_ok-found.ensures.spelled some in
    let spelled : Spells got.0.items more trial = subst (λ (l : List ℕ). Spells got.0.items l trial) c.as_slice.ensures.value
    (subst (λ (l : List Token). Spells got.0.items c.as_slice.result.now l) c.as_slice-2.ensures.value got.1) in
    let unread : (others : List Module) → ¬ (Spells others more (unrepaired c.args.repair.scope c.in_ok-close.close c.args.tokens.now)) =
    λ others s. c.in_ok-is_unread.ensures none others (subst (λ (l : List ℕ). Spells others l (unrepaired c.args.repair.scope c.in_ok-close.close c.args.tokens.now)) (sym c.as_slice-3.ensures.value) s) in
    repair_of c.args.source.now c.in_ok-text.text.items c.mark_token.new.text.items more c.args.tokens.now trial c.args.repair c.in_ok-mark.mark c.in_ok-close.close got.0.items
    c.in_ok-text.ensures.items c.in_ok-mark.ensures.extends (subst (λ (m : Mark). IsMarkIn c.mark_token.new.text.items m c.in_ok-mark.mark) c.mark_of.ensures c.in_ok-mark.ensures.mark) c.in_ok-close.ensures.extends c.in_ok-close.ensures.mark is spelled unread
