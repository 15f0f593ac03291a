-- The object of a message with members that are equal.
use Rattle.std.proofs.Common.{◌≡◌, ◌∙◌, ap}
use Rattle.serde_json.specs.Data.{Data}
use Rattle.hm_messages_json.specs.Objects.{joined_data, ranged}
use Rattle.hm_messages_json.specs.declared.message.Message.{Message}

pub joined_same : (m : Message) (edits edits' end end' expected expected' hint hint' owner owner' name name' other other' start start' actual actual' : Data)
    → edits ≡ edits' → end ≡ end' → expected ≡ expected' → hint ≡ hint' → owner ≡ owner' → name ≡ name' → other ≡ other' → start ≡ start' → actual ≡ actual'
    → joined_data m edits end expected hint owner name other start actual ≡ joined_data m edits' end' expected' hint' owner' name' other' start' actual'
joined_same m edits edits' end end' expected expected' hint hint' owner owner' name name' other other' start start' actual actual' of_edits at_end of_expected of_hint of_owner of_name of_other at_start of_actual =
    ap (λ d. joined_data m d end expected hint owner name other start actual) of_edits
    ∙ (ap (λ d. joined_data m edits' d expected hint owner name other start actual) at_end
    ∙ (ap (λ d. joined_data m edits' end' d hint owner name other start actual) of_expected
    ∙ (ap (λ d. joined_data m edits' end' expected' d owner name other start actual) of_hint
    ∙ (ap (λ d. joined_data m edits' end' expected' hint' d name other start actual) of_owner
    ∙ (ap (λ d. joined_data m edits' end' expected' hint' owner' d other start actual) of_name
    ∙ (ap (λ d. joined_data m edits' end' expected' hint' owner' name' d start actual) of_other
    ∙ (ap (λ d. joined_data m edits' end' expected' hint' owner' name' other' d actual) at_start
    ∙ ap (λ d. joined_data m edits' end' expected' hint' owner' name' other' start' d) of_actual)))))))

pub ranged_same : (base base' part part' second second' : Data) → base ≡ base' → part ≡ part' → second ≡ second' → ranged base part second ≡ ranged base' part' second'
ranged_same base base' part part' second second' of_base of_part of_second =
    ap (λ d. ranged d part second) of_base ∙ (ap (λ d. ranged base' d second) of_part ∙ ap (λ d. ranged base' part' d) of_second)
