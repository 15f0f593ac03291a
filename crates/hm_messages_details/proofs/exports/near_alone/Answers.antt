use Rattle.std.proofs.Common.{◌≡◌, subst}
use Rattle.std.specs.Prelude.{Contains, IfSome}
use Rattle.hm_types.specs.declared.entries.SynonymEntry.{SynonymEntry}
use Rattle.hm_types.specs.declared.entries.TypeEntry.{TypeEntry}
use Rattle.hm_types.specs.declared.entries.ValueEntry.{ValueEntry}
use Rattle.hm_messages_details.specs.Nearness.{AreNear}
use Rattle.hm_messages_details.proofs.Exporting.{near_synonym_is, near_type_is, near_value_is}
use Rattle.hm_messages_details.proofs.exports.near_alone.Goals as goal

pub returns-in-Some : goal.returns-in-Some
returns-in-Some c =
    let rs = c.types.result.now in
    let text = c.args.text.now in
    near_type_is c.args.interface.now text c.in-Some.name.now rs c.types.ensures.value (subst (λ o. IfSome o (λ y. (r : TypeEntry) × Contains rs r × (r.name ≡ y.now) × AreNear text y.now)) c.in-Some.is c.in_ok-name.ensures)

pub returns-in-Some-2 : goal.returns-in-Some-2
returns-in-Some-2 c =
    let rs = c.synonyms.result.now in
    let text = c.args.text.now in
    near_synonym_is c.args.interface.now text c.in-Some-2.name.now rs c.synonyms.ensures.value (subst (λ o. IfSome o (λ y. (r : SynonymEntry) × Contains rs r × (r.name ≡ y.now) × AreNear text y.now)) c.in-Some-2.is c.in_ok-name-2.ensures)

pub returns-in-Some-3 : goal.returns-in-Some-3
returns-in-Some-3 c =
    let rs = c.values.result.now in
    let text = c.args.text.now in
    near_value_is c.args.interface.now text c.in-Some-3.name.now rs c.values.ensures.value (subst (λ o. IfSome o (λ y. (r : ValueEntry) × Contains rs r × (r.name ≡ y.now) × AreNear text y.now)) c.in-Some-3.is c.in_ok-name-3.ensures)
