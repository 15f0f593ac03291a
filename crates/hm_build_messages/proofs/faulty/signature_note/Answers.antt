use Rattle.std.proofs.Common.{List, ℕ, None, inr, map, string_bytes, subst}
use Rattle.std.specs.Arc.{arc_value}
use Rattle.hm_lex.specs.declared.token.Place.{Place}
use Rattle.hm_messages.specs.Messages.{reader_place}
use Rattle.hm_messages.specs.Subjects.{unsigned as unsigned_subject}
use Rattle.hm_messages_trials.specs.Signatures.{IsUnsigned, Leads}
use Rattle.hm_messages_edits.specs.Signatures.{IsRetyped}
use Rattle.hm_build_messages.specs.PartMessages.{IsPartMessage}
use Rattle.hm_build_messages.proofs.faulty.signature_note.Goals as goal

pub returns : goal.returns
returns c =
    let format = c.args.«module».now.format in
    let page = c.args.«module».now.page.now in
    let name = c.args.«module».now.question.now.name.now in
    let imports = map arc_value c.args.«module».now.question.now.imports.now in
    let fault = c.args.found.now.fault.now in
    let signature = c.in-Some.unsigned.signature in
    let own = string_bytes c.in-Some.unsigned.own in
    let placed = c.in-Some-reader_place.ensures.some in
    let text = c.in_ok-text.text.items in
    let changes = c.in_ok-text.ensures.0 in
    let said : IsPartMessage format page.file.now page.lines signature None (unsigned_subject c.as_str.result.now (reader_place signature.end placed.0) own) changes text
    = subst (λ (p : Place). IsPartMessage format page.file.now page.lines signature None (unsigned_subject c.as_str.result.now p own) changes text) placed.2 c.in_ok-text.ensures.2 in
    inr (record {
      untyped = c.in-Some.ensures.own.0;
      signature = signature;
      own = own;
      alone = subst (λ (s : List ℕ). IsUnsigned s name imports fault.name signature own) c.requires c.in-Some.ensures.own.1;
      led = λ is. subst (λ (s : List ℕ). Leads s name imports signature) c.requires (c.in-Some.ensures.leads (c.leads_before.ensures is));
      columns = placed.0;
      columns_at = placed.1;
      changes = changes;
      retyped = subst (λ (d : List ℕ). IsRetyped page.lines d signature own changes) c.as_str.ensures c.in_ok-text.ensures.1;
      stated = subst (λ (d : List ℕ). IsPartMessage format page.file.now page.lines signature None (unsigned_subject d (reader_place signature.end placed.0) own) changes text) c.as_str.ensures said;
    })

pub signature_text-requires-clause-same : goal.signature_text-requires-clause-same
signature_text-requires-clause-same c = c.requires

pub signature_text-requires-clause-part : goal.signature_text-requires-clause-part
signature_text-requires-clause-part c = c.in-Some.ensures.own.1.part_of
