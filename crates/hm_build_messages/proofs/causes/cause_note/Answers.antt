use Rattle.std.proofs.Common.{rules, List, ℕ, None, [], map, subst}
use Rattle.std.specs.Arc.{arc_value}
use Rattle.hm_lex.specs.declared.token.Place.{Place}
use Rattle.hm_messages.specs.Messages.{reader_place}
use Rattle.hm_messages.specs.Subjects.{follows}
use Rattle.hm_messages_causes.specs.Causes.{IsCause}
use Rattle.hm_build_messages.specs.PartMessages.{IsPartMessage}
use Rattle.hm_build_messages.proofs.causes.cause_note.Goals as goal

pub returns : goal.returns
returns c =
    let format = c.args.«module».now.format in
    let page = c.args.«module».now.page.now in
    let name = c.args.«module».now.question.now.name.now in
    let imports = map arc_value c.args.«module».now.question.now.imports.now in
    let fault = c.args.found.now.fault.now in
    let other = c.in-Some.cause.name.now in
    let signature = c.in-Some.cause.signature in
    let placed = c.in-Some-reader_place.ensures.some in
    let text = c.in_ok-part_message.field-0.items in
    let told : IsPartMessage format page.file.now page.lines signature None (follows c.as_str.result.now other c.in-Some-reader_place.end) [] text = search rules in
    let said : IsPartMessage format page.file.now page.lines signature None (follows c.as_str.result.now other (reader_place signature.end placed.0)) [] text
    = subst (λ (p : Place). IsPartMessage format page.file.now page.lines signature None (follows c.as_str.result.now other p) [] text) placed.2 told in
    record {
      untyped = c.in-Some.ensures.0;
      other = other;
      signature = signature;
      cause = subst (λ (s : List ℕ). IsCause s name imports fault.name other signature) c.requires c.in-Some.ensures.1;
      columns = placed.0;
      columns_at = placed.1;
      stated = subst (λ (d : List ℕ). IsPartMessage format page.file.now page.lines signature None (follows d other (reader_place signature.end placed.0)) [] text) c.as_str.ensures said;
    }
