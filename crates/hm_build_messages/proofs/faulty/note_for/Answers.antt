use Rattle.std.proofs.Common.{List, ℕ, inr, map, subst}
use Rattle.std.specs.Arc.{arc_value}
use Rattle.hm_lex.specs.declared.token.Place.{Place}
use Rattle.hm_messages_excerpts.specs.Columns.{AreColumnsAt}
use Rattle.hm_messages.specs.Messages.{reader_place}
use Rattle.hm_messages_edits.proofs.Parts.{parts_inside}
use Rattle.hm_messages_trials.specs.Mends.{IsMend}
use Rattle.hm_build_messages.specs.Explanations.{IsStatedOf}
use Rattle.hm_build_messages.proofs.faulty.note_for.Goals as goal

pub returns : goal.returns
returns c =
    let page = c.args.«module».now.page.now in
    let name = c.args.«module».now.question.now.name.now in
    let imports = map arc_value c.args.«module».now.question.now.imports.now in
    let fault = c.args.found.now.fault.now in
    let mend = c.in-Some.mend in
    let placed = c.in-Some-reader_place.ensures.some in
    let text = c.in_ok-text.text.items in
    let told : IsStatedOf c.args.«module».now.format page.file.now page.lines name imports c.as_str.result.now mend (reader_place c.other_of.result placed.0) text
    = subst (λ (p : Place). IsStatedOf c.args.«module».now.format page.file.now page.lines name imports c.as_str.result.now mend p text) placed.2 c.in_ok-text.ensures in
    let named : IsStatedOf c.args.«module».now.format page.file.now page.lines name imports fault.name mend (reader_place c.other_of.result placed.0) text
    = subst (λ (d : List ℕ). IsStatedOf c.args.«module».now.format page.file.now page.lines name imports d mend (reader_place c.other_of.result placed.0) text) c.as_str.ensures told in
    inr (record {
      untyped = c.in-Some.ensures.0;
      mend = mend;
      mended = subst (λ (s : List ℕ). IsMend s name imports fault.name mend) c.requires c.in-Some.ensures.1;
      columns = placed.0;
      columns_at = subst (λ (p : Place). AreColumnsAt page.lines p placed.0) c.other_of.ensures placed.1;
      stated = subst (λ (p : Place). IsStatedOf c.args.«module».now.format page.file.now page.lines name imports fault.name mend (reader_place p placed.0) text) c.other_of.ensures named;
    })

pub note_text-requires-clause-same : goal.note_text-requires-clause-same
note_text-requires-clause-same c = c.requires

pub note_text-requires-clause-parts : goal.note_text-requires-clause-parts
note_text-requires-clause-parts c =
    parts_inside c.args.«module».now.question.now.source.now c.args.«module».now.question.now.name.now (map arc_value c.args.«module».now.question.now.imports.now)
    c.args.found.now.fault.now.name c.in-Some.mend c.in-Some.ensures.1
