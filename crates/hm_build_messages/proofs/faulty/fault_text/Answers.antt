use Rattle.std.proofs.Common.{rules, ◌≡◌, ◌⊎◌, ◌++◌, ◌∙◌, false, [], append-nil, inl, map, refl, sym}
use Rattle.std.specs.Arc.{arc_value}
use Rattle.std.proofs.lemmas.Bool.{false≢true}
use Rattle.hm_messages_details.specs.Details.{nothing}
use Rattle.hm_messages.specs.Messages.{IsFaultMessage}
use Rattle.hm_build_messages.specs.Explanations.{AreNotes}
use Rattle.hm_build_messages.proofs.Turns.{same_limit}
use Rattle.hm_build_messages.proofs.faulty.fault_text.Goals as goal

-- an earlier note says that the limit is reached
pub returns-then-allowance-clause-stated : goal.returns-then-allowance-clause-stated
returns-then-allowance-clause-stated c =
    let format = c.args.«module».now.format in
    let page = c.args.«module».now.page.now in
    let fault = c.args.fault.now in
    let message = c.in_ok-text.text.items in
    let says : IsFaultMessage format page.file.now page.lines fault nothing message = search rules in
    record {
      message = message;
      notes = [];
      says = says;
      noted = inl refl;
      silent = λ told. refl;
      last = [];
      limited = same_limit format page.file.now page.lines fault c.args.allowance.now.is_limit_stated;
      whole = sym (append-nil message) ∙ sym (append-nil (message ++ []));
    }

-- something is left for the run
pub returns-then-not-is_used_up-clause-stated : goal.returns-then-not-is_used_up-clause-stated
returns-then-not-is_used_up-clause-stated c =
    let format = c.args.«module».now.format in
    let page = c.args.«module».now.page.now in
    let fault = c.args.fault.now in
    let before = c.args.allowance.now.is_limit_stated in
    let message = c.in_ok-text.text.items in
    let notes = c.in_ok-notes.notes.items in
    let text = c.extend_from_slice.new.self.items in
    let unstated : before ≡ false = search rules in
    let says : IsFaultMessage format page.file.now page.lines fault nothing message = search rules in
    let noted : (notes ≡ []) ⊎ AreNotes format page.file.now page.lines c.args.«module».now.question.now.name.now (map arc_value c.args.«module».now.question.now.imports.now) fault notes = search rules in
    let whole : text ≡ message ++ notes = search rules in
    record {
      message = message;
      notes = notes;
      says = says;
      noted = noted;
      silent = λ told. absurd (false≢true (sym unstated ∙ told));
      last = [];
      limited = same_limit format page.file.now page.lines fault before;
      whole = whole ∙ sym (append-nil (message ++ notes));
    }
