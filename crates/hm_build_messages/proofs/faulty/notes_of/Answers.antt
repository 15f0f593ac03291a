use Rattle.std.proofs.Common.{map, subst}
use Rattle.std.specs.Prelude.{IfSome}
use Rattle.std.specs.Arc.{arc_value}
use Rattle.hm_build_messages.specs.Explanations.{IsCauseNote, following}
use Rattle.hm_build_messages.proofs.faulty.notes_of.Goals as goal

pub returns-in-Some : goal.returns-in-Some
returns-in-Some c =
    let page = c.args.«module».now.page.now in
    let name = c.args.«module».now.question.now.name.now in
    let imports = map arc_value c.args.«module».now.question.now.imports.now in
    following (subst (λ o. IfSome o (λ t. IsCauseNote c.args.«module».now.format page.file.now page.lines name imports c.args.found.now.fault.now t.items)) c.in-Some.is c.in_ok-note.ensures)
