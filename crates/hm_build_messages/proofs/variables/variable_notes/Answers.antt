use Rattle.std.proofs.Common.{◌≡◌, List, ℕ, inr, map, subst}
use Rattle.std.specs.Prelude.{IfSome}
use Rattle.std.specs.Arc.{arc_value}
use Rattle.hm_syntax.specs.declared.ast.Module.{Module}
use Rattle.hm_messages_trials.specs.TypedSources.{IsModuleIn}
use Rattle.hm_build_messages.proofs.variables.variable_notes.Goals as goal

pub returns : goal.returns
returns c =
    let question = c.args.«module».now.question.now in
    let program : Module = c.in-Some.program in
    let read : IsModuleIn question.source.now question.name.now program =
    subst (λ o. IfSome o (IsModuleIn question.source.now question.name.now)) c.in-Some.is c.in_ok-program.ensures in
    let spelled : IsModuleIn c.args.«module».now.page.now.lines question.name.now program = subst (λ (s : List ℕ). IsModuleIn s question.name.now program) c.requires read in
    let noted = c.in_ok-notes_in.ensures in
    inr (record { «module» = program; spelled = spelled; scope = noted.0; of_module = noted.1; stated = noted.2 })
