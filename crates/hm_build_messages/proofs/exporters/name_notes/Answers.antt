use Rattle.std.proofs.Common.{◌≡◌, All, Contains, List, inr, subst}
use Rattle.std.specs.Prelude.{IfSome}
use Rattle.hm_lex.specs.declared.token.Place.{Place}
use Rattle.hm_syntax.specs.declared.ast.Module.{Module}
use Rattle.hm_types.specs.Interfaces.{Exports as Interface}
use Rattle.hm_syntax.specs.Lists.{declarations}
use Rattle.hm_names.specs.Bindings.{IsScopeOf}
use Rattle.hm_uses.specs.Mentions.{declarations_mentions}
use Rattle.hm_uses.specs.Uses.{UseOf}
use Rattle.hm_messages_exporters.specs.Missing.{IsMissing}
use Rattle.hm_build_messages.specs.Exporters.{AreNotesOf}
use Rattle.hm_build_messages.specs.Searching.{all_files, all_texts, file_of, format_of, interfaces_of, number_of, program_of, set_of, source_of, status_in, view_of}
use Rattle.hm_build_messages.proofs.exporters.name_notes.Goals as goal

pub returns-in_ok-notes_of-in-Some-clause-noted : goal.returns-in_ok-notes_of-in-Some-clause-noted
returns-in_ok-notes_of-in-Some-clause-noted c =
    let here = c.args.here.now in
    let view = view_of here in
    let found = c.in-Some.missing in
    let place = c.args.fault.now.place in
    let text = c.in_ok-notes_of-in-Some.field-0.items in
    let missing : IsMissing (program_of here) (interfaces_of here) place found.space found.name.now =
    subst (λ o. IfSome o (λ n. (m : Module) (fs : List Interface) → All (λ (u : UseOf). Contains (declarations_mentions (declarations m.decls)) u.mention) here.uses.now → IsScopeOf m fs here.site.now.scope.now → IsMissing m fs place n.space n.name.now))
    c.in-Some.is c.missing_at.ensures.missing (program_of here) (interfaces_of here) c.requires.names c.requires.scope in
    let at : found.place ≡ place = subst (λ o. IfSome o (λ m. m.place ≡ place)) c.in-Some.is c.missing_at.ensures.place in
    inr (record {
      space = found.space;
      name = found.name.now;
      missing = subst (λ (m : Module). IsMissing m (interfaces_of here) place found.space found.name.now) c.requires.program missing;
      noted = subst (λ (p : Place). AreNotesOf (format_of here) (file_of here) (source_of here) (all_files view) (all_texts view) (set_of view) (status_in view) (number_of here) (interfaces_of here) found.space found.name.now p text) at
          c.in_ok-notes_of-in-Some.ensures;
    })
