use Rattle.std.proofs.Common.{rules, ◌≡◌, ◌∙◌, ◌∷◌, List, ap, map, subst}
use Rattle.std.specs.Arc.{arc_value}
use Rattle.hm_types.specs.Interfaces.{Exports as Interface}
use Rattle.hm_types.specs.StandardPrelude.{prelude_interface}
use Rattle.hm_syntax.specs.Lists.{declarations}
use Rattle.hm_syntax.specs.Trees.{Declaration}
use Rattle.hm_names.specs.Bindings.{IsScopeOf}
use Rattle.hm_scope_imports.proofs.Apart.{imports_are_apart}
use Rattle.hm_messages.specs.Messages.{AreEach}
use Rattle.hm_messages_variables.specs.LikeTypes.{Likeness, like_types}
use Rattle.hm_build_messages.specs.Variables.{IsVariableNote}
use Rattle.hm_build_messages.proofs.variables.notes_in.Goals as goal

pub scope_of-requires : goal.scope_of-requires
scope_of-requires c =
    imports_are_apart c.args.program.now c.deref-prelude.result.now (map arc_value c.args.«module».now.question.now.imports.now)
    (ap (λ (f : Interface). f.name) (c.deref-prelude.ensures ∙ c.interface.ensures)) c.requires

pub returns : goal.returns
returns c =
    let page = c.args.«module».now.page.now in
    let told = IsVariableNote c.args.«module».now.format page.file.now page.lines in
    let fs = map arc_value c.args.«module».now.question.now.imports.now in
    let first : c.deref-prelude.result.now ≡ prelude_interface = c.deref-prelude.ensures ∙ c.interface.ensures in
    let scope : IsScopeOf c.args.program.now (prelude_interface ∷ fs) c.in_ok-scope.scope =
    subst (λ (f : Interface). IsScopeOf c.args.program.now (f ∷ fs) c.in_ok-scope.scope) first c.in_ok-scope.ensures in
    let text = c.in_ok-notes_of.field-0.items in
    let decls : c.as_slice.result.now ≡ c.args.program.now.decls = search rules in
    let found : c.in_ok-likes.likes.items ≡ like_types c.in_ok-scope.scope c.args.definition.now (declarations c.args.program.now.decls) =
    c.in_ok-likes.ensures ∙ ap (λ (ds : List Declaration). like_types c.in_ok-scope.scope c.args.definition.now (declarations ds)) decls in
    let likes : c.as_slice-2.result.now ≡ like_types c.in_ok-scope.scope c.args.definition.now (declarations c.args.program.now.decls) = c.as_slice-2.ensures.value ∙ found in
    (c.in_ok-scope.scope, scope, subst (λ (l : List Likeness). AreEach told l text) likes c.in_ok-notes_of.ensures)
