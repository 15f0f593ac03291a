use Rattle.std.proofs.Common.{rules, ◌≡◌, ◌∷◌, ◌∙◌, List, ap, map, subst, sym}
use Rattle.std.specs.Arc.{arc_value}
use Rattle.std.proofs.lemmas.List.{get_or-map}
use Rattle.hm_types.specs.Interfaces.{Exports as Interface}
use Rattle.hm_types.specs.StandardPrelude.{prelude_interface}
use Rattle.hm_syntax.specs.declared.ast.Module.{Module}
use Rattle.hm_names.specs.Bindings.{IsScopeOf}
use Rattle.hm_messages.specs.Messages.{AreEach}
use Rattle.hm_messages_details.specs.Details.{IsKnown, nothing}
use Rattle.hm_verdicts.specs.Sets.{module_at, no_module}
use Rattle.hm_build_messages.specs.Exporters.{AreExporterNotes}
use Rattle.hm_build_messages.specs.Explanations.{IsDetailed}
use Rattle.hm_build_messages.specs.Following.{IsFollowedFor}
use Rattle.hm_build_messages.specs.Searching.{all_files, all_texts, set_of, status_in}
use Rattle.hm_scope_imports.proofs.Apart.{imports_are_apart}
use Rattle.hm_build_messages.proofs.Followed.{plain_is}
use Rattle.hm_build_messages.proofs.Turns.{each_so}
use Rattle.hm_build_messages.proofs.detailing.searched_messages.Goals as goal

-- interfaces of other imports: nothing is known
pub returns-then-not-branch : goal.returns-then-not-branch
returns-then-not-branch c =
    let named = c.args.named.now in
    let view = named.view.now in
    let format = view.pages.now.format in
    let file = named.page.now.file.now in
    let source = named.page.now.lines in
    let m = module_at (set_of view) named.faulty.number in
    let fs = prelude_interface ∷ map arc_value c.args.imports.now in
    each_so (IsDetailed format file source (λ f known. known ≡ nothing)) (IsFollowedFor named m fs)
    (plain_is format file source (IsKnown m fs) (AreExporterNotes format file source (all_files view) (all_texts view) (set_of view) (status_in view) named.faulty.number fs) named.is_quiet (λ f. tt))
    named.faulty.faults.now c.in_ok-plain_messages.field-0.items c.in_ok-plain_messages.ensures

pub scope_of-requires : goal.scope_of-requires
scope_of-requires c =
    imports_are_apart c.deref-module.result.now c.deref-prelude.result.now (map arc_value c.args.imports.now) (ap (λ (f : Interface). f.name) (c.deref-prelude.ensures ∙ c.interface.ensures)) (search rules)

pub scoped_messages-requires-clause-scope : goal.scoped_messages-requires-clause-scope
scoped_messages-requires-clause-scope c =
    subst (λ (l : List Interface). IsScopeOf c.deref-module.result.now l c.in_ok-scope.scope) (sym (ap (map (λ f. f.now)) c.as_slice.ensures.value ∙ c.in_ok-interfaces.ensures)) c.in_ok-scope.ensures

pub scoped_messages-requires-clause-program : goal.scoped_messages-requires-clause-program
scoped_messages-requires-clause-program c =
    let named = c.args.named.now in
    c.deref-module.ensures ∙ sym (get_or-map arc_value named.view.now.modules.now named.faulty.number c.index-view-named.result no_module c.requires.number)

pub returns : goal.returns
returns c =
    let named = c.args.named.now in
    let view = named.view.now in
    let fs = map arc_value c.args.imports.now in
    let text = c.in_ok-scoped_messages.field-0.items in
    let first : c.deref-prelude.result.now ≡ prelude_interface = c.deref-prelude.ensures ∙ c.interface.ensures in
    let program : c.deref-module.result.now ≡ module_at (set_of view) named.faulty.number =
    c.deref-module.ensures ∙ sym (get_or-map arc_value view.modules.now named.faulty.number c.index-view-named.result no_module c.requires.number) in
    let list : map (λ f. f.now) c.as_slice.result.now ≡ prelude_interface ∷ fs =
    ap (map (λ f. f.now)) c.as_slice.ensures.value ∙ (c.in_ok-interfaces.ensures ∙ ap (λ f. f ∷ fs) first) in
    subst (λ (m : Module). AreEach (IsFollowedFor named m (prelude_interface ∷ fs)) named.faulty.faults.now text) program
    (subst (λ (l : List Interface). AreEach (IsFollowedFor named c.deref-module.result.now l) named.faulty.faults.now text) list c.in_ok-scoped_messages.ensures)
