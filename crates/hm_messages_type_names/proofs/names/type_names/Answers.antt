use Rattle.std.proofs.Common.{rules, ◌≡◌, ◌∙◌, ◌++◌, ◌∷◌, All, ap, inl, inr, map, subst, sym}
use Rattle.std.specs.Arc.{arc_value}
use Rattle.std.proofs.lemmas.List.Elements.{All-append}
use Rattle.hm_types.specs.Interfaces.{Exports as Interface}
use Rattle.hm_types.specs.StandardPrelude.{prelude_interface}
use Rattle.hm_names.specs.Bindings.{IsScopeOf}
use Rattle.hm_scope_imports.proofs.Apart.{imports_are_apart}
use Rattle.hm_messages_types.specs.Aliases.{alias_of}
use Rattle.hm_messages_types.specs.Shown.{IsName}
use Rattle.hm_messages_types.specs.declared.shown.Alias.{Alias}
use Rattle.hm_messages_types.proofs.Folding.{all_so}
use Rattle.hm_messages_type_names.specs.TypeNames.{IsBareName, IsTypeName}
use Rattle.hm_messages_type_names.proofs.names.type_names.Goals as goal

-- synonyms alone
pub returns-then-is_empty : goal.returns-then-is_empty
returns-then-is_empty c =
    let home = c.args.home.now in
    let name = home.question.now.name.now in
    let fs = map arc_value home.question.now.imports.now in
    all_so (λ (a : Alias). IsName name c.args.interface.now (alias_of a)) (λ (a : Alias). IsTypeName home.«module».now (prelude_interface ∷ fs) name c.args.interface.now (alias_of a))
    (λ a h. inl h) c.in_ok-names.names.items c.in_ok-names.ensures

pub scope_of-requires : goal.scope_of-requires
scope_of-requires c =
    imports_are_apart c.args.home.now.«module».now c.deref-prelude.result.now (map arc_value c.args.home.now.question.now.imports.now)
    (ap (λ (f : Interface). f.name) (c.deref-prelude.ensures ∙ c.interface.ensures)) c.requires

pub returns : goal.returns
returns c =
    let home = c.args.home.now in
    let name = home.question.now.name.now in
    let fs = map arc_value home.question.now.imports.now in
    let own = c.in_ok-names.names.items in
    let bare = c.in_ok-bare.bare.items in
    let is : Alias → Type 0 = λ a. IsTypeName home.«module».now (prelude_interface ∷ fs) name c.args.interface.now (alias_of a) in
    let first : c.deref-prelude.result.now ≡ prelude_interface = c.deref-prelude.ensures ∙ c.interface.ensures in
    let scope : IsScopeOf home.«module».now (prelude_interface ∷ fs) c.in_ok-scope.scope =
    subst (λ (f : Interface). IsScopeOf home.«module».now (f ∷ fs) c.in_ok-scope.scope) first c.in_ok-scope.ensures in
    let before : All is own = all_so (λ (a : Alias). IsName name c.args.interface.now (alias_of a)) is (λ a h. inl h) own c.in_ok-names.ensures in
    let after : All is bare =
    all_so (λ (a : Alias). IsBareName home.«module».now (prelude_interface ∷ fs) (alias_of a)) is (λ a h. inr h) bare (c.in_ok-bare.ensures home.«module».now (prelude_interface ∷ fs) scope) in
    let all : c.append.new.self.items ≡ own ++ bare = search rules in
    subst (All is) (sym all) (All-append is own bare before after)
