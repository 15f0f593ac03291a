use Rattle.std.proofs.Common.{rules, ◌≡◌, ◌∷◌, All, List, inl, map, subst}
use Rattle.std.specs.Arc.{arc_value}
use Rattle.std.proofs.lemmas.List.Elements.{All-map}
use Rattle.hm_types.specs.Interfaces.{Exports as Interface}
use Rattle.hm_types.specs.StandardPrelude.{prelude_interface}
use Rattle.hm_names.specs.Imports.{AreImportsOf}
use Rattle.hm_verdicts.specs.ModuleVerdicts.{Good, IsVerdict}
use Rattle.hm_messages_types.specs.Aliases.{alias_of}
use Rattle.hm_messages_trials.specs.TypedSources.{IsModuleIn}
use Rattle.hm_messages_types.specs.Shown.{IsName}
use Rattle.hm_messages_types.specs.declared.shown.Alias.{Alias}
use Rattle.hm_messages_types.proofs.Folding.{all_so}
use Rattle.hm_messages_type_names.specs.TypeNames.{IsTypeName}
use Rattle.hm_messages_trials.specs.ShownTypes.{ExportsNames}
use Rattle.hm_messages_here.specs.declared.typed.ExportedScheme.{ExportedScheme}
use Rattle.hm_messages_trials.proofs.Found.{found_so}
use Rattle.hm_messages_here.proofs.typed.typed_in.Goals as goal

pub returns-in-Good-clause-names : goal.returns-in-Good-clause-names
returns-in-Good-clause-names c =
    let name = c.args.question.now.name.now in
    let fs = map arc_value c.args.question.now.imports.now in
    let o = c.in-Some.outcome in
    let exports = c.deref.result.now in
    let spelled : IsModuleIn c.args.changed.now name o.«module» = search rules in
    let of_imports : AreImportsOf o.«module» fs = search rules in
    let imports : o.imports ≡ fs = search rules in
    let own : IsVerdict o.«module» (prelude_interface ∷ o.imports) (Good exports) = search rules in
    let right : IsVerdict o.«module» (prelude_interface ∷ fs) (Good exports) = subst (λ (l : List Interface). IsVerdict o.«module» (prelude_interface ∷ l) (Good exports)) imports own in
    found_so (λ (t : ExportedScheme). All (λ a. IsName name exports (alias_of a)) t.aliases.items) (λ (t : ExportedScheme). ExportsNames c.args.changed.now name fs (map alias_of t.aliases.items))
    c.in_ok-typed_by-in-Good.field-0
    (λ t each. record {
      «module» = o.«module»;
      spelled = spelled;
      of_imports = of_imports;
      exports = exports;
      right = right;
      each = All-map (IsTypeName o.«module» (prelude_interface ∷ fs) name exports) alias_of t.aliases.items
          (all_so (λ (a : Alias). IsName name exports (alias_of a)) (λ (a : Alias). IsTypeName o.«module» (prelude_interface ∷ fs) name exports (alias_of a)) (λ a h. inl h) t.aliases.items each);
    })
    c.in_ok-typed_by-in-Good.ensures.names
