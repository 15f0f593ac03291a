use Rattle.std.proofs.Common.{rules, ◌≡◌, ◌∙◌, All, List, ℕ, None, string_bytes, subst, sym}
use Rattle.hm_types.specs.declared.Entity.{Entity}
use Rattle.hm_types.specs.Interfaces.{Exports as Interface}
use Rattle.hm_types.specs.StandardPrelude.{prelude_interface}
use Rattle.hm_types.specs.declared.entries.TypeEntry.{TypeEntry}
use Rattle.hm_types.specs.declared.entries.SynonymEntry.{SynonymEntry}
use Rattle.hm_types_display.specs.Texts.{original_text}
use Rattle.hm_names.specs.declared.namespace.Namespace.TheVariants.{Types}
use Rattle.hm_names.specs.Scope.{Means}
use Rattle.hm_messages_types.specs.Shown.{NamedType}
use Rattle.hm_messages_type_names.specs.TypeNames.{IsBareName}
use Rattle.hm_messages_type_names.proofs.names.bare_name.Goals as goal

pub returns : goal.returns
returns c = λ m fs scope.
    let entity = c.args.entity.now in
    let prelude = c.args.prelude.now in
    let written = c.in_ok-written.written in
    let shown : List ℕ = string_bytes c.in_ok-name.name in
    let name : shown ≡ entity.name = search rules in
    let asked : c.as_str-name.result.now ≡ shown = search rules in
    let text : string_bytes c.in_ok-text.text ≡ original_text entity = search rules in
    let bare : written.qualifier ≡ None = search rules in
    let named : written.text ≡ entity.name = search rules in
    let same : c.in-Entity.meant ≡ entity = search rules in
    let meant : Means m fs Types written c.in-Entity.meant = c.in-Entity.ensures.means m fs scope in
    let is : prelude ≡ prelude_interface = c.requires in
    let no_type : All (λ (t : TypeEntry). ¬ (t.name ≡ c.as_str-name.result.now)) prelude.types = c.is_free.ensures.types c.if-not-is_free.false in
    let no_synonym : All (λ (t : SynonymEntry). ¬ (t.name ≡ c.as_str-name.result.now)) prelude.synonyms = c.is_free.ensures.synonyms c.if-not-is_free.false in
    subst (λ (n : NamedType). IsBareName m fs n) (sym c.new.ensures) (record {
      entity = entity;
      name_is = name;
      text_is = text;
      written = written;
      bare = bare;
      named = named ∙ sym name;
      means = subst (λ (e : Entity). Means m fs Types written e) same meant;
      no_type = subst (λ (n : List ℕ). All (λ (t : TypeEntry). ¬ (t.name ≡ n)) prelude_interface.types) asked
          (subst (λ (f : Interface). All (λ (t : TypeEntry). ¬ (t.name ≡ c.as_str-name.result.now)) f.types) is no_type);
      no_synonym = subst (λ (n : List ℕ). All (λ (t : SynonymEntry). ¬ (t.name ≡ n)) prelude_interface.synonyms) asked
          (subst (λ (f : Interface). All (λ (t : SynonymEntry). ¬ (t.name ≡ c.as_str-name.result.now)) f.synonyms) is no_synonym);
    })
