use Rattle.std.proofs.Common.{rules, ◌≡◌, ◌≤◌, List, ℕ, length, map, string_bytes, subst}
use Rattle.std.specs.Prelude.{codes}
use Rattle.std.specs.Arc.{arc_value}
use Rattle.hm_types_display.specs.Texts.{scheme_text_of}
use Rattle.hm_messages_types.specs.Aliases.{alias_of}
use Rattle.hm_messages_changes.specs.Layouts.{surroundings_of}
use Rattle.hm_messages_trials.specs.PartTypes.{ExportsIn}
use Rattle.hm_messages_trials.specs.ShownTypes.{ExportsNames}
use Rattle.hm_messages_trials.specs.Signatures.{HasTypeAlone}
use Rattle.hm_messages_changes.specs.Probes.{with_alone}
use Rattle.hm_messages_trials.proofs.signatures.type_alone.Goals as goal

pub returns : goal.returns
returns c =
    let layout = c.args.layout.now in
    let name = c.args.question.now.name.now in
    let imports = map arc_value c.args.question.now.imports.now in
    let typed = c.in-Some-2.typed in
    let scheme = typed.scheme in
    let place = surroundings_of layout in
    let names = map alias_of typed.aliases.items in
    let ordered : layout.whole.from ≤ layout.whole.to = search rules in
    let within : layout.whole.to ≤ length layout.source.now = search rules in
    let changed : c.in-Some.changed.items ≡ with_alone layout.source.now layout.name.now place = search rules in
    let exports : ExportsIn c.in-Some.changed.items name imports (codes "part'types") scheme = search rules in
    let exported : ExportsNames c.in-Some.changed.items name imports names = search rules in
    let text : string_bytes c.in_ok-whole.whole ≡ scheme_text_of scheme = search rules in
    let alone : HasTypeAlone layout.source.now name imports layout.name.now (string_bytes c.in_ok-whole.whole)
    = record {
      place = place;
      ordered = ordered;
      within = within;
      scheme = scheme;
      typed = subst (λ (s : List ℕ). ExportsIn s name imports (codes "part'types") scheme) changed exports;
      text_is = text;
    } in
    record {
      whole = string_bytes c.in_ok-whole.whole;
      alone = alone;
      shown = record {
        place = place;
        names = names;
        exported = subst (λ (s : List ℕ). ExportsNames s name imports names) changed exported;
        folded = search rules;
      };
    }
