use Rattle.std.proofs.Common.{rules, ◌≡◌, List, ℕ, map, string_bytes, subst}
use Rattle.std.specs.Arc.{arc_value}
use Rattle.hm_types_display.specs.Texts.{scheme_text_of}
use Rattle.hm_messages_types.specs.Aliases.{alias_of}
use Rattle.hm_messages_types.specs.Shown.{IsFolded}
use Rattle.hm_messages_changes.specs.Holes.{without}
use Rattle.hm_messages_changes.specs.Layouts.{surroundings_of}
use Rattle.hm_messages_trials.specs.PartTypes.{ExportsIn}
use Rattle.hm_messages_trials.specs.ShownTypes.{ExportsNames}
use Rattle.hm_messages_trials.proofs.signatures.type_there.Goals as goal

pub returns : goal.returns
returns c =
    let layout = c.args.layout.now in
    let part = c.args.part in
    let name = c.args.question.now.name.now in
    let imports = map arc_value c.args.question.now.imports.now in
    let typed = c.in-Some.typed in
    let names = map alias_of typed.aliases.items in
    let text = string_bytes c.in_ok-folded.field-0 in
    let changed : c.in_ok-changed.changed.items ≡ without layout.source.now part.from part.to = search rules in
    let exports : ExportsIn c.in_ok-changed.changed.items name imports layout.name.now typed.scheme = search rules in
    let exported : ExportsNames c.in_ok-changed.changed.items name imports names = search rules in
    let whole : string_bytes c.in_ok-whole.whole ≡ scheme_text_of typed.scheme = search rules in
    let shown : IsFolded names (string_bytes c.in_ok-whole.whole) text = search rules in
    record {
      scheme = typed.scheme;
      typed = subst (λ (s : List ℕ). ExportsIn s name imports layout.name.now typed.scheme) changed exports;
      shown = record {
        place = surroundings_of layout;
        names = names;
        exported = subst (λ (s : List ℕ). ExportsNames s name imports names) changed exported;
        folded = subst (λ (t : List ℕ). IsFolded names t text) whole shown;
      };
    }
