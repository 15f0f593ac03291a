use Rattle.std.proofs.Common.{rules, ◌≡◌, List, ℕ, map, string_bytes, subst}
use Rattle.std.specs.Arc.{arc_value}
use Rattle.hm_types_display.specs.Texts.{scheme_text_of}
use Rattle.hm_messages_types.specs.Aliases.{alias_of}
use Rattle.hm_messages_types.specs.Shown.{IsFolded}
use Rattle.hm_messages_copies.specs.Changes.{variable_of, with_declaration}
use Rattle.hm_messages_copies.specs.Data.{place_of}
use Rattle.hm_messages_trials.specs.ShownTypes.{ExportsNames}
use Rattle.hm_messages_here.specs.TypesHere.{HasSchemeHere, HasTypes}
use Rattle.hm_messages_here.proofs.scheme.scheme_at.Goals as goal

pub returns : goal.returns
returns c =
    let target = c.args.target.now in
    let source = target.source.now in
    let name = c.args.question.now.name.now in
    let imports = map arc_value c.args.question.now.imports.now in
    let typed = c.in-Some-2.typed in
    let names = map alias_of typed.aliases.items in
    let whole = with_declaration source (place_of target) (variable_of c.args.name.now) in
    let changed : c.in-Some.changed.items ≡ whole = search rules in
    let exports : HasTypes c.in-Some.changed.items name imports typed.scheme = search rules in
    let exported : ExportsNames c.in-Some.changed.items name imports names = search rules in
    let text : string_bytes c.in_ok-whole.whole ≡ scheme_text_of typed.scheme = search rules in
    let folded : IsFolded names (string_bytes c.in_ok-whole.whole) (string_bytes c.in_ok-folded.field-0) = search rules in
    record {
      place = place_of target;
      scheme = typed.scheme;
      typed = subst (λ (s : List ℕ). HasTypes s name imports typed.scheme) changed exports;
      shown = record {
        names = names;
        exported = subst (λ (s : List ℕ). ExportsNames s name imports names) changed exported;
        folded = subst (λ (t : List ℕ). IsFolded names t (string_bytes c.in_ok-folded.field-0)) text folded;
      };
    }
