use Rattle.std.proofs.Common.{rules, ◌≡◌, ◌≤◌, All, Bool, true, List, ℕ, length, map, string_bytes, subst}
use Rattle.std.specs.Prelude.{codes}
use Rattle.std.specs.Arc.{arc_value}
use Rattle.hm_messages_types.specs.Aliases.{alias_of}
use Rattle.hm_messages_changes.specs.Layouts.{surroundings_of}
use Rattle.hm_messages_trials.specs.PartTypes.{AreTextsOf, ExportsIn, HasPartTypes}
use Rattle.hm_messages_changes.specs.Probes.{IsWritten, with_probe}
use Rattle.hm_messages_trials.specs.ShownTypes.{ExportsNames}
use Rattle.hm_messages_trials.specs.TypedSources.{IsSignedIn}
use Rattle.hm_messages_trials.proofs.part_typing.types_for.Goals as goal

pub returns : goal.returns
returns c =
    let layout = c.args.layout.now in
    let part = c.args.part in
    let name = c.args.question.now.name.now in
    let imports = map arc_value c.args.question.now.imports.now in
    let typed = c.in-Some-2.typed in
    let types = c.in-Some-3.types in
    let shown = c.in_ok-folded_types.field-0 in
    let place = surroundings_of layout in
    let names = map alias_of typed.aliases.items in
    let starts : layout.whole.from ≤ part.from = search rules in
    let ordered : part.from ≤ part.to = search rules in
    let ends : part.to ≤ layout.whole.to = search rules in
    let within : layout.whole.to ≤ length layout.source.now = search rules in
    let before : All (IsWritten layout.source.now layout.name.now) layout.local.before.now = search rules in
    let after : All (IsWritten layout.source.now layout.name.now) layout.local.after.now = search rules in
    let changed : c.in-Some.changed.items ≡ with_probe layout.source.now layout.name.now place part = search rules in
    let exports : ExportsIn c.in-Some.changed.items name imports (codes "part'types") typed.scheme = search rules in
    let exported : ExportsNames c.in-Some.changed.items name imports names = search rules in
    let signed : Bool = c.in_ok-is_signed.is_signed in
    let declared : signed ≡ true → IsSignedIn layout.source.now name layout.name.now = search rules in
    let texts : AreTextsOf typed.scheme signed (string_bytes types.own) (string_bytes types.expected) (string_bytes types.actual) types.infinite = search rules in
    let there : ExportsNames (with_probe layout.source.now layout.name.now place part) name imports names = subst (λ (s : List ℕ). ExportsNames s name imports names) changed exported in
    let whole : HasPartTypes layout.source.now name imports layout.name.now part (string_bytes types.own) (string_bytes types.expected) (string_bytes types.actual) types.infinite
    = record {
      place = place;
      starts = starts;
      ordered = ordered;
      ends = ends;
      within = within;
      before = before;
      after = after;
      scheme = typed.scheme;
      typed = subst (λ (s : List ℕ). ExportsIn s name imports (codes "part'types") typed.scheme) changed exports;
      signed = signed;
      declared = declared;
      texts = texts;
    } in
    let same : types.infinite ≡ shown.infinite = search rules in
    record {
      whole_own = string_bytes types.own;
      whole_expected = string_bytes types.expected;
      whole_actual = string_bytes types.actual;
      types = subst (λ (b : Bool). HasPartTypes layout.source.now name imports layout.name.now part (string_bytes types.own) (string_bytes types.expected) (string_bytes types.actual) b) same whole;
      own_shown = record { place = place; names = names; exported = there; folded = search rules };
      expected_shown = record { place = place; names = names; exported = there; folded = search rules };
      actual_shown = record { place = place; names = names; exported = there; folded = search rules };
    }
