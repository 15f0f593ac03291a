use Rattle.std.proofs.Common.{rules, ◌≡◌, Bool, map, string_bytes, subst, sym}
use Rattle.std.specs.Arc.{arc_value}
use Rattle.hm_messages_trials.specs.ShownTypes.{AreShownOf, HasFoldedTypes}
use Rattle.hm_messages_trials.proofs.part_typing.types_at.Goals as goal

pub returns : goal.returns
returns c =
    let source = c.args.question.now.source.now in
    let name = c.args.question.now.name.now in
    let imports = map arc_value c.args.question.now.imports.now in
    let fault = c.args.found.now.fault.now.name in
    let types = c.in-Some-2.types in
    let shown = c.in_ok-shown_types.field-0 in
    let same : shown.infinite ≡ types.infinite = search rules in
    let folded : HasFoldedTypes source name imports fault c.args.part (string_bytes types.own) (string_bytes types.expected) (string_bytes types.actual) types.infinite = search rules in
    let lettered : AreShownOf source fault (string_bytes types.own) (string_bytes types.expected) (string_bytes types.actual) (string_bytes shown.expected) (string_bytes shown.actual) = search rules in
    record {
      own = string_bytes types.own;
      folded_expected = string_bytes types.expected;
      folded_actual = string_bytes types.actual;
      types = subst (λ (b : Bool). HasFoldedTypes source name imports fault c.args.part (string_bytes types.own) (string_bytes types.expected) (string_bytes types.actual) b) (sym same) folded;
      shown = lettered;
    }
