use Rattle.std.proofs.Common.{rules, ◌≡◌, List, ℕ, map, string_bytes, subst}
use Rattle.std.specs.Prelude.{slice_range}
use Rattle.std.specs.Arc.{arc_value}
use Rattle.hm_messages_changes.specs.Holes.{IsPartOf}
use Rattle.hm_messages_here.specs.TypesHere.{HasTypeAt}
use Rattle.hm_messages_expected.specs.Expected.{IsExpected, IsOpened, placeholder}
use Rattle.hm_messages_expected.proofs.expected.expected_with.Goals as goal

pub returns : goal.returns
returns c =
    let name = c.args.question.now.name.now in
    let imports = map arc_value c.args.question.now.imports.now in
    let source = c.args.lexed.now.source.now in
    let faults = c.args.named.now.faults.now in
    let fault = c.args.named.now.fault.now in
    let part = c.in-Some.part in
    let changed = c.in-Some-2.changed.items in
    let typed = c.in-Some-3.typed in
    let definition = string_bytes typed.definition in
    let own = string_bytes typed.own in
    let here = string_bytes typed.here in
    let text = string_bytes c.in_ok-shown_type.field-0 in
    let part_is : IsPartOf source part = search rules in
    let starts : part.start ≡ fault.place = search rules in
    let written : slice_range source part.from part.to ≡ fault.name = search rules in
    let opened : IsOpened source faults part changed = search rules in
    let there : HasTypeAt c.as_slice.result.now name imports fault.place placeholder definition own here = search rules in
    let expected : IsExpected source name imports faults fault text = record {
      unbound = c.requires.unbound;
      definition = definition;
      own = own;
      here = here;
      typed = record {
        part = part;
        part_is = part_is;
        starts = starts;
        written = written;
        changed = changed;
        opened = opened;
        typed = subst (λ (s : List ℕ). HasTypeAt s name imports fault.place placeholder definition own here) c.as_slice.ensures.value there;
      };
      shown = c.in_ok-shown_type.ensures;
    } in
    subst (λ (s : List ℕ). IsExpected s name imports faults fault text) c.requires.source expected
