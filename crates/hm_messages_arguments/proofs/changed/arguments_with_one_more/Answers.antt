use Rattle.std.proofs.Common.{rules, ◌∙◌, ◌+◌, ℕ, Contains, ap, flat_map, refl, string_bytes, sym}
use Rattle.hm_run_sources.specs.SourceModules.{HasModules}
use Rattle.hm_messages_changes.specs.Insertions.{with_insertion}
use Rattle.hm_messages_changes.specs.declared.insertions.Insertion.TheVariants.{Argument}
use Rattle.hm_messages_arguments.specs.Applied.{applied_of, module_applied}
use Rattle.hm_messages_arguments.specs.Counts.{place_of}
use Rattle.hm_messages_arguments.proofs.Counting.{counted}
use Rattle.hm_messages_arguments.proofs.changed.arguments_with_one_more.Goals as goal

pub returns-in-Some-3 : goal.returns-in-Some-3
returns-in-Some-3 c =
    let source = c.args.source.now in
    let front = c.args.front in
    let here = c.in-Some-3.both.here in
    let then = c.in-Some-3.both.then in
    let found = c.in_ok-numbers-in-Some-3.field-0 in
    let named = c.in_ok-numbers-in-Some-3.ensures in
    let is = c.if-is_one_more.ensures in
    let read : HasModules source c.in-Some.before.items = search rules in
    let there : Contains (flat_map module_applied c.in-Some.before.items) (applied_of here) = search rules in
    let read_changed : HasModules (with_insertion source Argument front) c.in-Some-2.after.items = search rules in
    let there_changed : Contains (flat_map module_applied c.in-Some-2.after.items) (applied_of then) = search rules in
    record {
      place = place_of then.name.now;
      right_of = is.place refl;
      counted = counted source c.in-Some.before.items here front.start (string_bytes found.function) found.here read there (is.at refl) named.0 named.1.0;
      changed = counted (with_insertion source Argument front) c.in-Some-2.after.items then (place_of then.name.now) (string_bytes found.function) found.then read_changed there_changed
          refl (named.0 ∙ is.name refl) named.1.1;
      more = named.1.1 ∙ (is.more refl ∙ ap (λ (k : ℕ). k + 1) (sym named.1.0));
    }
