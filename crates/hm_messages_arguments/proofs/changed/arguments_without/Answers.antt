use Rattle.std.proofs.Common.{rules, ◌∙◌, ◌+◌, ℕ, Contains, ap, flat_map, refl, string_bytes, sym}
use Rattle.hm_run_sources.specs.SourceModules.{HasModules}
use Rattle.hm_messages_changes.specs.Holes.{without}
use Rattle.hm_messages_arguments.specs.Applied.{applied_of, module_applied}
use Rattle.hm_messages_arguments.specs.Counts.{place_of}
use Rattle.hm_messages_arguments.proofs.Counting.{counted}
use Rattle.hm_messages_arguments.proofs.changed.arguments_without.Goals as goal

pub returns-in-Some-3 : goal.returns-in-Some-3
returns-in-Some-3 c =
    let source = c.args.source.now in
    let argument = c.args.argument in
    let here = c.in-Some-3.both.here in
    let then = c.in-Some-3.both.then in
    let found = c.in_ok-numbers-in-Some-3.field-0 in
    let named = c.in_ok-numbers-in-Some-3.ensures in
    let is = c.if-is_one_fewer.ensures in
    let read : HasModules source c.in-Some.before.items = search rules in
    let there : Contains (flat_map module_applied c.in-Some.before.items) (applied_of here) = search rules in
    let read_changed : HasModules (without source argument.from argument.to) c.in-Some-2.after.items = search rules in
    let there_changed : Contains (flat_map module_applied c.in-Some-2.after.items) (applied_of then) = search rules in
    record {
      place = place_of here.name.now;
      before = is.before refl;
      counted = counted source c.in-Some.before.items here (place_of here.name.now) (string_bytes found.function) found.here read there refl named.0 named.1.0;
      left = counted (without source argument.from argument.to) c.in-Some-2.after.items then (place_of here.name.now) (string_bytes found.function) found.then read_changed there_changed
          (is.place refl) (named.0 ∙ is.name refl) named.1.1;
      fewer = named.1.0 ∙ (is.fewer refl ∙ ap (λ (k : ℕ). k + 1) (sym named.1.1));
    }
