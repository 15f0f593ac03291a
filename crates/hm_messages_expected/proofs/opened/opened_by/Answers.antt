use Rattle.std.proofs.Common.{rules, ◌≡◌, ◌∙◌, ◌≤◌, All, List, ℕ, ap, length, map}
use Rattle.std.proofs.lemmas.List.Elements.{All-map}
use Rattle.hm_messages_changes.specs.Blanks.{replaced}
use Rattle.hm_messages_expected.specs.Expected.{IsDefined, with_placeholder}
use Rattle.hm_messages_hidden.specs.Hidden.{IsReplaced}
use Rattle.hm_messages_expected.proofs.opened.opened_by.Goals as goal

pub returns : goal.returns
returns c =
    let source = c.args.source.now in
    let faults = c.args.faults.now in
    let change = c.args.change.now in
    let part = c.args.part in
    let names = map (λ n. n.now) change.names.now in
    let whole : c.as_slice-text.result.now ≡ replaced source change.at names change.replaced.now = search rules in
    let removed : All (IsReplaced source faults) change.replaced.now = search rules in
    let after : part.to ≤ change.at = search rules in
    let within : change.at ≤ length source = search rules in
    record {
      at = change.at;
      after = after;
      within = within;
      names = names;
      defined = All-map (IsDefined faults) (λ n. n.now) change.names.now c.requires;
      definitions = change.replaced.now;
      removed = removed;
      changed_is = c.in_ok-with_placeholder.ensures ∙ ap (λ (s : List ℕ). with_placeholder s part) whole;
    }
