use Rattle.std.proofs.Common.{rules, ◌≡◌, ◌∷◌, List, ℕ, length, map, string_bytes, refl, subst}
use Rattle.std.specs.Arc.{arc_value}
use Rattle.hm_messages_types.specs.Aliases.{alias_of}
use Rattle.hm_messages_copies.specs.Changes.{AreNested, function_of, part_of, with_declaration}
use Rattle.hm_messages_copies.specs.Data.{definition_of, definitions_of, place_of}
use Rattle.hm_messages_trials.specs.ShownTypes.{ExportsNames}
use Rattle.hm_messages_here.specs.TypesHere.{AreTextsOf, HasTypeHere, HasTypes}
use Rattle.hm_messages_here.proofs.here.type_inside.Goals as goal

pub returns : goal.returns
returns c =
    let target = c.args.target.now in
    let source = target.source.now in
    let inside = c.args.inside.now in
    let name = c.args.question.now.name.now in
    let imports = map arc_value c.args.question.now.imports.now in
    let first = definition_of inside.first in
    let others = definitions_of inside.others.now in
    let typed = c.in-Some-2.typed in
    let pair = c.in-Some-3.pair in
    let names = map alias_of typed.aliases.items in
    let whole = with_declaration source (place_of target) (function_of source first others inside.point) in
    let nested : AreNested source 0 (length source) (first ∷ others) inside.point = search rules in
    let changed : c.in-Some.changed.items ≡ whole = search rules in
    let exports : HasTypes c.in-Some.changed.items name imports typed.scheme = search rules in
    let exported : ExportsNames c.in-Some.changed.items name imports names = search rules in
    let texts : AreTextsOf typed.scheme (string_bytes pair.own) (string_bytes pair.here) = search rules in
    let there : ExportsNames whole name imports names = subst (λ (s : List ℕ). ExportsNames s name imports names) changed exported in
    record {
      place = place_of target;
      first = first;
      others = others;
      point = inside.point;
      named = search rules;
      tied = search rules;
      of_part = refl;
      nested = nested;
      scheme = typed.scheme;
      typed = subst (λ (s : List ℕ). HasTypes s name imports typed.scheme) changed exports;
      whole_own = string_bytes pair.own;
      whole_here = string_bytes pair.here;
      texts = texts;
      own_shown = record { names = names; exported = there; folded = search rules };
      here_shown = record { names = names; exported = there; folded = search rules };
    }
