use Rattle.std.proofs.Common.{rules, ◌≡◌, ◌++◌, string_bytes}
use Rattle.std.specs.Prelude.{codes}
use Rattle.hm_types.specs.Monotypes.{Mono}
use Rattle.hm_types.specs.Shape.{type_of}
use Rattle.hm_messages_trials.specs.PartTypes.{from_pair}
use Rattle.hm_messages_trials.specs.PartTypes.{text_in}
use Rattle.hm_messages_trials.proofs.TextParts.{second_text}
use Rattle.hm_messages_trials.proofs.part_typing.front_of.Goals as goal

pub returns-in-Some-3 : goal.returns-in-Some-3
returns-in-Some-3 c =
    let scheme = c.args.scheme.now in
    let own : Mono = type_of c.args.taken.now.own.now in
    let expected : Mono = type_of c.args.taken.now.expected.now in
    let own_is : string_bytes c.in-Some.own ≡ text_in scheme own = search rules in
    let whole : string_bytes c.in-Some-2.whole ≡ text_in scheme (from_pair own expected) = search rules in
    let front : string_bytes c.in_ok-front.front ≡ codes "(" ++ text_in scheme own ++ codes ", " = search rules in
    let parts : string_bytes c.in-Some-2.whole ≡ string_bytes c.in_ok-front.front ++ (string_bytes c.in-Some-3.expected ++ codes ") -> ()") = search rules in
    record {
      own = search rules;
      expected = second_text (text_in scheme own) (text_in scheme expected) (string_bytes c.in-Some-3.expected) (string_bytes c.in-Some-2.whole) (string_bytes c.in_ok-front.front) whole parts front;
    }
