use Rattle.std.proofs.Common.{rules, ◌≡◌, ◌∙◌, ◌++◌, List, ℕ, string_bytes, ap}
use Rattle.std.specs.Prelude.{codes}
use Rattle.hm_types.specs.Monotypes.{Mono}
use Rattle.hm_types.specs.Shape.{type_of}
use Rattle.hm_types_display.specs.Texts.{scheme_text_of}
use Rattle.hm_messages_trials.specs.PartTypes.{from_three, text_in}
use Rattle.hm_messages_trials.proofs.TextParts.{third_text}
use Rattle.hm_messages_trials.proofs.part_typing.texts_of.Goals as goal

pub returns-in-Some-3 : goal.returns-in-Some-3
returns-in-Some-3 c =
    let scheme = c.args.scheme.now in
    let own : Mono = type_of c.in-Some.taken.own.now in
    let expected : Mono = type_of c.in-Some.taken.expected.now in
    let actual : Mono = type_of c.in-Some.taken.actual.now in
    let first = c.as_str.result.now in
    let second = c.as_str-2.result.now in
    let three : scheme.body ≡ from_three own expected actual = search rules in
    let own_is : first ≡ text_in scheme own = search rules in
    let expected_is : second ≡ text_in scheme expected = search rules in
    let front : codes "(" ++ first ++ codes ", " ++ second ++ codes ", " ≡ codes "(" ++ text_in scheme own ++ codes ", " ++ text_in scheme expected ++ codes ", "
    = ap (λ (x : List ℕ). codes "(" ++ x ++ codes ", " ++ second ++ codes ", ") own_is
    ∙ ap (λ (x : List ℕ). codes "(" ++ text_in scheme own ++ codes ", " ++ x ++ codes ", ") expected_is in
    let parts : scheme_text_of scheme ≡ (codes "(" ++ first ++ codes ", " ++ second ++ codes ", ") ++ (string_bytes c.in-Some-3.actual ++ codes ") -> ()") = search rules in
    record {
      own_type = own;
      expected_type = expected;
      actual_type = actual;
      three = three;
      apart = search rules;
      clash = search rules;
      own_is = search rules;
      expected_is = search rules;
      actual_is = third_text (text_in scheme own) (text_in scheme expected) (text_in scheme actual) (string_bytes c.in-Some-3.actual) (scheme_text_of scheme)
          (codes "(" ++ first ++ codes ", " ++ second ++ codes ", ") (ap (λ (t : Mono). text_in scheme t) three) parts front;
      contained = c.need_infinite-infinite.ensures;
    }
