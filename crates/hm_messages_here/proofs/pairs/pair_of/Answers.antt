use Rattle.std.proofs.Common.{rules, ◌≡◌, ◌++◌, string_bytes, ap}
use Rattle.std.specs.Prelude.{codes}
use Rattle.hm_types.specs.Monotypes.{Mono}
use Rattle.hm_types.specs.Shape.{type_of}
use Rattle.hm_types_display.specs.Texts.{scheme_text_of}
use Rattle.hm_messages_trials.specs.PartTypes.{from_pair, text_in}
use Rattle.hm_messages_trials.proofs.TextParts.{second_text}
use Rattle.hm_messages_here.proofs.pairs.pair_of.Goals as goal

pub returns-in-Some-3 : goal.returns-in-Some-3
returns-in-Some-3 c =
    let scheme = c.args.scheme.now in
    let own : Mono = type_of c.in-Some.taken.own.now in
    let here : Mono = type_of c.in-Some.taken.here.now in
    let pair : scheme.body ≡ from_pair own here = search rules in
    let own_is : string_bytes c.in-Some-2.own ≡ text_in scheme own = search rules in
    let whole : string_bytes c.in_ok-whole.whole ≡ scheme_text_of scheme = search rules in
    let front : string_bytes c.in_ok-front.front ≡ codes "(" ++ text_in scheme own ++ codes ", " = search rules in
    let parts : string_bytes c.in_ok-whole.whole ≡ string_bytes c.in_ok-front.front ++ (string_bytes c.in-Some-3.here ++ codes ") -> ()") = search rules in
    record {
      own_type = own;
      here_type = here;
      pair = pair;
      own_is = own_is;
      here_is = second_text (text_in scheme own) (text_in scheme here) (string_bytes c.in-Some-3.here) (scheme_text_of scheme) (string_bytes c.in_ok-front.front)
          (ap (λ (t : Mono). text_in scheme t) pair) (rw whole at parts) front;
    }
