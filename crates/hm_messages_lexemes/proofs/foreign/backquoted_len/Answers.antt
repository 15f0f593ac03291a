use Rattle.std.proofs.Common.{rules, ◌≡◌, ◌∙◌, ◌+◌, ◌<◌, ℕ, List, ap, arith, drop, get_or, length}
use Rattle.std.proofs.lemmas.List.{take_rest}
use Rattle.std.specs.List.{prefix_len}
use Rattle.hm_messages_lexemes.specs.Lexemes.{is_dotted}
use Rattle.hm_messages_lexemes.proofs.Fronts.{backquoted_of}
use Rattle.hm_messages_lexemes.proofs.foreign.backquoted_len.Goals as goal

pub returns : goal.returns
returns c =
    let bytes = c.args.bytes.now in
    let len = c.dotted_len-len.result in
    let more : 0 < length bytes = search rules in
    let first : get_or bytes 0 0 ≡ 96 = search rules in
    let run : len ≡ prefix_len is_dotted (drop 1 bytes) = c.dotted_len-len.ensures.run ∙ ap (λ (l : List ℕ). prefix_len is_dotted l) (take_rest bytes 1) in
    let within : len + 1 < length bytes = search rules in
    let last : get_or bytes (len + 1) 0 ≡ 96 = search rules in
    (omega (arith, within), backquoted_of bytes len more first run c.if-len-eq0.false within last)
