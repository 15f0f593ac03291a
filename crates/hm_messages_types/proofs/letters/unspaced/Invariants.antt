use Rattle.std.proofs.Common.{◌≡◌, not, take}
use Rattle.std.specs.List.{filter}
use Rattle.hm_lex.specs.Bytes.{is_white}
use Rattle.hm_messages_types.proofs.letters.unspaced.Given as goal

abbrev pub invariant-bytes : goal.invariant-bytes
invariant-bytes l = l.kept.items ≡ filter (λ b. not (is_white b)) (take l.byte-index l.text)
