use Rattle.std.proofs.Common.{◌≢◌, ◌+◌, ◌<◌, ℕ, List, length, get_or, drop, subst, arith}
use Rattle.std.proofs.lemmas.List.{take_rest}
use Rattle.hm_lex.proofs.OneCharacter.{Found, Only, Never, character_longest, never_character, unclosed_character, no_open_at_character}
use Rattle.hm_lex.proofs.quotes.character.Goals.{else-len-bytes-via-then-len-bytes+else-bytes-len-eq39, else-len-bytes-via-else-len-bytes}
use Rattle.hm_lex.proofs.quotes.character.Goals as goal

pub returns-in_default : goal.returns-in_default
returns-in_default c =
    let rest = take_rest c.args.bytes.now 1 in
    (never_character c.args.bytes.now c.requires (subst (λ (t : List ℕ). Never t) rest c.in_default.ensures.none), no_open_at_character c.args.bytes.now c.requires)

pub returns-then-bytes-len-eq39 : goal.returns-then-bytes-len-eq39
returns-then-bytes-len-eq39 c =
    let bytes = c.args.bytes.now in
    let rest = take_rest bytes 1 in
    let n = c.in-Some.len in (
      omega (arith, c.if-len-bytes.true),
      character_longest bytes c.requires n c.if-len-bytes.true c.if-bytes-len-eq39.true
          (subst (λ (t : List ℕ). Found n t) rest c.in-Some.ensures.found) (subst (λ (t : List ℕ). Only n t) rest c.in-Some.ensures.only),
    )

pub returns-else-len-bytes : goal.returns-else-len-bytes
returns-else-len-bytes c =
    let bytes = c.args.bytes.now in
    let n = c.in-Some.len in
    let only : Only n (drop 1 bytes) = subst (λ (t : List ℕ). Only n t) (take_rest bytes 1) c.in-Some.ensures.only in
    let apart : n + 1 < length bytes → get_or bytes (n + 1) 0 ≢ 39 = elim c.else-len-bytes.branch [
      | else-len-bytes-via-then-len-bytes+else-bytes-len-eq39 w ↦ λ lt. w.if-bytes-len-eq39.false
      | else-len-bytes-via-else-len-bytes w ↦ λ lt e. omega (arith, lt, w.if-len-bytes.false)
    ] in
    (unclosed_character bytes c.requires n only apart, no_open_at_character bytes c.requires)
