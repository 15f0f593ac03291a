use Rattle.std.proofs.Common.{◌≡◌, ◌^◌, rules, arith, ◌+◌, ◌*◌, ◌-◌, get_or, true, sym, refl, ◌∙◌, ◌<◌}
use Rattle.std.specs.Char.{is_ascii_digit}
use Rattle.hm_lsp_frames.proofs.Numbers.{digit_more, digits_more, number_large, number_whole}
use Rattle.hm_lsp_frames.proofs.headers.number_of.Goals as goal

pub returns-in_default : goal.returns-in_default
returns-in_default c =
    let i = c.loop-byte.byte-index in
    let n = c.loop-byte.number in
    let test : is_ascii_digit (get_or c.args.value.now i 0) ≡ true = sym c.is_ascii_digit.ensures.value ∙ c.if-not-is_ascii_digit.false in
    let most = digit_more c.args.value.now i n (n * 10 + (get_or c.args.value.now i 0 - 48)) c.loop-byte-test.true test c.loop-byte.invariant.1 refl in
    let large : n * 10 < 2 ^ 64 → ⊥ = c.in_default.ensures in
    number_large c.args.value.now (i + 1) (omega (arith, most, large))

pub returns-in_default-checked_add : goal.returns-in_default-checked_add
returns-in_default-checked_add c =
    let i = c.loop-byte.byte-index in
    let n = c.loop-byte.number in
    let test : is_ascii_digit (get_or c.args.value.now i 0) ≡ true = sym c.is_ascii_digit.ensures.value ∙ c.if-not-is_ascii_digit.false in
    let most = digit_more c.args.value.now i n (n * 10 + (get_or c.args.value.now i 0 - 48)) c.loop-byte-test.true test c.loop-byte.invariant.1 refl in
    let large = c.in_default-checked_add.ensures in
    let tens = c.in-Some.ensures.1 in
    number_large c.args.value.now (i + 1) (omega (arith, most, large, tens))

pub loop-byte-preserved : goal.loop-byte-preserved
loop-byte-preserved c =
    let i = c.loop-byte.byte-index in
    let n = c.loop-byte.number in
    let test : is_ascii_digit (get_or c.args.value.now i 0) ≡ true = sym c.is_ascii_digit.ensures.value ∙ c.if-not-is_ascii_digit.false in
    let tens = c.in-Some.ensures.1 in
    let sum = c.in-Some-checked_add.ensures.1 in (
      digits_more c.args.value.now i c.loop-byte-test.true test c.loop-byte.invariant.0,
      digit_more c.args.value.now i n c.in-Some-checked_add.sum c.loop-byte-test.true test c.loop-byte.invariant.1 (omega (arith, tens, sum)),
      omega (arith, sum, c.in-Some-checked_add.ensures.0),
    )

pub returns : goal.returns
returns c = number_whole c.args.value.now c.loop-byte.byte-index c.loop-byte.number (search rules) (search rules) c.loop-byte.invariant.0 c.loop-byte.invariant.1 c.loop-byte.invariant.2
