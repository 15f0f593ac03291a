use Rattle.std.proofs.Common.{◌-◌, length, take, drop, sym, ◌∙◌}
use Rattle.std.proofs.lemmas.Bool.{eqb-true}
use Rattle.hm_lex.specs.Bytes.{is_digit, is_octal_digit, is_hexadecimal_digit}
use Rattle.hm_lex.proofs.Digits.{run_numeral, octal_spells, hexadecimal_spells, decimal_spells}
use Rattle.hm_lex.proofs.Escapes.{escape_nil}
use Rattle.hm_lex.proofs.quotes.escape_len.Goals as goal

pub returns-then-is_empty-clause-value : goal.returns-then-is_empty-clause-value
returns-then-is_empty-clause-value c = sym (escape_nil c.args.bytes.now (eqb-true (length c.args.bytes.now) 0 (sym c.is_empty.ensures ∙ c.if-is_empty.true)))

pub numeric_len-requires-clause-numeral : goal.numeric_len-requires-clause-numeral
numeric_len-requires-clause-numeral c = λ some.
    run_numeral 8 is_octal_digit octal_spells (take (length c.args.bytes.now - 1) (drop 1 c.args.bytes.now)) c.octal_len.result c.octal_len.ensures.run some

pub numeric_len-requires-in-120-clause-numeral : goal.numeric_len-requires-in-120-clause-numeral
numeric_len-requires-in-120-clause-numeral c = λ some.
    run_numeral 16 is_hexadecimal_digit hexadecimal_spells (take (length c.args.bytes.now - 1) (drop 1 c.args.bytes.now)) c.hexadecimal_len.result c.hexadecimal_len.ensures.run some

pub numeric_len-requires-in_default-2-clause-numeral : goal.numeric_len-requires-in_default-2-clause-numeral
numeric_len-requires-in_default-2-clause-numeral c = λ some.
    run_numeral 10 is_digit decimal_spells c.args.bytes.now c.digits_len.result c.digits_len.ensures.run some
