use Rattle.std.proofs.Common.{ℕ, List, Option, Some, None, sym, ap, ◌∙◌}
use Rattle.std.proofs.lemmas.List.{take_rest}
use Rattle.std.proofs.lemmas.Bool.{false≢true}
use Rattle.std.specs.Prelude.{IfNone}
use Rattle.hm_lex.specs.Quoting.{escape_len}
use Rattle.hm_lex.proofs.OneCharacter.{found_escape, only_escape, never_escape, only_plain, never_plain, Never}
use Rattle.hm_lex.proofs.quotes.character_item_len.Goals as goal

pub returns-then-bytes-eq92-clause-found : goal.returns-then-bytes-eq92-clause-found
returns-then-bytes-eq92-clause-found c = found_escape c.args.bytes.now c.in_ok-escape_len.field-0 c.if-bytes-eq92.true (ap escape_len (sym (take_rest c.args.bytes.now 1)) ∙ sym c.in_ok-escape_len.ensures.value)

pub returns-then-bytes-eq92-clause-only : goal.returns-then-bytes-eq92-clause-only
returns-then-bytes-eq92-clause-only c = only_escape c.args.bytes.now c.in_ok-escape_len.field-0 c.if-bytes-eq92.true (ap escape_len (sym (take_rest c.args.bytes.now 1)) ∙ sym c.in_ok-escape_len.ensures.value)

pub returns-then-is_plain_character-clause-only : goal.returns-then-is_plain_character-clause-only
returns-then-is_plain_character-clause-only c = only_plain c.args.bytes.now c.unquoted_len-len.result c.if-bytes-eq92.false c.unquoted_len-len.ensures.run

pub returns-else-is_plain_character-clause-none : goal.returns-else-is_plain_character-clause-none
returns-else-is_plain_character-clause-none c = never_plain c.args.bytes.now c.unquoted_len-len.result c.if-bytes-eq92.false c.unquoted_len-len.ensures.run (λ q. false≢true (sym c.if-is_plain_character.false ∙ c.is_plain_character.ensures.1 q))

if_none : (o : Option ℕ) (bytes : List ℕ) → Never bytes → IfNone o (Never bytes)
if_none None bytes n = n
if_none (Some k) bytes n = tt

pub returns-in_err-escape_len-clause-none : goal.returns-in_err-escape_len-clause-none
returns-in_err-escape_len-clause-none c = if_none c.from_residual.result c.args.bytes.now
    (never_escape c.args.bytes.now c.if-bytes-eq92.true (ap escape_len (sym (take_rest c.args.bytes.now 1)) ∙ sym c.in_err-escape_len.ensures.value))
