use Rattle.std.proofs.Common.{◌≤◌, ℕ, List, length, subst, sym, ap, ◌∙◌}
use Rattle.std.proofs.lemmas.List.{take_rest}
use Rattle.hm_lex.specs.Quoting.{string_item_len}
use Rattle.hm_lex.proofs.StringScan.{string_on, string_found, string_only, string_none, string_end}
use Rattle.hm_lex.proofs.quotes.string_rest_len.Goals as goal

pub returns-then-bytes-at-eq34-clause-found : goal.returns-then-bytes-at-eq34-clause-found
returns-then-bytes-at-eq34-clause-found c = string_found c.args.bytes.now c.loop-at.at c.loop-at.invariant c.loop-at-test.true c.if-bytes-at-eq34.true

pub returns-then-bytes-at-eq34-clause-only : goal.returns-then-bytes-at-eq34-clause-only
returns-then-bytes-at-eq34-clause-only c = string_only c.args.bytes.now c.loop-at.at c.loop-at.invariant c.loop-at-test.true c.if-bytes-at-eq34.true

pub loop-at-preserved : goal.loop-at-preserved
loop-at-preserved c =
    let rest = take_rest c.args.bytes.now c.loop-at.at in
    string_on c.args.bytes.now c.loop-at.at c.in-Some.len c.loop-at.invariant c.loop-at-test.true c.if-bytes-at-eq34.false
    (ap string_item_len (sym rest) ∙ sym c.in-Some.ensures.value) (subst (λ (t : List ℕ). c.in-Some.len ≤ length t) rest c.in-Some.ensures.within)

pub returns-in-None-clause-none : goal.returns-in-None-clause-none
returns-in-None-clause-none c =
    let rest = take_rest c.args.bytes.now c.loop-at.at in
    string_none c.args.bytes.now c.loop-at.at c.loop-at.invariant c.loop-at-test.true c.if-bytes-at-eq34.false (ap string_item_len (sym rest) ∙ sym c.in-None.ensures.value)

pub returns-clause-none : goal.returns-clause-none
returns-clause-none c = string_end c.args.bytes.now c.loop-at.at c.loop-at.invariant c.loop-at-test.false
