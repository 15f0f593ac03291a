use Rattle.std.proofs.Common.{◌≡◌, ◌+◌, ◌≤◌, ℕ, List, length, take, drop, subst, arith, length-drop}
use Rattle.std.proofs.lemmas.List.{take_rest}
use Rattle.hm_lex.specs.Quoting.{IsByteRest}
use Rattle.hm_lex.specs.Cut.{Begins}
use Rattle.hm_lex.proofs.StringScan.{string_longest, no_string, never_string, no_open_at_quote, quote_positive}
use Rattle.hm_lex.proofs.quotes.string.Goals as goal

abbrev Only : ℕ → List ℕ → Type 0
Only n bytes = (t : List ℕ) → IsByteRest t → Begins t bytes → length t ≡ n

pub returns-in-Ok : goal.returns-in-Ok
returns-in-Ok c =
    let bytes = c.args.bytes.now in
    let rest = take_rest bytes 1 in
    let n = c.in-Some.len in
    let within : n ≤ length (drop 1 bytes) = subst (λ (t : List ℕ). n ≤ length t) rest c.in-Some.ensures.within in
    let le : n + 1 ≤ length bytes = omega (arith, within, length-drop 1 bytes, quote_positive bytes c.requires) in
    (le, string_longest bytes c.requires n le (subst (λ (t : List ℕ). IsByteRest (take n t)) rest c.in-Some.ensures.found) (subst (λ (t : List ℕ). Only n t) rest c.in-Some.ensures.only) c.in-Ok.ensures.cases.1)

pub returns-in-Err : goal.returns-in-Err
returns-in-Err c =
    let rest = take_rest c.args.bytes.now 1 in
    (no_string c.args.bytes.now c.requires c.in-Some.len (subst (λ (t : List ℕ). Only c.in-Some.len t) rest c.in-Some.ensures.only) c.in-Err.ensures.cases.0, no_open_at_quote c.args.bytes.now c.requires)

pub returns-in-None : goal.returns-in-None
returns-in-None c =
    let rest = take_rest c.args.bytes.now 1 in
    (never_string c.args.bytes.now c.requires (subst (λ (t : List ℕ). (u : List ℕ) → IsByteRest u → Begins u t → ⊥) rest c.in-None.ensures.none), no_open_at_quote c.args.bytes.now c.requires)
