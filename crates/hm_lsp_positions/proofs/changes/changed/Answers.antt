use Rattle.std.proofs.Common.{◌≡◌, ◌++◌, List, ℕ, arith, drop, subst, sym}
use Rattle.hm_lsp_positions.specs.Starts.{AreStarts}
use Rattle.hm_lsp_positions.proofs.KnownStarts.{starts_anew}
use Rattle.hm_lsp_positions.proofs.changes.changed.Goals as goal

pub returns-in_ok-from_slice-in-None-clause-starts : goal.returns-in_ok-from_slice-in-None-clause-starts
returns-in_ok-from_slice-in-None-clause-starts c =
    let made = c.in_ok-from_slice-in-None.field-0.items in
    starts_anew c.args.text.now made c.keep_before.new.starts.items (c.keep_before.ensures c.args.text.now made c.requires (omega arith))

pub returns-in_ok-replaced-in-Some-clause-starts : goal.returns-in_ok-replaced-in-Some-clause-starts
returns-in_ok-replaced-in-Some-clause-starts c =
    let rest = c.as_slice-in-Some.result.now ++ drop c.in_ok-to-in-Some.to c.args.text.now in
    subst (λ (t : List ℕ). AreStarts t c.keep_before-in-Some.new.starts.items) (sym c.in_ok-replaced-in-Some.ensures.made)
    (c.keep_before-in-Some.ensures c.args.text.now rest c.in_ok-to-in-Some.ensures.starts c.in_ok-from-in-Some.ensures.within)
