use Rattle.std.proofs.Common.{◌≡◌, ◌∙◌, List, ap, false, subst, sym, true, ℕ}
use Rattle.hm_lsp_positions.specs.Starts.{is_past}
use Rattle.hm_lsp_positions.proofs.KnownStarts.{starts_before, starts_popped}
use Rattle.hm_lsp_positions.proofs.known_starts.keep_before.Goals as goal

pub starts-preserved : goal.starts-preserved
starts-preserved c text known =
    let past : is_past c.starts.starts.items c.args.from ≡ true = ap (λ (l : List ℕ). is_past l c.args.from) (sym c.as_slice.ensures.value) ∙ (sym c.is_past.ensures ∙ c.starts-test.true) in
    starts_popped text c.starts.starts.items c.pop.new.self.items c.args.from c.pop.result (c.starts.invariant text known) past c.pop.ensures.items

pub returns : goal.returns
returns c text rest known within =
    let none : is_past c.starts.starts.items c.args.from ≡ false = ap (λ (l : List ℕ). is_past l c.args.from) (sym c.as_slice.ensures.value) ∙ (sym c.is_past.ensures ∙ c.starts-test.false) in
    starts_before text rest c.starts.starts.items c.args.from (c.starts.invariant text known) within none
