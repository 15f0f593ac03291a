use Rattle.std.proofs.Common.{ℕ, ap, sym, take}
use Rattle.hm_lsp_frames.proofs.Ends.{end_found}
use Rattle.hm_lsp_frames.proofs.looking.end_of.Goals as goal

pub returns-clause-value : goal.returns-clause-value
returns-clause-value c = sym (end_found c.args.held.now _ c.find.result (ap (λ (n : ℕ). take n c.args.held.now) c.min.ensures) c.find.ensures)
