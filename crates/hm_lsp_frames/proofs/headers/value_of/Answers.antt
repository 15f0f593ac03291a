use Rattle.std.proofs.Common.{ℕ, ap, drop, ◌∙◌}
use Rattle.std.proofs.lemmas.List.{take_rest}
use Rattle.hm_lsp_frames.proofs.Fields.{value_found}
use Rattle.hm_lsp_frames.proofs.headers.value_of.Goals as goal

pub returns : goal.returns
returns c =
    value_found c.args.bytes.now _ _ _ (take_rest c.args.bytes.now c.min.result ∙ ap (λ (n : ℕ). drop n c.args.bytes.now) c.min.ensures) c.first_line.ensures c.trim_ascii.ensures.value
