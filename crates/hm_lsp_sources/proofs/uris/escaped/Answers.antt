use Rattle.std.proofs.Common.{◌∙◌, arith, refl}
use Rattle.percent_encoding.specs.Percent.{percent_sign}
use Rattle.hm_lsp_sources.proofs.uris.escaped.Goals as goal

pub returns : goal.returns
returns c =
    c.remove-5.ensures.others percent_sign (omega arith) (λ e. omega (arith, e)) ∙ c.remove-4.ensures.others percent_sign (omega arith) (λ e. omega (arith, e)) ∙ c.remove-3.ensures.others percent_sign (omega arith) (λ e. omega (arith, e))
    ∙ c.remove-2.ensures.others percent_sign (omega arith) (λ e. omega (arith, e)) ∙ c.remove.ensures.others percent_sign (omega arith) (λ e. omega (arith, e)) ∙ refl
