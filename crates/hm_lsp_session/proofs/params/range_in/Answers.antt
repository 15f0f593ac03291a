use Rattle.std.proofs.Common.{sym, subst}
use Rattle.hm_lsp_session.specs.Params.{IsPositionIn}
use Rattle.hm_lsp_session.proofs.Reading.{same_member}
use Rattle.hm_lsp_session.proofs.params.range_in.Goals as goal

pub returns-in_default-clause-none : goal.returns-in_default-clause-none
returns-in_default-clause-none c r h = c.in_default.ensures.none r.start (subst (λ d. IsPositionIn d r.start) (sym (same_member _ _ _ c.in_ok-get.ensures h.starts)) h.from)

pub returns-in_default-position_in-clause-none : goal.returns-in_default-position_in-clause-none
returns-in_default-position_in-clause-none c r h = c.in_default-position_in.ensures.none r.end (subst (λ d. IsPositionIn d r.end) (sym (same_member _ _ _ c.in_ok-get-2.ensures h.ends)) h.to)
