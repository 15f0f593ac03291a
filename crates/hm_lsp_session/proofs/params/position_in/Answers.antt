use Rattle.hm_lsp_session.proofs.params.position_in.Goals as goal

pub returns-in_default-clause-none : goal.returns-in_default-clause-none
returns-in_default-clause-none c p h = c.in_default.ensures.none p.line h.line

pub returns-in_default-number_in-clause-none : goal.returns-in_default-number_in-clause-none
returns-in_default-number_in-clause-none c p h = c.in_default-number_in.ensures.none p.column h.column
