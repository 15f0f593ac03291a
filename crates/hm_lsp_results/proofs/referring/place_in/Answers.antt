use Rattle.hm_lsp_results.specs.References.{far}
use Rattle.hm_lsp_results.proofs.referring.place_in.Goals as goal

pub returns-then-place-gt4294967295-clause-none : goal.returns-then-place-gt4294967295-clause-none
returns-then-place-gt4294967295-clause-none c = far c.in_ok-text.ensures.some c.place_at-place.ensures c.if-place-gt4294967295.true
