use Rattle.hm_lsp_results.specs.Asked.{subject_of}
use Rattle.hm_lsp_results.specs.References.{nowhere}
use Rattle.hm_lsp_results.proofs.Referred.{nothing_found}
use Rattle.hm_lsp_results.proofs.referring.references_at.Goals as goal

pub returns-in_default-clause-none : goal.returns-in_default-clause-none
returns-in_default-clause-none g c = nowhere c.in_default.ensures.none

pub returns-in-Ok-clause-none : goal.returns-in-Ok-clause-none
returns-in-Ok-clause-none g c = nothing_found (subject_of c.args.asked.now) c.args.source c.args.position c.in-Some.place c.in-Ok.found c.in-Some.ensures.some c.in-Ok.ensures.none
