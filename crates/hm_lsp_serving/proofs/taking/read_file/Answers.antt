use Rattle.hm_lsp_serving.specs.Taking.{taken}
use Rattle.hm_lsp_serving.proofs.taking.read_file.Goals as goal

pub returns-clause-read : goal.returns-clause-read
returns-clause-read g c =
    let e = c.in_ok-read_file.ensures in
    taken e.read e.session e.good e.noted
