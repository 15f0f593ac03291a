use Rattle.hm_lsp_results.proofs.Located.{located_at}
use Rattle.hm_lsp_results.proofs.asking.bound_value.Goals as goal

pub returns : goal.returns
returns c =
    located_at c.args.asked.now.encoding c.args.asked.now.sources.now c.args.asked.now.held.now c.args.bound.now c.in-Some-get.named.now c.in-Some.held.now c.as_str-uri.result.now c.as_slice-text.result.now c.location_value.result
    c.in-Some.ensures.lookup.3.0 c.in-Some.ensures.lookup.1 c.in-Some-get.ensures.lookup.3.0 c.in-Some-get.ensures.lookup.1 c.as_str-uri.ensures.value c.as_slice-text.ensures.value c.location_value.ensures
