use Rattle.std.proofs.Common.{◌∙◌, List, ℕ, ap, map, subst}
use Rattle.hm_lsp_results.specs.Actions.{AreOffered, actions_data, offered}
use Rattle.hm_lsp_results.specs.Asked.{subject_of}
use Rattle.hm_lsp_results.proofs.Found.{at_get}
use Rattle.hm_lsp_results.proofs.Listed.{has_uri}
use Rattle.hm_service_candidates.specs.Ranges.{Tried, tried_of}
use Rattle.hm_service_candidates.specs.declared.ranges.Candidate.{Candidate}
use Rattle.hm_lsp_results.proofs.fixing.actions.Goals as goal

pub returns : goal.returns
returns g c =
    let asked = subject_of c.args.asked.now in
    let n = c.args.source in
    let held = c.in-Some.held.now in
    let uri = c.as_str.result.now in
    let found : List Tried = map tried_of c.in_ok-fixes.fixes.items in
    offered {uri = uri} {source = held} {found = found} (has_uri asked.sources n c.in-Some-get.named.now uri c.in-Some-get.ensures.lookup.3.0 c.in-Some-get.ensures.lookup.1 c.as_str.ensures.value)
    (at_get asked.held n held c.in-Some.ensures.lookup.3.0 c.in-Some.ensures.lookup.1) (subst (λ (l : List ℕ). AreOffered asked n l c.args.range found) c.as_slice.ensures.value c.in_ok-fixes.ensures)
    (c.in_ok-action_values.ensures ∙ ap (λ (l : List Candidate). actions_data asked.encoding uri (map tried_of l)) c.as_slice-2.ensures.value)
