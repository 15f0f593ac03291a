use Rattle.std.proofs.Common.{◌≡◌, drop}
use Rattle.hm_lsp_results.specs.Matches.{is_match}
use Rattle.hm_lsp_results.proofs.queries.is_match.Given as goal

abbrev pub invariant-letters : goal.invariant-letters
invariant-letters l = is_match (drop l.found l.query) (drop l.letter-index l.name) ≡ is_match l.fn.query l.fn.name
