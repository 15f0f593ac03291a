use Rattle.std.proofs.Common.{drop}
use Rattle.hm_lsp_results.specs.Matches.{is_match}
use Rattle.hm_lsp_results.proofs.Matching.{all_found, not_found}
use Rattle.hm_lsp_results.proofs.queries.is_match.Goals as goal

pub returns-then-found-query-2 : goal.returns-then-found-query-2
returns-then-found-query-2 c =
    not_found c.as_bytes-query.result.now c.as_bytes-name.result.now c.letters.found c.letters.letter-index (is_match c.args.query.now c.args.name.now) c.if-found-query-2.true c.letters-test.false c.letters.invariant

pub returns : goal.returns
returns c =
    all_found c.as_bytes-query.result.now (drop c.letters.letter-index c.as_bytes-name.result.now) c.letters.found (is_match c.args.query.now c.args.name.now) c.if-found-query-2.false c.letters.invariant
