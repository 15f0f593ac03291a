use Rattle.std.proofs.Common.{subst}
use Rattle.hm_names.specs.Bindings.{Adds, Pair}
use Rattle.hm_names.proofs.AddedPairs.{ForEach}
use Rattle.hm_uses_declarations.specs.Candidates.{IsCandidate}
use Rattle.hm_uses_declarations.proofs.Selected.{exactly}
use Rattle.hm_uses_declarations.proofs.candidates.candidates_of.Goals as goal

pub returns : goal.returns
returns c = λ m fs scope e.
    exactly m fs c.args.scope.now c.args.space c.args.name.now c.new-found.result.items c.add_candidates.new.found.items c.new-found.ensures.items
    (subst (λ ps. Adds c.new-found.result.items c.add_candidates.new.found.items (ForEach (IsCandidate c.args.space c.args.name.now) ps)) c.pairs.ensures c.in_ok-add_candidates.ensures) scope e
