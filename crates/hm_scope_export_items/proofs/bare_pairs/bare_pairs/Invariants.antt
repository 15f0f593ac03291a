use Rattle.std.proofs.Common.{◌≡◌, take, None, []}
use Rattle.hm_names.specs.Bindings.{Pair, Adds}
use Rattle.hm_names.proofs.AddedPairs.{ForEach}
use Rattle.hm_scope_export_items.proofs.bare_pairs.bare_pairs.Given as goal

abbrev pub invariant-loop-pair : goal.invariant-loop-pair
invariant-loop-pair l = Adds [] l.bare (ForEach (λ (q p : Pair). (q.qualifier ≡ None) × (q ≡ p)) (take l.pair-index l.pairs))
