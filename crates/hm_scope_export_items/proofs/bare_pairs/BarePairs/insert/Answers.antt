use Rattle.std.proofs.Common.{◌≡◌, subst}
use Rattle.hm_scope_export_items.specs.BarePairs.{pairs_at}
use Rattle.hm_names.specs.Bindings.{Pair, Adds}
use Rattle.hm_scope_export_items.proofs.BareSets.{after_insert}
use Rattle.hm_scope_export_items.proofs.bare_pairs.BarePairs.insert.Goals as goal

pub returns : goal.returns
returns c =
    rw (← c.self.view_is) (subst (λ (q : Pair). Adds (pairs_at c.self.inside.keys.keys) (pairs_at c.insert.new.self.keys) (λ p. q ≡ p)) c.bare_key.ensures (after_insert c.bare_key.result c.self.inside.keys.keys c.insert.new.self.keys c.in_ok-insert.ensures.keys))
