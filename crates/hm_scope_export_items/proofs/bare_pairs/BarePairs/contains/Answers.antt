use Rattle.std.proofs.Common.{sym, ◌∙◌, subst, Contains}
use Rattle.hm_scope_export_items.specs.declared.bare_pairs.BareKey.{BareKey}
use Rattle.hm_scope_export_items.specs.BarePairs.{pairs_at}
use Rattle.hm_names.specs.Bindings.{Pair}
use Rattle.hm_scope_export_items.proofs.BareSets.{has_pair}
use Rattle.hm_scope_export_items.proofs.bare_pairs.BarePairs.contains.Goals as goal

pub returns : goal.returns
returns c =
    let k : BareKey = c.bare_key.result in
    let has = has_pair k c.self.inside.keys.keys in
    rw (← c.self.view_is) (
      λ t. subst (λ (p : Pair). Contains (pairs_at c.self.inside.keys.keys) p) c.bare_key.ensures (has.0 (sym c.contains.ensures ∙ t)),
      λ h. c.contains.ensures ∙ has.1 (subst (λ (p : Pair). Contains (pairs_at c.self.inside.keys.keys) p) (sym c.bare_key.ensures) h),
    )
