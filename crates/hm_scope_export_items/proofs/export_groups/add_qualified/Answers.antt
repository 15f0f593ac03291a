use Rattle.std.proofs.Common.{◌≡◌, ◌∙◌, sym, inl, inr, None, Some, true, false, subst}
use Rattle.hm_names.specs.Bindings.{Pair, Adds}
use Rattle.hm_scope_export_items.specs.ExportGroups.{group_of}
use Rattle.hm_scope_export_items.specs.declared.export_groups.Selector.{Selector}
use Rattle.hm_scope_export_items.proofs.ExportSelections.{no_whole, whole_added, grouped_more}
use Rattle.hm_scope_export_items.proofs.Selectors.{IsSameSelector}
use Rattle.hm_scope_export_items.proofs.export_groups.add_qualified.Goals as goal

pub returns : goal.returns
returns c = λ k.
    let q : Pair = c.args.pair.now in
    let j : Selector = c.whole.result in
    whole_added c.args.bare.now q k (group_of c.args.groups.now k) (group_of c.add_to_group.new.groups k) j c.in-Some.qualifier c.whole.ensures c.in-Some.ensures
    (c.contains.ensures.0 c.if-not-contains.false)
    (subst (λ (b : Pair). Adds (group_of c.args.groups.now k) (group_of c.add_to_group.new.groups k) (λ p. IsSameSelector j k × (b ≡ p))) c.bare_copy.ensures (grouped_more c.args.groups.now c.add_to_group.new.groups j k c.bare_copy.result (c.in_ok-add_to_group.ensures k)))

pub returns-then-not-contains : goal.returns-then-not-contains
returns-then-not-contains c = λ k. no_whole c.args.bare.now c.args.pair.now k (group_of c.args.groups.now k) (inr (λ h. let f : false ≡ true = sym c.if-not-contains.true ∙ c.contains.ensures.1 h in cc))

pub returns-in_default : goal.returns-in_default
returns-in_default c = λ k. no_whole c.args.bare.now c.args.pair.now k (group_of c.args.groups.now k) (inl (λ e. let f : Some k.«module».now ≡ None = e ∙ sym c.in_default.ensures in cc))
