use Rattle.std.proofs.Common.{◌≡◌, ◌∙◌, sym, ap, Some, option_map, subst}
use Rattle.hm_types.specs.declared.Entity.{Entity}
use Rattle.hm_names.specs.Bindings.{Pair, Adds}
use Rattle.hm_names.specs.Described.{first_of}
use Rattle.hm_scope_export_items.specs.ExportGroups.{group_of}
use Rattle.hm_scope_export_items.specs.declared.export_groups.Selector.{Selector}
use Rattle.hm_scope_export_items.proofs.ExportSelections.{is_constructor, isnt_constructor, not_constructor, no_owner, owner_added, grouped_more}
use Rattle.hm_scope_export_items.proofs.Selectors.{IsSameSelector}
use Rattle.hm_scope_export_items.proofs.export_groups.add_owned.Goals as goal

pub returns : goal.returns
returns c = λ ds table k.
    let q : Pair = c.args.pair.now in
    let t : Entity = c.in-Some.owner.now in
    let i : Selector = c.constructors.result in
    let j : Selector = c.constructor.result in
    owner_added ds q k (group_of c.args.groups.now k) (group_of c.add_to_group.new.groups k) (group_of c.add_to_group-2.new.groups k) i j t
    (sym c.space.ensures ∙ is_constructor c.space.result c.ne.result c.ne.ensures c.if-ne.false)
    (sym (c.in-Some.ensures ds table ∙ ap (λ (e : Entity). option_map (λ d. d.owner) (first_of (λ d. d.entity) e ds)) c.entity.ensures))
    c.constructors.ensures.module c.constructors.ensures.owner (ap (option_map (λ z. z.now)) c.constructors.ensures.part)
    c.constructor.ensures.module c.constructor.ensures.owner (ap (option_map (λ z. z.now)) c.constructor.ensures.part ∙ ap Some c.text.ensures)
    (subst (λ (b : Pair). Adds (group_of c.args.groups.now k) (group_of c.add_to_group.new.groups k) (λ p. IsSameSelector i k × (b ≡ p))) c.bare_copy.ensures (grouped_more c.args.groups.now c.add_to_group.new.groups i k c.bare_copy.result (c.in_ok-add_to_group.ensures k)))
    (subst (λ (b : Pair). Adds (group_of c.add_to_group.new.groups k) (group_of c.add_to_group-2.new.groups k) (λ p. IsSameSelector j k × (b ≡ p))) c.bare_copy-2.ensures (grouped_more c.add_to_group.new.groups c.add_to_group-2.new.groups j k c.bare_copy-2.result (c.in_ok-add_to_group-2.ensures k)))

pub returns-then-ne : goal.returns-then-ne
returns-then-ne c = λ ds table k. not_constructor ds c.args.pair.now k (group_of c.args.groups.now k) (λ e. isnt_constructor c.space.result c.ne.result c.ne.ensures c.if-ne.true (c.space.ensures ∙ e))

pub returns-in_default : goal.returns-in_default
returns-in_default c = λ ds table k. no_owner ds c.args.pair.now k (group_of c.args.groups.now k) (sym (c.in_default.ensures ds table ∙ ap (λ (e : Entity). option_map (λ d. d.owner) (first_of (λ d. d.entity) e ds)) c.entity.ensures))
