-- The worked examples of types.
use Rattle.std.proofs.Common.{◌≡◌, sym, ap, ◌∙◌}
use Rattle.hm_syntax.specs.Trees.{list_type, tuple_type, unit_type}
use Rattle.hm_names.specs.Expansion.{as_entity, expanded}
use Rattle.hm_uses.specs.Uses.{one}
use Rattle.hm_uses_cores.specs.CoreTypes.{IsTypeThere, Synonyms, a_constructor, a_list, the_unit}
use Rattle.hm_uses_cores.specs.CoreTypes as types
use Rattle.hm_uses_cores.specs.Worked
use Rattle.hm_uses_cores.specs.Worked.{IsP, of_two}

pub expanded_row : Worked.ExpandedRow
expanded_row m fs s n (e, (w, h)) = a_constructor {e = e} (one w) (types.more the_unit (types.more (a_list the_unit) types.none)) (sym (ap (λ o. expanded o (as_entity n e) (of_two unit_type (list_type unit_type))) h))

pub other_order_row : Worked.OtherOrderRow
other_order_row m fs s n (e, (w, h)) (a_constructor {e = d} (one v) (types.more the_unit (types.more (a_list the_unit) types.none)) q) =
    let same : d ≡ e = w.alone d v.in_scope in
    let is : tuple_type (of_two unit_type (list_type unit_type)) ≡ tuple_type (of_two (list_type unit_type) unit_type) = q ∙ (ap (λ z. expanded (s z) (as_entity n z) (of_two unit_type (list_type unit_type))) same ∙ ap (λ o. expanded o (as_entity n e) (of_two unit_type (list_type unit_type))) h) in
    cc
