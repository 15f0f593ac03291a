-- No part of a place's object is a float.
use Rattle.std.proofs.Common.{◌≡◌, ◌||◌, ℕ, Bool, false, List, [], ◌∷◌, Option, None, Some, map, refl, subst, sym}
use Rattle.serde_json.specs.View.{items_of}
use Rattle.serde_json.specs.Written.{has_float, items_have_float}
use Rattle.hm_messages_json.specs.Objects.{optional_data, optional_range, text_data}
use Rattle.hm_messages_json.specs.declared.message.Position.{Position}
use Rattle.hm_messages_json.specs.declared.message.Range.{Range}
use Rattle.hm_build_place_texts.specs.Facts.{Binding, Facts, Item, NameFacts, Owner, in_skipped, a_name}
use Rattle.hm_build_place_texts.specs.Objects.{binding_data, file_in, item_data, module_in, name_data, owner_data, owner_in, place_data, position_in, scheme_in, type_in, untyped_in}

neither : {a b : Bool} → a ≡ false → b ≡ false → (a || b) ≡ false
neither {a = a} {b = b} p q = subst (λ x. (x || b) ≡ false) (sym p) q

in_text : (text : Option (List ℕ)) → has_float (text_data text) ≡ false
in_text None = refl
in_text (Some text) = refl

in_position : (position : Option Position) → has_float (optional_data position) ≡ false
in_position None = refl
in_position (Some position) = refl

in_range : (range : Option Range) → has_float (optional_range range) ≡ false
in_range None = refl
in_range (Some range) = refl

in_owner : (owner : Option Owner) → has_float (owner_data owner) ≡ false
in_owner None = refl
in_owner (Some owner) = refl

in_binding : (b : Binding) → has_float (binding_data b) ≡ false
in_binding b = neither (in_text (file_in b)) (neither (in_text (module_in b)) (neither (in_position (position_in b)) refl))

in_name : (n : NameFacts) → has_float (name_data n) ≡ false
in_name n =
    neither (in_binding n.binding)
    (neither (in_owner (owner_in n.here))
    (neither (in_text (type_in n.here))
    (neither (in_range n.range)
    (neither (in_text (scheme_in n.declared))
    (neither (in_text (untyped_in n.declared n.here)) refl)))))

in_item : (i : Item) → has_float (item_data i) ≡ false
in_item (a_name n) = in_name n
in_item (in_skipped name) = refl

in_items : (is : List Item) → items_have_float (items_of (map item_data is)) ≡ false
in_items [] = refl
in_items (i ∷ is) = neither (in_item i) (in_items is)

pub no_floats : (f : Facts) → has_float (place_data f) ≡ false
no_floats f = neither (in_items f.items) refl
