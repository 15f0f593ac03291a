-- No part of a message's object is a float.
use Rattle.std.proofs.Common.{◌≡◌, ◌||◌, ℕ, Bool, false, List, [], ◌∷◌, Option, None, Some, map, option_map, refl, subst, sym}
use Rattle.serde_json.specs.View.{items_of}
use Rattle.serde_json.specs.Written.{has_float, items_have_float}
use Rattle.hm_messages_json.specs.Objects.{edit_data, message_data, optional_data, optional_range, text_data}
use Rattle.hm_messages_json.specs.declared.message.Edit.{Edit}
use Rattle.hm_messages_json.specs.declared.message.Message.{Message}
use Rattle.hm_messages_json.specs.declared.message.Position.{Position}
use Rattle.hm_messages_json.specs.declared.message.Range.{Range}

neither : {a b : Bool} → a ≡ false → b ≡ false → (a || b) ≡ false
neither {a = a} {b = b} p q = subst (λ x. (x || b) ≡ false) (sym p) q

in_text : (text : Option (List ℕ)) → has_float (text_data text) ≡ false
in_text None = refl
in_text (Some text) = refl

in_position : (position : Option Position) → has_float (optional_data position) ≡ false
in_position None = refl
in_position (Some position) = refl

in_range : (range : Option Range) → has_float (optional_range range) ≡ false
in_range None = refl
in_range (Some range) = refl

in_edits : (edits : List Edit) → items_have_float (items_of (map edit_data edits)) ≡ false
in_edits [] = refl
in_edits (e ∷ es) = in_edits es

pub no_floats : (m : Message) → has_float (message_data m) ≡ false
no_floats m =
    neither (in_edits m.edits.now)
    (neither (in_text (option_map (λ t. t.now) m.expected))
    (neither (in_text (option_map (λ t. t.now) m.hint))
    (neither (in_text (option_map (λ t. t.now) m.«module»))
    (neither (in_text (option_map (λ t. t.now) m.name))
    (neither (in_position m.other)
    (neither (in_range m.part)
    (neither (in_range m.second)
    (neither (in_text (option_map (λ t. t.now) m.actual)) refl))))))))
