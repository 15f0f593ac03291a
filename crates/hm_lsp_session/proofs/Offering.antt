-- The units that a client offers.
use Rattle.std.proofs.Common.{◌≡◌, ◌∙◌, ◌+◌, ◌<◌, ◌≤◌, ◌⊎◌, ◌++◌, ◌∷◌, [], ℕ, zero, suc, List, Option, Some, ap, arith, codes, get_or, inl, inr, length, refl, rules, subst, sym, take}
use Rattle.std.proofs.lemmas.List.{take_all, take_more}
use Rattle.serde_json.proofs.OnLiterals.{serde_json_on_literals}
use Rattle.serde_json.specs.Data.{Data, null}
use Rattle.serde_json.specs.Find.{as_str, get}
use Rattle.serde_json.specs.View.{items_view, view}
use Rattle.serde_json.specs.declared.value.Value.{Null, Value, the_lemmas}
use Rattle.hm_lsp_positions.specs.declared.units.Encoding.{Encoding}
use Rattle.hm_lsp_session.specs.Units.{HasText, ListsUnits, capabilities_data, unit_name}

-- a text is among values if it is one of them
pub has_at : (text : List ℕ) (vs : List Value) (i : ℕ) (v : Value) → i < length vs → v ≡ get_or vs i v → as_str (view v) ≡ Some text → HasText text (items_view vs)
has_at text [] i v low at is = let never : ⊥ = omega (arith, low) in absurd never
has_at text (w ∷ vs) zero v low at is = inl (subst (λ x. as_str (view x) ≡ Some text) at is)
has_at text (w ∷ vs) (suc i) v low at is = inr (has_at text vs i v (omega (arith, low)) at is)

one_of : (text : List ℕ) (vs : List Value) (v : Value) → HasText text (items_view (vs ++ v ∷ [])) → HasText text (items_view vs) ⊎ (as_str (view v) ≡ Some text)
one_of text [] v (inl is) = inr is
one_of text [] v (inr none) = absurd none
one_of text (w ∷ vs) v (inl is) = inl (inl is)
one_of text (w ∷ vs) v (inr later) = elim (one_of text vs v later) [
  | inl among ↦ inl (inr among)
  | inr is ↦ inr is
]

-- the step of a loop
pub none_more : (text : List ℕ) (vs : List Value) (i : ℕ) (v : Value) → i < length vs → v ≡ get_or vs i v → (HasText text (items_view (take i vs)) → ⊥) → (as_str (view v) ≡ Some text → ⊥) → HasText text (items_view (take (i + 1) vs)) → ⊥
none_more text vs i v low at none not has =
    let front : take (i + 1) vs ≡ take i vs ++ v ∷ [] = take_more vs i v low ∙ ap (λ x. take i vs ++ x ∷ []) (sym at) in
    elim (one_of text (take i vs) v (subst (λ l. HasText text (items_view l)) front has)) [
      | inl among ↦ none among
      | inr is ↦ not is
    ]

pub none_at_all : (text : List ℕ) (vs : List Value) (i : ℕ) → length vs ≤ i → (HasText text (items_view (take i vs)) → ⊥) → HasText text (items_view vs) → ⊥
none_at_all text vs i ends none has = none (subst (λ l. HasText text (items_view l)) (sym (take_all i vs ends)) has)

pub null_is : view Null ≡ null
null_is = search (rules, the_lemmas)

-- the list of capabilities has the units
pub lists_units : (units : Encoding) (answer capabilities completions renames : Data) → get (codes "capabilities") answer ≡ Some capabilities → capabilities ≡ capabilities_data (unit_name units) completions renames
    → ListsUnits units answer
unfolding serde_json_on_literals
lists_units units answer capabilities completions renames has is = record { completions = completions; renames = renames; lists = has ∙ ap (λ d. Some d) is; says = refl }
