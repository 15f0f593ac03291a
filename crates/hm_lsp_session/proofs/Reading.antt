-- Changes that are read one after another.
use Rattle.std.proofs.Common.{◌≡◌, ℕ, zero, suc, arith, ◌+◌, ◌<◌, Option, None, Some, List, [], ◌∷◌, ◌++◌, length, take, get_or, sym, ap, subst, ◌∙◌}
use Rattle.std.proofs.lemmas.List.{take_more}
use Rattle.serde_json.specs.Data.{Data, Items, no_items, null}
use Rattle.serde_json.specs.View.{items_view, view}
use Rattle.serde_json.specs.declared.value.Value.{Value}
use Rattle.hm_lsp_positions.specs.declared.changes.Change.{Change}
use Rattle.hm_lsp_session.specs.Params.{AreChangesIn, IsChangeIn}

one_more : (vs : List Value) (v : Value) (cs : List Change) (c : Change) → AreChangesIn (items_view vs) cs → IsChangeIn (view v) c → AreChangesIn (items_view (vs ++ v ∷ [])) (cs ++ c ∷ [])
one_more [] v [] c h is = (is, tt)
one_more [] v (d ∷ cs) c h is = absurd h
one_more (w ∷ vs) v [] c h is = absurd h
one_more (w ∷ vs) v (d ∷ cs) c h is = (h.0, one_more vs v cs c h.1 is)

-- the step of a loop
pub changes_more : (vs : List Value) (i : ℕ) (v : Value) (old new : List Change) (c : Change) → i < length vs → v ≡ get_or vs i v → AreChangesIn (items_view (take i vs)) old → IsChangeIn (view v) c → new ≡ old ++ c ∷ []
    → AreChangesIn (items_view (take (i + 1) vs)) new
changes_more vs i v old new c within at so_far is pushed =
    let front : take (i + 1) vs ≡ take i vs ++ v ∷ [] = take_more vs i v within ∙ ap (λ x. take i vs ++ x ∷ []) (sym at) in
    subst (λ l. AreChangesIn (items_view l) new) (sym front) (subst (AreChangesIn (items_view (take i vs ++ v ∷ []))) (sym pushed) (one_more (take i vs) v old c so_far is))

of : Option Data → Data
of None = null
of (Some d) = d

-- a member has one value
pub same_member : (d e : Data) (found : Option Data) → Some d ≡ found → found ≡ Some e → d ≡ e
unfolding of
same_member d e found one other = ap of (one ∙ other)

items_in : Option Items → Items
items_in None = no_items
items_in (Some ds) = ds

pub same_items : (ds es : Items) (found : Option Items) → Some ds ≡ found → found ≡ Some es → ds ≡ es
unfolding items_in
same_items ds es found one other = ap items_in (one ∙ other)

-- each value of a list of changes is one
pub change_at : (vs : List Value) (cs : List Change) (i : ℕ) (v : Value) → i < length vs → v ≡ get_or vs i v → AreChangesIn (items_view vs) cs → (c : Change) × IsChangeIn (view v) c
change_at [] cs i v low at h = let never : ⊥ = omega (arith, low) in absurd never
change_at (w ∷ vs) [] i v low at h = absurd h
change_at (w ∷ vs) (c ∷ cs) zero v low at h = (c, subst (λ x. IsChangeIn (view x) c) (sym at) h.0)
change_at (w ∷ vs) (c ∷ cs) (suc i) v low at h = change_at vs cs i v (omega (arith, low)) at h.1
