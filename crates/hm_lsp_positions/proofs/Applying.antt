-- Changes, one after another.
use Rattle.std.proofs.Common.{◌≡◌, ℕ, ◌+◌, ◌<◌, ◌≤◌, List, ◌∷◌, length, drop, get_or, sym, ap, subst, ◌∙◌}
use Rattle.std.proofs.lemmas.List.{drop_all, drop_more}
use Rattle.hm_lsp_positions.specs.Changes.{AreApplied, HasReversed, IsApplied, IsReversed, after, at_first, later, unchanged}
use Rattle.hm_lsp_positions.specs.declared.changes.Change.{Change}
use Rattle.hm_lsp_positions.specs.declared.units.Encoding.{Encoding}

pub one_applied : (e : Encoding) (text made next : List ℕ) (changes : List Change) (i : ℕ) (change : Change) → i < length changes → change ≡ get_or changes i change → IsApplied e made change next
    → ((end : List ℕ) → AreApplied e made (drop i changes) end → AreApplied e text changes end) → (end : List ℕ) → AreApplied e next (drop (i + 1) changes) end → AreApplied e text changes end
one_applied e text made next changes i change low is applied before end rest =
    let whole : drop i changes ≡ change ∷ drop (i + 1) changes = drop_more changes i change low ∙ ap (λ (x : Change). x ∷ drop (i + 1) changes) (sym is) in
    before end (subst (λ (l : List Change). AreApplied e made l end) (sym whole) (after applied rest))

pub all_applied : (e : Encoding) (text made : List ℕ) (changes : List Change) (i : ℕ) → length changes ≤ i
    → ((end : List ℕ) → AreApplied e made (drop i changes) end → AreApplied e text changes end) → AreApplied e text changes made
all_applied e text made changes i ends before = before made (subst (λ (l : List Change). AreApplied e made l made) (sym (drop_all i changes ends)) unchanged)

pub one_passed : (e : Encoding) (text made next : List ℕ) (changes : List Change) (i : ℕ) (change : Change) → i < length changes → change ≡ get_or changes i change → IsApplied e made change next
    → (HasReversed e made (drop i changes) → HasReversed e text changes) → HasReversed e next (drop (i + 1) changes) → HasReversed e text changes
one_passed e text made next changes i change low is applied before rest =
    let whole : drop i changes ≡ change ∷ drop (i + 1) changes = drop_more changes i change low ∙ ap (λ (x : Change). x ∷ drop (i + 1) changes) (sym is) in
    before (subst (HasReversed e made) (sym whole) (later applied rest))

pub one_reversed : (e : Encoding) (text made : List ℕ) (changes : List Change) (i : ℕ) (change : Change) → i < length changes → change ≡ get_or changes i change → IsReversed e made change
    → (HasReversed e made (drop i changes) → HasReversed e text changes) → HasReversed e text changes
one_reversed e text made changes i change low is reversed before =
    let whole : drop i changes ≡ change ∷ drop (i + 1) changes = drop_more changes i change low ∙ ap (λ (x : Change). x ∷ drop (i + 1) changes) (sym is) in
    before (subst (HasReversed e made) (sym whole) (at_first reversed))
