-- Lines that are shown, one after another.
use Rattle.std.proofs.Common.{◌≡◌, ℕ, ◌<◌, Bool, true, false, List, [], ◌++◌, codes, length, sym, ap, subst, ◌∙◌}
use Rattle.std.proofs.lemmas.Bool.{cond-false, cond-true}
use Rattle.std.proofs.lemmas.List.{append_assoc, append-nil}
use Rattle.std.specs.List.{after_first, before_first, position_or_len}
use Rattle.hm_lsp_values.specs.Names.{IsShown, is_bound, is_end, kept, last, line}

pub kept_some : (l end : List ℕ) → is_bound l ≡ false → kept l end ≡ l ++ end
kept_some l end h = cond-false _ _ _ h

pub kept_none : (l end : List ℕ) → is_bound l ≡ true → kept l end ≡ []
kept_none l end h = cond-true _ _ _ h

-- the step of a loop
pub shown_more : (text rest shown next : List ℕ) → ((end : List ℕ) → IsShown rest end → IsShown text (shown ++ end)) → position_or_len is_end rest < length rest
    → next ≡ shown ++ kept (before_first is_end rest) (codes "\n") → (end : List ℕ) → IsShown (after_first is_end rest) end → IsShown text (next ++ end)
shown_more text rest shown next so_far within is end h =
    subst (IsShown text) (sym (ap (λ (l : List ℕ). l ++ end) is ∙ append_assoc shown (kept (before_first is_end rest) (codes "\n")) end))
    (so_far (kept (before_first is_end rest) (codes "\n") ++ end) (line within h))

abbrev IsNext : List ℕ → List ℕ → List ℕ → Type 0
IsNext rest l later = (l ≡ before_first is_end rest) × ((later ≡ after_first is_end rest) × (position_or_len is_end rest < length rest))

-- a line that is kept
pub more_kept : (text rest l later shown next : List ℕ) (mark : Bool) → ((end : List ℕ) → IsShown rest end → IsShown text (shown ++ end)) → IsNext rest l later → mark ≡ is_bound l → mark ≡ false
    → next ≡ (shown ++ l) ++ codes "\n" → (end : List ℕ) → IsShown later end → IsShown text (next ++ end)
more_kept text rest l later shown next mark so_far at is kept_line same end h =
    shown_more text rest shown next so_far at.1.1
    (same ∙ append_assoc shown l (codes "\n") ∙ ap (λ (x : List ℕ). shown ++ x) (sym (kept_some l (codes "\n") (sym is ∙ kept_line))) ∙ ap (λ (x : List ℕ). shown ++ kept x (codes "\n")) at.0)
    end (subst (λ (x : List ℕ). IsShown x end) at.1.0 h)

-- a line that is left out
pub more_left : (text rest l later shown : List ℕ) (mark : Bool) → ((end : List ℕ) → IsShown rest end → IsShown text (shown ++ end)) → IsNext rest l later → mark ≡ is_bound l → mark ≡ true
    → (end : List ℕ) → IsShown later end → IsShown text (shown ++ end)
more_left text rest l later shown mark so_far at is left end h =
    shown_more text rest shown shown so_far at.1.1
    (sym (append-nil shown) ∙ ap (λ (x : List ℕ). shown ++ x) (sym (kept_none l (codes "\n") (sym is ∙ left))) ∙ ap (λ (x : List ℕ). shown ++ kept x (codes "\n")) at.0)
    end (subst (λ (x : List ℕ). IsShown x end) at.1.0 h)

-- what is left is the last line
pub whole_kept : (text rest shown next : List ℕ) (mark : Bool) → ((end : List ℕ) → IsShown rest end → IsShown text (shown ++ end)) → position_or_len is_end rest ≡ length rest → mark ≡ is_bound rest → mark ≡ false
    → next ≡ shown ++ rest → IsShown text next
whole_kept text rest shown next mark so_far ends is kept_line same =
    subst (IsShown text) (sym (same ∙ ap (λ (x : List ℕ). shown ++ x) (sym (kept_some rest [] (sym is ∙ kept_line) ∙ append-nil rest)))) (so_far (kept rest []) (last ends))

pub whole_left : (text rest shown next : List ℕ) (mark : Bool) → ((end : List ℕ) → IsShown rest end → IsShown text (shown ++ end)) → position_or_len is_end rest ≡ length rest → mark ≡ is_bound rest → mark ≡ true
    → next ≡ shown → IsShown text next
whole_left text rest shown next mark so_far ends is left same =
    subst (IsShown text) (sym (same ∙ sym (append-nil shown) ∙ ap (λ (x : List ℕ). shown ++ x) (sym (kept_none rest [] (sym is ∙ left))))) (so_far (kept rest []) (last ends))
