-- The text that edits make, or why there is none.
use Rattle.std.proofs.Common.{◌≡◌, ◌∙◌, ◌-◌, ◌<◌, ◌≤◌, ℕ, List, [], ◌∷◌, ◌++◌, arith, ap, drop, get_or, length, length-append, map, subst, sym, take}
use Rattle.std.proofs.lemmas.List.{get_or-map, length-map}
use Rattle.hm_lex.specs.Cut.{place_after}
use Rattle.hm_service_candidates.specs.EditSteps.{IsFront}
use Rattle.hm_service_candidates.specs.Edited.{HasNoEdited, IsByteAt, IsEditedFrom, IsEditedText, apart, long_made, place_of}
use Rattle.hm_service_candidates.specs.declared.cursors.Cursor.{Cursor}
use Rattle.hm_service_candidates.specs.declared.edited.EditedText.{EditedText}
use Rattle.hm_service_messages.specs.Lines.{Change, edit_of}
use Rattle.hm_service_messages.specs.declared.diagnostic.Edit.{Edit}

start_there : (text : List ℕ) (es : List Change) (d : Change) (made : List ℕ) → 0 < length es → IsEditedFrom text 0 es made → (n : ℕ) × IsByteAt text (get_or es 0 d).start n
start_there text [] d made some h = absurd (omega (arith, some))
start_there text (e ∷ es) d made some h = (h.0, h.1.1.1.1.1.0)

first_is : (edits : List Edit) (first : Edit) (d : Change) → 0 < length edits → first ≡ get_or edits 0 first → get_or (map edit_of edits) 0 d ≡ edit_of first
first_is edits first d some is = get_or-map edit_of edits 0 first d some ∙ ap edit_of (sym is)

pub no_start : (text : List ℕ) (edits : List Edit) (first : Edit) → 0 < length edits → first ≡ get_or edits 0 first → ((n : ℕ) → ¬ (IsByteAt text first.start n)) → HasNoEdited text edits
no_start text edits first some is none = apart (λ made h.
    let there = start_there text (map edit_of edits) (edit_of first) made (omega (arith, some, length-map edits edit_of)) h in
    none there.0 (subst (λ (e : Change). IsByteAt text e.start there.0) (first_is edits first (edit_of first) some is) there.1))

pub too_long : (text : List ℕ) (edits : List Edit) (front : List ℕ) (end : Cursor) → IsFront text (map edit_of edits) front end → 4294967294 ≤ length front → HasNoEdited text edits
too_long text edits front end is long = long_made (front ++ drop end.at text) is.edited (omega (arith, long, length-append front (drop end.at text)))

pub made_text : (text : List ℕ) (edits : List Edit) (first : Edit) (front : List ℕ) (end : Cursor) (e : EditedText) → 0 < length edits → first ≡ get_or edits 0 first → IsFront text (map edit_of edits) front end → e.text.items ≡ front ++ drop end.at text
    → e.start ≡ place_of first.start → e.end ≡ end.place → e.new_end ≡ place_after front → IsEditedText text edits e
made_text text edits first front end e some is f whole starts ends new =
    let last : (d : Change) → IsByteAt text (get_or (map edit_of edits) (length edits - 1) d).end end.at = λ d. f.last d (length edits - 1) (omega (arith, some, length-map edits edit_of)) in
    record {
      edited = subst (IsEditedFrom text 0 (map edit_of edits)) (sym whole) f.edited;
      replaced = record {
        start_is = λ d. starts ∙ ap (λ (c : Change). place_of c.start) (sym (first_is edits first d some is));
        end_is = λ d. ends ∙ (f.cursor.place ∙ (last d).place);
        to = end.at;
        after = last;
        front = front;
        whole = whole;
        new_end_is = new;
      };
    }
