-- A text with edits, at one more edit.
use Rattle.std.proofs.Common.{◌≡◌, ◌∙◌, ◌+◌, ◌<◌, ◌≤◌, ℕ, suc, List, [], ◌∷◌, ◌++◌, Option, None, Some, IfNone, append_assoc, arith, ap, drop, get_or, length, refl, slice_range, subst, sym}
use Rattle.std.proofs.Math.Seq.{drop-cons}
use Rattle.std.proofs.lemmas.List.{drop_all, get_or_default}
use Rattle.hm_messages_json.specs.declared.message.Position.{Position}
use Rattle.hm_service_candidates.specs.Cursors.{IsCursor}
use Rattle.hm_service_candidates.specs.EditSteps.{HasSpan, IsFront}
use Rattle.hm_service_candidates.specs.Edited.{IsByteAt, IsEditedFrom}
use Rattle.hm_service_candidates.specs.declared.cursors.Cursor.{Cursor}
use Rattle.hm_service_messages.specs.Lines.{Change}
use Rattle.hm_service_candidates.proofs.Rising.{one_byte}

-- what is made is the text up to byte number `at` with the first edits: whatever the rest becomes, the whole is right, and each text with all edits is so made
pub record IsBegun (text : List ℕ) (es : List Change) (i at : ℕ) (made : List ℕ) : Type 0 where
  pub whole : (rest : List ℕ) → IsEditedFrom text at (drop i es) rest → IsEditedFrom text 0 es (made ++ rest)
  pub only : (t : List ℕ) → IsEditedFrom text 0 es t → (rest : List ℕ) × IsEditedFrom text at (drop i es) rest
  pub last : (d : Change) (k : ℕ) → i ≡ k + 1 → IsByteAt text (get_or es k d).end at

pub begun : (text : List ℕ) (es : List Change) → IsBegun text es 0 0 []
begun text es = record { whole = λ rest h. h; only = λ t h. (t, h); last = λ d k e. absurd (omega (arith, e)) }

split : (es : List Change) (i : ℕ) (d e : Change) → i < length es → get_or es i d ≡ e → drop i es ≡ e ∷ drop (i + 1) es
split es i d e inside is =
    let next : suc i ≡ i + 1 = omega arith in
    subst (λ (n : ℕ). drop i es ≡ get_or es i d ∷ drop n es) next (drop-cons es i d inside) ∙ ap (λ (x : Change). x ∷ drop (i + 1) es) is

pub same_byte : (text : List ℕ) (p : Position) (a b : ℕ) → IsByteAt text p a → IsByteAt text p b → a ≡ b
same_byte text p a b one two = one_byte text a b one.within two.within (one.place ∙ sym two.place)

only_after : (text : List ℕ) (e : Change) (es : List Change) (at to : ℕ) (rest : List ℕ) → IsByteAt text e.end to → IsEditedFrom text at (e ∷ es) rest → (later : List ℕ) × IsEditedFrom text to es later
only_after text e es at to rest ends h =
    let end = h.1.0 in
    let later = h.1.1.0 in
    let parts = h.1.1.1.1.1.1 in
    let same : end ≡ to = same_byte text e.end end to parts.0 ends in
    (later, subst (λ (n : ℕ). IsEditedFrom text n es later) same parts.1.0)

pub begun_more : (text : List ℕ) (es : List Change) (i at from to : ℕ) (d e : Change) (old mid made : List ℕ) → i < length es → get_or es i d ≡ e → IsBegun text es i at old → at ≤ from → from ≤ to → IsByteAt text e.start from → IsByteAt text e.end to
    → mid ≡ old ++ slice_range text at from → made ≡ mid ++ e.text → IsBegun text es (i + 1) to made
begun_more text es i at from to d e old mid made inside is before late ordered starts ends first second = record {
  whole = λ rest h.
      let step : IsEditedFrom text at (e ∷ drop (i + 1) es) (slice_range text at from ++ (e.text ++ rest)) = (from, (to, (rest, (late, (ordered, (starts, (ends, (h, refl)))))))) in
      let whole : IsEditedFrom text 0 es (old ++ (slice_range text at from ++ (e.text ++ rest))) =
      before.whole (slice_range text at from ++ (e.text ++ rest)) (subst (λ (l : List Change). IsEditedFrom text at l (slice_range text at from ++ (e.text ++ rest))) (sym (split es i d e inside is)) step) in
      let same : made ++ rest ≡ old ++ (slice_range text at from ++ (e.text ++ rest)) =
      ap (λ (l : List ℕ). l ++ rest) (second ∙ ap (λ (l : List ℕ). l ++ e.text) first) ∙ (append_assoc (old ++ slice_range text at from) e.text rest ∙ append_assoc old (slice_range text at from) (e.text ++ rest)) in
      subst (IsEditedFrom text 0 es) (sym same) whole;
  only = λ t h.
      let past = before.only t h in
      only_after text e (drop (i + 1) es) at to past.0 ends (subst (λ (l : List Change). IsEditedFrom text at l past.0) (split es i d e inside is) past.1);
  last = λ c k one.
      let here : k ≡ i = omega (arith, one) in
      let at_k : get_or es k c ≡ e = ap (λ (n : ℕ). get_or es n c) here ∙ (get_or_default es i c d inside ∙ is) in
      subst (λ (x : Change). IsByteAt text x.end to) (sym at_k) ends;
}

-- an edit that isn't there
pub stuck : (text : List ℕ) (es : List Change) (i at : ℕ) (d e : Change) (made : List ℕ) → i < length es → get_or es i d ≡ e → IsBegun text es i at made → ¬ (HasSpan text at e) → (t : List ℕ) → ¬ (IsEditedFrom text 0 es t)
stuck text es i at d e made inside is before none t h =
    let past = before.only t h in
    let step : IsEditedFrom text at (e ∷ drop (i + 1) es) past.0 = subst (λ (l : List Change). IsEditedFrom text at l past.0) (split es i d e inside is) past.1 in
    none (step.0, (step.1.0, (step.1.1.1.0, (step.1.1.1.1.0, (step.1.1.1.1.1.0, step.1.1.1.1.1.1.0)))))

pub ended : (text : List ℕ) (es : List Change) (i : ℕ) (end : Cursor) (made : List ℕ) → i ≡ length es → IsCursor text end → IsBegun text es i end.at made → IsFront text es made end
ended text es i end made all cursor before = record {
  cursor = cursor;
  edited = before.whole (drop end.at text) (subst (λ (l : List Change). IsEditedFrom text end.at l (drop end.at text)) (sym (drop_all i es (omega (arith, all)))) refl);
  last = λ d k one. before.last d k (all ∙ one);
}

-- an edit that begins at a byte, and ends nowhere after it
pub not_span : (text : List ℕ) (at : ℕ) (e : Change) (start : ℕ) → IsByteAt text e.start start → ((n : ℕ) → start ≤ n → ¬ (IsByteAt text e.end n)) → ¬ (HasSpan text at e)
not_span text at e start starts none h =
    let same : h.0 ≡ start = same_byte text e.start h.0 start h.1.1.1.1.0 starts in
    none h.1.0 (subst (λ (n : ℕ). n ≤ h.1.0) same h.1.1.1.0) h.1.1.1.1.1

pub if_none : {X : Type 0} (o : Option X) (P : Type 0) → P → IfNone o P
if_none None P p = p
if_none (Some x) P p = tt
