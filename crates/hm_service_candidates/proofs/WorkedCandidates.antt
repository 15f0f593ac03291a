-- Worked examples of candidates.
use Rattle.std.proofs.Common.{◌≡◌, ◌∙◌, ◌++◌, ℕ, List, [], ◌∷◌, Some, arith, ap, ap₂, codes, get_or, inl, length, map, refl, slice_get, subst, sym, take}
use Rattle.std.proofs.lemmas.Option.{same_Some}
use Rattle.hm_messages_json.specs.declared.message.Level.{Level}
use Rattle.hm_messages_json.specs.declared.message.Level.TheVariants.{Error, Note}
use Rattle.hm_service_candidates.specs.Candidates.{AreCandidates, AreMessagesOf}
use Rattle.hm_service_candidates.specs.Edited.{IsByteAt, IsEditedFrom}
use Rattle.hm_service_candidates.specs.Candidates.{most_tried}
use Rattle.hm_service_candidates.specs.Ranges.{AreCandidatesIn, AreOwn, IsIn, Tried, elsewhere, note, outside, tried, within}
use Rattle.hm_service_candidates.specs.Worked.{CandidateRow, EditedRow, RangeRow, at, third}
use Rattle.hm_service_candidates.specs.declared.ranges.SourceRange.{SourceRange}
use Rattle.hm_service_messages.specs.declared.diagnostic.Diagnostic.{Diagnostic}

starts : IsByteAt (codes "f x y") (at 1 3) 2
starts = record { within = omega arith; place = refl }

ends : IsByteAt (codes "f x y") (at 1 4) 3
ends = record { within = omega arith; place = refl }

made : IsEditedFrom (codes "f x y") 0 (third ∷ []) (codes "f z y")
made = (2, (3, (codes " y", (omega arith, (omega arith, (starts, (ends, (refl, refl))))))))

not_more : ¬ (IsEditedFrom (codes "f x y") 0 [] (codes "f z y"))
not_more e = let z = ap (λ (l : List ℕ). get_or l 2 0) e in omega (arith, z)

pub worked_edited : EditedRow
worked_edited = record { made = made; not_more = not_more }

alone : (d : Diagnostic) → d.level ≡ Error → AreMessagesOf (d ∷ []) 0 (d ∷ [])
alone d error = record {
  end = 1;
  some = omega arith;
  within = omega arith;
  notes = λ i e late low. absurd (omega (arith, late, low));
  next = λ e low. absurd (omega (arith, low));
  are = refl;
}

one : (d : Diagnostic) → d.level ≡ Error → d.source ≡ 0 → ¬ (d.edits.items ≡ []) → AreCandidates (d ∷ []) 0 0 (d ∷ [])
one d error own some = record {
  own = d ∷ [];
  messages = alone d error;
  all = d ∷ [];
  chosen = inl ((own, some), ([], (refl, refl)));
  few = refl;
}

pub worked_candidates : CandidateRow
worked_candidates = record { alone = alone; one = one; not_silent = λ d none is. is.1 none }

one_of : (d : Diagnostic) (n : ℕ) → d.level ≡ Error → d.source ≡ n → ¬ (d.edits.items ≡ []) → AreCandidates (d ∷ []) n 0 (d ∷ [])
one_of d n error own some = record {
  own = d ∷ [];
  messages = alone d error;
  all = d ∷ [];
  chosen = inl ((own, some), ([], (refl, refl)));
  few = refl;
}

one_in : (d : Diagnostic) (r : SourceRange) → d.level ≡ Error → IsIn r d → ¬ (d.edits.items ≡ []) → AreCandidatesIn (d ∷ []) r (tried d d ∷ [])
one_in d r error here some = record {
  all = tried d d ∷ [];
  are = (d, ([], (d ∷ [], (refl, (refl, (within refl error here.0 (alone d error) (0, d, omega arith, refl, here) (one_of d r.source error here.0 some), refl))))));
  few = refl;
}

abbrev is_error : Level → ℕ
is_error Error = 1
is_error Note = 0

own_none : (d : Diagnostic) (r : SourceRange) (own : List Diagnostic) → d.level ≡ Note → AreOwn (d ∷ []) r 0 own → own ≡ []
own_none d r own level (within {f} is error here messages some are) =
    let same : f ≡ d = sym (same_Some d f is) in
    let level_of : is_error f.level ≡ is_error d.level = ap (λ (x : Diagnostic). is_error x.level) same in
    let one : is_error f.level ≡ 1 = ap is_error error in
    let none : is_error d.level ≡ 0 = ap is_error level in
    absurd (omega (arith, level_of, one, none))
own_none d r own level (outside messages apart none) = none
own_none d r own level (note is it none) = none
own_none d r own level (elsewhere is it none) = none

not_note : (d : Diagnostic) (r : SourceRange) → d.level ≡ Note → ¬ (AreCandidatesIn (d ∷ []) r (tried d d ∷ []))
not_note d r level h =
    let own = h.are.1.1.0 in
    let none : own ≡ [] = own_none d r own level h.are.1.1.1.1.1.0 in
    let all : h.all ≡ [] = h.are.1.1.1.1.1.1 ∙ ap₂ (λ (a : List Tried) (b : List Diagnostic). a ++ map (tried h.are.0) b) h.are.1.1.1.1.0 none in
    let size : 1 ≡ length (take most_tried h.all) = ap (λ (l : List Tried). length l) h.few in
    let zero_size : length (take most_tried h.all) ≡ 0 = ap (λ (l : List Tried). length (take most_tried l)) all in
    absurd (omega (arith, size, zero_size))

pub worked_ranges : RangeRow
worked_ranges = record { one = one_in; not_note = not_note }
