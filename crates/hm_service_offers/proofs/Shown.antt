-- What a check says of a source, and which changes a trial has kept.
use Rattle.std.proofs.Common.{◌≡◌, ◌∙◌, ◌+◌, ◌<◌, ◌++◌, ℕ, Bool, true, false, List, [], ◌∷◌, Result, Ok, Err, IfOk, Vec, Global, ap, get_or, inl, inr, length, map, refl, subst, sym, take}
use Rattle.std.proofs.lemmas.Bool.{cases_Bool}
use Rattle.std.proofs.lemmas.List.{get_or-map, length-map, take_more}
use Rattle.hm_service_candidates.specs.Ranges.{AreCandidatesIn, Tried, tried_of}
use Rattle.hm_service_candidates.specs.declared.ranges.Candidate.{Candidate}
use Rattle.hm_service_candidates.specs.declared.ranges.SourceRange.{SourceRange}
use Rattle.hm_service_messages.specs.declared.diagnostic.Diagnostic.{Diagnostic}
use Rattle.hm_service_offers.specs.Judged.{IsCheckedAs, other_text}
use Rattle.hm_service_offers.specs.Offers.{AreFixes, AreFixesIn, IsTrial, IsTriedAs}
use Rattle.hm_service_places.specs.Places.{IsIndexOf}
use Rattle.hm_service_places.specs.declared.checked.Checked.{Checked}
use Rattle.hm_service_places.specs.declared.checked.CheckedSet.{CheckedSet}
use Rattle.hm_service_sources.specs.HeldSets.{texts_of}
use Rattle.hm_service_sources.specs.declared.held.HeldSource.{HeldSource}
use Rattle.std.specs.Prelude.{slice_index_or}

-- a source of the checked part is checked as it is now if its texts are the same
pub checked_as : (held : List HeldSource) (c : Checked) (n index : ℕ) (text now : List ℕ) (same : Bool) → IsIndexOf c n index → text ≡ slice_index_or (map (λ s. s.items) c.texts.items) index [] → now ≡ slice_index_or (texts_of held) n []
    → (same ≡ true → text ≡ now) → (same ≡ false → ¬ (text ≡ now)) → IsCheckedAs held c n same
checked_as held c n index text now true at is_text is_now equal apart = (index, record { at = at; same = sym is_text ∙ (equal refl ∙ is_now) })
checked_as held c n index text now false at is_text is_now equal apart = other_text at (λ e. apart refl (is_text ∙ (e ∙ sym is_now)))

push_yes : (set : CheckedSet) (n : ℕ) (ts : List Tried) (t : Tried) (found : List Tried) → AreFixes set n ts found → IsTriedAs set n t true → AreFixes set n (ts ++ t ∷ []) (found ++ t ∷ [])
push_yes set n [] t found h fix = inl (fix, ([], (ap (λ (l : List Tried). l ++ t ∷ []) h, refl)))
push_yes set n (x ∷ ts) t found (inl w) fix = inl (w.0, (w.1.0 ++ t ∷ [], (ap (λ (l : List Tried). l ++ t ∷ []) w.1.1.0, push_yes set n ts t w.1.0 w.1.1.1 fix)))
push_yes set n (x ∷ ts) t found (inr w) fix = inr (w.0, push_yes set n ts t found w.1 fix)

push_no : (set : CheckedSet) (n : ℕ) (ts : List Tried) (t : Tried) (found : List Tried) → AreFixes set n ts found → IsTriedAs set n t false → AreFixes set n (ts ++ t ∷ []) found
push_no set n [] t found h none = inr (none, h)
push_no set n (x ∷ ts) t found (inl w) none = inl (w.0, (w.1.0, (w.1.1.0, push_no set n ts t w.1.0 w.1.1.1 none)))
push_no set n (x ∷ ts) t found (inr w) none = inr (w.0, push_no set n ts t found w.1 none)

-- one more change is tried
pub fixes_more : (set : CheckedSet) (n : ℕ) (cs : List Candidate) (i : ℕ) (c : Candidate) (old new : List Tried) (fix : Bool) → i < length cs → c ≡ get_or cs i c → AreFixes set n (take i (map tried_of cs)) old → IsTriedAs set n (tried_of c) fix
    → (fix ≡ true → new ≡ old ++ tried_of c ∷ []) → (fix ≡ false → new ≡ old) → AreFixes set n (take (i + 1) (map tried_of cs)) new
fixes_more set n cs i c old new fix within at so_far is adds keeps =
    let ts : List Tried = map tried_of cs in
    let t : Tried = tried_of c in
    let inside : i < length ts = subst (λ (k : ℕ). i < k) (sym (length-map cs tried_of)) within in
    let here : get_or ts i t ≡ t = get_or-map tried_of cs i c t within ∙ ap tried_of (sym at) in
    let front : take (i + 1) ts ≡ take i ts ++ t ∷ [] = take_more ts i t inside ∙ ap (λ (x : Tried). take i ts ++ x ∷ []) here in
    subst (λ (l : List Tried). AreFixes set n l new) (sym front) (elim (cases_Bool fix) [
      | inl met ↦ subst (AreFixes set n (take i ts ++ t ∷ [])) (sym (adds met)) (push_yes set n (take i ts) t old so_far (subst (IsTriedAs set n t) met is))
      | inr clear ↦ subst (AreFixes set n (take i ts ++ t ∷ [])) (sym (keeps clear)) (push_no set n (take i ts) t old so_far (subst (IsTriedAs set n t) clear is))
    ])

-- the fixes among the changes that are tried for a range
pub fixes_of_run : {E : Type 0} (set : CheckedSet) (r : SourceRange) (told : List Diagnostic) (candidates : List Tried) (made : Result (Vec Candidate Global) E) → AreCandidatesIn told r candidates → IfOk made (λ v. AreFixes set r.source candidates (map tried_of v.items))
    → IfOk made (λ v. AreFixesIn set r told (map tried_of v.items))
fixes_of_run set r told candidates (Err e) are fixes = tt
fixes_of_run set r told candidates (Ok v) are fixes = (candidates, (are, fixes))

pub tried_as : (set : CheckedSet) (n : ℕ) (t : Tried) (fix : Bool) → IsTrial set n t fix → IsTriedAs set n t fix
tried_as set n t true trial = trial
tried_as set n t false trial = inr trial
