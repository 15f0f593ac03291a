-- The first texts of a set with a new name, and one more; and parts of lists.
use Rattle.std.proofs.Common.{◌≡◌, ◌∙◌, ◌+◌, ◌-◌, ◌<◌, ◌≤◌, ℕ, suc, All, List, [], ◌∷◌, ◌++◌, Vec, Global, append_assoc, arith, ap, drop, get_or, length, length-append, map, slice_range, subst, sym, take}
use Rattle.std.proofs.lemmas.List.{get_or-map, length-take-le, map-append, take_at}
use Rattle.std.proofs.lemmas.List.Edits.{length-between, split_between}
use Rattle.hm_service_rename.specs.Replaced.{AreFirstReplaced}
use Rattle.hm_uses_references.specs.declared.finding.Reference.{Reference}
use Rattle.hm_uses_renames.specs.Texts.{IsReplaced}

pub replaced_more : (texts made next : List (List ℕ)) (new one text : List ℕ) (n : ℕ) (before own after : List Reference) → AreFirstReplaced texts new n before made → All (λ r. r.source ≡ n) own → text ≡ get_or texts n []
    → IsReplaced text new own one → after ≡ before ++ own → next ≡ made ++ one ∷ [] → AreFirstReplaced texts new (n + 1) after next
replaced_more texts made next new one text n before own after first are is replaced parts pushed =
    let step : suc n ≡ n + 1 = omega arith in
    subst (λ (m : ℕ). AreFirstReplaced texts new m after next) step (before, (own, (made, (one, (first, (are, (subst (λ (t : List ℕ). IsReplaced t new own one) is replaced, (parts, pushed))))))))

-- the first elements are some of them and the part after these
pub first_parts : (xs : List Reference) (i j : ℕ) → i ≤ j → j ≤ length xs → take j xs ≡ take i xs ++ slice_range xs i j
first_parts xs i j ordered within =
    let front = take i xs in
    let middle = slice_range xs i j in
    let below : i ≤ length xs = omega (arith, ordered, within) in
    let whole : xs ≡ (front ++ middle) ++ drop j xs = split_between xs i j ordered ∙ sym (append_assoc front middle (drop j xs)) in
    let one : length front ≡ i = length-take-le i xs below in
    let other : length middle ≡ j - i = length-between xs i j within in
    let both : length (front ++ middle) ≡ length front + length middle = length-append front middle in
    let long : length (front ++ middle) ≡ j = omega (arith, one, other, both, ordered) in
    ap (take j) whole ∙ take_at (front ++ middle) (drop j xs) j long

pub text_at : (xs : List (Vec ℕ Global)) (i : ℕ) (x : Vec ℕ Global) → i < length xs → x ≡ get_or xs i x → x.items ≡ get_or (map (λ s. s.items) xs) i []
text_at xs i x inside is = ap (λ (y : Vec ℕ Global). y.items) is ∙ sym (get_or-map (λ (s : Vec ℕ Global). s.items) xs i x [] inside)

pub one_more : (old new : List (Vec ℕ Global)) (x : Vec ℕ Global) → new ≡ old ++ x ∷ [] → map (λ s. s.items) new ≡ map (λ s. s.items) old ++ x.items ∷ []
one_more old new x added = ap (map (λ (s : Vec ℕ Global). s.items)) added ∙ map-append (λ (s : Vec ℕ Global). s.items) old (x ∷ [])
