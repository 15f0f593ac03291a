-- The candidates of a message for a range, and those of one more message.
use Rattle.std.proofs.Common.{◌≡◌, ◌∙◌, ◌+◌, ◌<◌, ◌≤◌, ℕ, suc, List, [], ◌∷◌, ◌++◌, All, IfOk, Result, Err, Ok, Bor, Global, Some, Vec, arith, ap, get_or, length, map, refl, slice_get, slice_range, subst, sym, take}
use Rattle.std.specs.List.{Any}
use Rattle.std.proofs.lemmas.List.{get_or_default}
use Rattle.std.proofs.lemmas.Option.{slice_get_read}
use Rattle.hm_messages_json.specs.declared.message.Level.TheVariants.{Error, Note}
use Rattle.hm_service_candidates.specs.Candidates.{AreCandidates, AreMessagesOf, most_tried}
use Rattle.hm_service_candidates.specs.Ranges.{AreCandidatesIn, AreFirstIn, AreOwn, IsIn, Tried, tried, tried_of, within}
use Rattle.hm_service_candidates.specs.declared.ranges.Candidate.{Candidate}
use Rattle.hm_service_candidates.specs.declared.ranges.SourceRange.{SourceRange}
use Rattle.hm_service_messages.specs.declared.diagnostic.Diagnostic.{Diagnostic}

-- a message and its notes are those of a fault
pub messages_of : (told : List Diagnostic) (k end : ℕ) → k + 1 ≤ end → end ≤ length told → ((i : ℕ) (d : Diagnostic) → k + 1 ≤ i → i < end → (get_or told i d).level ≡ Note) → ((d : Diagnostic) → end < length told → (get_or told end d).level ≡ Error)
    → AreMessagesOf told k (slice_range told k end)
messages_of told k end some inside notes next = record {
  end = end;
  some = omega (arith, some);
  within = inside;
  notes = λ i d late low. notes i d (omega (arith, late)) low;
  next = next;
  are = refl;
}

-- what is read twice is the same
pub same_member : (told : List Diagnostic) (k : ℕ) (d e : Diagnostic) → k < length told → d ≡ get_or told k d → e ≡ get_or told k e → d ≡ e
same_member told k d e inside one other = one ∙ (get_or_default told k d e inside ∙ sym other)

pub own_of : {E : Type 0} (told : List Diagnostic) (r : SourceRange) (k : ℕ) (f : Diagnostic) (own : List Diagnostic) (made : Result (Vec (Bor Diagnostic) Global) E) → k < length told → f ≡ get_or told k f → f.level ≡ Error → f.source ≡ r.source
    → AreMessagesOf told k own → Any (IsIn r) own → IfOk made (λ v. AreCandidates told r.source k (map (λ d. d.now) v.items)) → IfOk made (λ v. AreOwn told r k (map (λ d. d.now) v.items))
own_of told r k f own (Err e) inside at error here messages some are = tt
own_of told r k f own (Ok v) inside at error here messages some are = within (slice_get_read told (length told) k f refl inside at) error here messages some are

pub first_more : (told : List Diagnostic) (r : SourceRange) (k : ℕ) (f : Diagnostic) (own : List Diagnostic) (before found : List Tried) → k < length told → f ≡ get_or told k f → AreFirstIn told r k before → AreOwn told r k own → found ≡ before ++ map (tried f) own
    → AreFirstIn told r (k + 1) found
first_more told r k f own before found inside at first is whole =
    let next : suc k ≡ k + 1 = omega arith in
    subst (λ (n : ℕ). AreFirstIn told r n found) next (f, (before, (own, (slice_get_read told (length told) k f refl inside at, (first, (is, whole))))))

pub all_of : (told : List Diagnostic) (r : SourceRange) (k : ℕ) (all found : List Tried) → k ≡ length told → AreFirstIn told r k all → found ≡ take most_tried all → AreCandidatesIn told r found
all_of told r k all found end first few = record { all = all; are = subst (λ (n : ℕ). AreFirstIn told r n all) end first; few = few }
