-- Worked examples of fixes.
use Rattle.std.proofs.Common.{◌≡◌, ◌∙◌, ◌<◌, ◌≤◌, ℕ, zero, suc, Contains, List, [], ◌∷◌, Some, arith, ap, codes, false, get_or, inl, inr, refl, subst, sym, true}
use Rattle.std.proofs.lemmas.Bool.{false≢true}
use Rattle.hm_lex.specs.declared.token.Place.{Place}
use Rattle.hm_names.specs.declared.faults.Fault.{Fault}
use Rattle.hm_names.specs.declared.faults.Kind.{Kind}
use Rattle.hm_names.specs.declared.faults.Kind.TheVariants.{NotExported, Duplicate, NoBinding, Unbound, Ambiguous, ExportClash, NotImported, NonLinear, Arity, ClauseLength, Untyped, Recursive}
use Rattle.hm_service_fixes.specs.Fixes.{IsFix, IsKnown, IsSameFault, IsSkipKnown, IsStill, had, left_out, skipped, unchecked}
use Rattle.hm_service_fixes.specs.Judged.{HasAccepted, HasFaultAt, IsNamed, JudgedSet}
use Rattle.hm_service_fixes.specs.Moves.{IsMoved, ahead, after, below, on_line}
use Rattle.hm_service_fixes.specs.Phases.{IsEarlier, first_phase}
use Rattle.hm_service_fixes.specs.Worked.{FixRow, MovesRow, PhasesRow, at, one, one_letter, two}
use Rattle.hm_service_fixes.specs.declared.changes.SourceChange.{SourceChange}
use Rattle.hm_types.specs.Interfaces.{Exports as Interface}
use Rattle.hm_verdicts.specs.Verdicts.{Failed, IsAccepted, Published, Skipped, Status}

-- Places

not_here : ¬ (IsMoved one_letter (at 1 20) (at 1 20))
not_here (ahead (inl low) same) = absurd (omega (arith, low))
not_here (ahead (inr low) same) = let less = low.1 in absurd (omega (arith, less))
not_here (after (on_line line past there moved)) = absurd (omega (arith, moved))
not_here (after (below low there same)) = absurd (omega (arith, low))

inside : (q : Place) → ¬ (IsMoved one_letter (at 1 12) q)
inside q (ahead (inl low) same) = absurd (omega (arith, low))
inside q (ahead (inr low) same) = let less = low.1 in absurd (omega (arith, less))
inside q (after (on_line line past there moved)) = absurd (omega (arith, past))
inside q (after (below low there same)) = absurd (omega (arith, low))

pub worked_moves : MovesRow
worked_moves = record {
  later = after (on_line refl (omega arith) refl (omega arith));
  not_here = not_here;
  ahead = ahead (inr (refl, omega arith)) refl;
  below = after (below (omega arith) (omega arith) refl);
  inside = inside;
}

pub worked_phases : PhasesRow
worked_phases = record { types = omega arith; imports = omega arith; not_names = λ low. omega (arith, low); not_exports = λ low. omega (arith, low) }

-- Verdicts

failed_published : (found : List Fault) (i : Interface) → Failed found ≡ Published i → ⊥
failed_published found i e = cc

published_failed : (found : List Fault) (i : Interface) → Published i ≡ Failed found → ⊥
published_failed found i e = cc

failed_skipped : (found : List Fault) → Failed found ≡ Skipped → ⊥
failed_skipped found e = cc

published_skipped : (i : Interface) → Published i ≡ Skipped → ⊥
published_skipped i e = cc

skipped_published : (i : Interface) → Skipped ≡ Published i → ⊥
skipped_published i e = cc

abbrev faults_of : Status → List Fault
faults_of (Published i) = []
faults_of (Failed found) = found
faults_of Skipped = []

same_faults : (found others : List Fault) → Failed found ≡ Failed others → found ≡ others
same_faults found others e = ap faults_of e

only_in : (k : ℕ) (f g : Fault) → k < 1 → get_or (f ∷ []) k g ≡ g → g ≡ f
only_in zero f g low is = sym is
only_in (suc k) f g low is = absurd (omega (arith, low))

only : (f g : Fault) → Contains (f ∷ []) g → g ≡ f
only f g h = only_in h.0 f g h.1 h.2

one_fault : (f g : Fault) (found : List Fault) → Failed (f ∷ []) ≡ Failed found → Contains found g → g ≡ f
one_fault f g found is among = only f g (subst (λ l. Contains l g) (sym (same_faults (f ∷ []) found is)) among)

no_fault : (i : Interface) (n : ℕ) (x : List ℕ) (g : Fault) → ¬ (HasFaultAt (one (Published i)) n x g)
no_fault i n x g h = published_failed h.found i h.failed.failed

no_accepted : (found : List Fault) (x : List ℕ) → ¬ (HasAccepted (one (Failed found)) x)
no_accepted found x h = failed_published found h.accepted.1.0 h.accepted.1.1

has_fault : (f : Fault) (n : ℕ) → n ≡ 0 → HasFaultAt (one (Failed (f ∷ []))) n (codes "A") f
has_fault f n is = record {
  number = 0;
  found = f ∷ [];
  failed = record { named = record { inside = omega arith; named = refl }; failed = refl };
  own = ap Some (sym is);
  among = (0, omega arith, refl);
}

earlier : (k l : Kind) → k ≡ Unbound → l ≡ Untyped → IsEarlier k l
earlier k l is same = subst (λ j. IsEarlier j l) (sym is) (subst (IsEarlier Unbound) (sym same) (omega arith))

at_most : (l : Kind) → first_phase l ≤ 6
at_most NotExported = omega arith
at_most Duplicate = omega arith
at_most NoBinding = omega arith
at_most Unbound = omega arith
at_most Ambiguous = omega arith
at_most ExportClash = omega arith
at_most NotImported = omega arith
at_most NonLinear = omega arith
at_most Arity = omega arith
at_most ClauseLength = omega arith
at_most Untyped = omega arith
at_most Recursive = omega arith

latest_of : (l : Kind) → ¬ (IsEarlier Untyped l)
latest_of l low = let most = at_most l in omega (arith, most, low)

latest : (k l : Kind) → k ≡ Untyped → ¬ (IsEarlier k l)
latest k l is low = latest_of l (subst (λ j. IsEarlier j l) is low)

good : (f : Fault) (i : Interface) (c : SourceChange) → IsFix (one (Failed (f ∷ []))) (one (Published i)) c
good f i c = record {
  checked = refl;
  gone = λ x g h. absurd (no_fault i c.source x g h);
  accepted = λ on x h. absurd (no_accepted (f ∷ []) x h);
  known = λ x g h. absurd (no_fault i c.source x g h);
  skips = λ x h. absurd (published_skipped i h.skipped.1);
}

hidden : (f g : Fault) (c : SourceChange) → f.kind ≡ Unbound → g.kind ≡ Untyped → ¬ (IsStill c g) → IsFix (one (Failed (f ∷ []))) (one (Failed (g ∷ []))) c
hidden f g c names types gone = record {
  checked = refl;
  gone = λ x d h. subst (λ e. ¬ (IsStill c e)) (sym (one_fault g d h.found h.failed.failed h.among)) gone;
  accepted = λ on x h. absurd (no_accepted (f ∷ []) x h);
  known = λ x d h. left_out {i = h.number} {found = f ∷ []} {f = f} (record { named = record { inside = h.failed.named.inside; named = h.failed.named.named }; failed = refl }) (0, omega arith, refl)
      (earlier f.kind d.kind names (ap (λ (e : Fault). e.kind) (one_fault g d h.found h.failed.failed h.among) ∙ types));
  skips = λ x h. absurd (failed_skipped (g ∷ []) h.skipped.1);
}

not_still : (before : JudgedSet) (f : Fault) (c : SourceChange) → c.source ≡ 0 → IsStill c f → ¬ (IsFix before (one (Failed (f ∷ []))) c)
not_still before f c first still fix = fix.gone (codes "A") f (has_fault f c.source first) still

not_known : (f g : Fault) (c : SourceChange) → f.kind ≡ Untyped → ¬ (IsSameFault c.replaced f g) → ¬ (IsKnown (one (Failed (f ∷ []))) c (codes "A") g)
not_known f g c types apart (unchecked clear) = false≢true (sym clear)
not_known f g c types apart (skipped is) = failed_skipped (f ∷ []) is.1
not_known f g c types apart (had {i} {found} {f = d} failed among same) = apart (subst (λ e. IsSameFault c.replaced e g) (one_fault f d found failed.failed among) same)
not_known f g c types apart (left_out {i} {found} {f = d} failed among low) = latest d.kind g.kind (ap (λ (e : Fault). e.kind) (one_fault f d found failed.failed among) ∙ types) low

not_elsewhere : (f g : Fault) (c : SourceChange) → c.source ≡ 0 → f.kind ≡ Untyped → ¬ (IsSameFault c.replaced f g) → ¬ (IsFix (one (Failed (f ∷ []))) (one (Failed (g ∷ []))) c)
not_elsewhere f g c first types apart fix = not_known f g c types apart (fix.known (codes "A") g (has_fault g c.source first))

accepted_C : (found : List Fault) (j : Interface) → HasAccepted (two (Failed found) (Published j)) (codes "C")
accepted_C found j = record { number = 1; named = record { inside = omega arith; named = refl }; accepted = (omega arith, (j, refl)) }

A_not_C : codes "A" ≡ codes "C" → ⊥
A_not_C e = let z = ap (λ (l : List ℕ). get_or l 0 0) e in omega (arith, z)

-- of the modules A and C only A is accepted
no_C_at : (i : Interface) (n : ℕ) → IsNamed (two (Published i) Skipped) (codes "C") n → ¬ (IsAccepted (two (Published i) Skipped).set (two (Published i) Skipped).status n)
no_C_at i zero named h = A_not_C named.named
no_C_at i (suc n) named h = skipped_published h.1.0 h.1.1

no_C : (i : Interface) → ¬ (HasAccepted (two (Published i) Skipped) (codes "C"))
no_C i h = no_C_at i h.number h.named h.accepted

not_importer : (f : Fault) (i j : Interface) (c : SourceChange) → ¬ (IsFix (two (Failed (f ∷ [])) (Published j)) (two (Published i) Skipped) c)
not_importer f i j c fix = no_C i (fix.accepted refl (codes "C") (accepted_C (f ∷ []) j))

not_hidden : (f : Fault) → ¬ (IsSkipKnown (one (Failed (f ∷ []))) (codes "A"))
not_hidden f (inl clear) = false≢true (sym clear)
not_hidden f (inr is) = failed_skipped (f ∷ []) is.1.1

not_skipped : (f : Fault) (c : SourceChange) → c.source ≡ 0 → ¬ (IsFix (one (Failed (f ∷ []))) (one Skipped) c)
not_skipped f c first fix = not_hidden f (fix.skips (codes "A") (record { number = 0; skipped = (record { inside = omega arith; named = refl }, refl); own = ap Some (sym first) }))

unread : (before : JudgedSet) (i : Interface) (c : SourceChange) → before.checked ≡ false → IsFix before (one (Published i)) c
unread before i c clear = record {
  checked = refl;
  gone = λ x g h. absurd (no_fault i c.source x g h);
  accepted = λ on x h. absurd (false≢true (sym clear ∙ on));
  known = λ x g h. absurd (no_fault i c.source x g h);
  skips = λ x h. absurd (published_skipped i h.skipped.1);
}

pub worked_fixes : FixRow
worked_fixes = record { good = good; unread = unread; hidden = hidden; not_still = not_still; not_elsewhere = not_elsewhere; not_importer = not_importer; not_skipped = not_skipped }
