-- The worked examples of types that are expected of names.
use Rattle.std.proofs.Common.{◌≡◌, ℕ, List, [], ◌∷◌, ◌++◌, All, length, take, drop, get_or, inl, inr, refl, ap, arith}
use Rattle.std.specs.Prelude.{codes}
use Rattle.std.proofs.lemmas.List.Elements.{All-contains, All-cons}
use Rattle.hm_types.specs.Interfaces.{Exports as Interface}
use Rattle.hm_names.specs.declared.faults.Fault.{Fault}
use Rattle.hm_names.specs.declared.faults.Kind.TheVariants.{Unbound, Untyped}
use Rattle.hm_messages_changes.specs.Blanks.{replaced}
use Rattle.hm_messages_expected.specs.Expected.{IsDefined, IsExpected, IsOpened, placeholder}
use Rattle.hm_messages_expected.specs.WorkedExpected.{ExpectedRow, OpenedRow, faults, g, opened, source}
use Rattle.hm_messages_here.specs.TypesHere.{HasTypeAt}
use Rattle.hm_messages_hidden.specs.Hidden.{IsOutOfScope, IsReplaced}
use Rattle.hm_messages_trials.specs.Worked.{at_column, reported_by}

none : {X : Type 0} (P : X → Type 0) → All P []
none P i d l = absurd (omega (arith, l))

only : {X : Type 0} (P : X → Type 0) (x : X) → P x → All P (x ∷ [])
only P x h = All-cons P x [] h (none P)

g_out : IsOutOfScope faults (codes "g")
g_out = record { fault = reported_by Unbound (codes "g"); among = (0, omega arith, refl); unbound = refl; named = refl }

opened_g : IsOpened source faults g opened
opened_g = record {
  at = 20;
  after = omega arith;
  within = omega arith;
  names = placeholder ∷ [];
  defined = only (IsDefined faults) placeholder (inl refl);
  definitions = [];
  removed = none (IsReplaced source faults);
  changed_is = refl;
}

not_none : (before rest : List ℕ) → ¬ ([] ≡ before ++ (placeholder ++ rest))
not_none [] rest e = absurd (omega (arith, ap length e))
not_none (b ∷ before) rest e = absurd (omega (arith, ap length e))

not_empty : ¬ (IsOpened source faults g [])
not_empty h = not_none (take 17 (replaced source h.at h.names h.definitions)) (drop 18 (replaced source h.at h.names h.definitions)) h.changed_is

f_letter : codes "g" ≡ codes "f" → ◌≡◌ {A = ℕ} 103 102
f_letter e = ap (λ (l : List ℕ). get_or l 0 0) e

not_named : IsOutOfScope faults (codes "f") → ⊥
not_named h =
    All-contains (λ (f : Fault). ¬ (f.name ≡ codes "f")) faults h.fault (only (λ (f : Fault). ¬ (f.name ≡ codes "f")) (reported_by Unbound (codes "g")) (λ e. absurd (omega (arith, f_letter e)))) h.among h.named

f_in : ¬ (IsDefined faults (codes "f"))
f_in (inl e) = absurd (omega (arith, ap length e))
f_in (inr h) = not_named h

pub worked_opened : OpenedRow
worked_opened = record { opened = opened_g; not_empty = not_empty; out = inr g_out; placeholder = inl refl; in_scope = f_in }

of_g : HasTypeAt opened (codes "Main") [] (at_column 18) placeholder (codes "f") (codes "a -> b") (codes "a -> b") → IsExpected source (codes "Main") [] faults (reported_by Unbound (codes "g")) (codes "a -> b")
of_g typed = record {
  unbound = refl;
  definition = codes "f";
  own = codes "a -> b";
  here = codes "a -> b";
  typed = record {
    part = g;
    part_is = record { some = omega arith; within = omega arith; start_is = refl; end_is = refl };
    starts = refl;
    written = refl;
    changed = opened;
    opened = opened_g;
    typed = typed;
  };
  shown = inl refl;
}

not_untyped : ¬ (Untyped ≡ Unbound)
not_untyped e = cc

of_type_fault : (source name : List ℕ) (fs : List Interface) (faults : List Fault) (text : List ℕ) → ¬ (IsExpected source name fs faults (reported_by Untyped (codes "g")) text)
of_type_fault s name fs found text h = not_untyped h.unbound

pub worked_types : ExpectedRow
worked_types = record { of_g = of_g; of_type_fault = of_type_fault }
