-- Worked examples of faults that follow from a signature, and of faults that don't.
use Rattle.std.specs.Prelude.{ℕ, List, [], ◌∷◌, codes}
use Rattle.hm_names.specs.declared.faults.Fault.{Fault}
use Rattle.hm_names.specs.declared.faults.Kind.TheVariants.{Untyped}
use Rattle.hm_verdicts.specs.ModuleVerdicts.{Faulty}
use Rattle.hm_messages_trials.specs.TypedSources.{AreTyped}

abbrev pub fault_of : List ℕ → Fault
fault_of x = record { place = record { line = 1; column = 1 }; kind = Untyped; name = x }

-- f and g have types where h is the only type fault. Where g is one, f has a type and f with g hasn't
pub record CauseRow : Type 0 where
  pub both : AreTyped (codes "f" ∷ codes "g" ∷ []) (Faulty (fault_of (codes "h") ∷ []))
  pub one : AreTyped (codes "f" ∷ []) (Faulty (fault_of (codes "g") ∷ []))
  pub not_both : ¬ (AreTyped (codes "f" ∷ codes "g" ∷ []) (Faulty (fault_of (codes "g") ∷ [])))
