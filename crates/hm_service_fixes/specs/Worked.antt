-- Worked examples: places after a change, phases of faults, and changes that are fixes and that aren't.
use Rattle.std.specs.Prelude.{◌≡◌, ℕ, zero, suc, [], ◌∷◌, false, true}
use Rattle.hm_lex.specs.declared.token.Place.{Place}
use Rattle.hm_names.specs.declared.faults.Fault.{Fault}
use Rattle.hm_names.specs.declared.faults.Kind.TheVariants.{NotExported, NotImported, Unbound, Untyped}
use Rattle.hm_service_fixes.specs.Fixes.{IsFix, IsSameFault, IsStill}
use Rattle.hm_service_fixes.specs.Judged.{JudgedSet}
use Rattle.hm_service_fixes.specs.Moves.{IsMoved}
use Rattle.hm_service_fixes.specs.Phases.{IsEarlier}
use Rattle.hm_service_fixes.specs.declared.changes.SourceChange.{SourceChange}
use Rattle.hm_service_fixes.specs.declared.moves.Replacement.{Replacement}
use Rattle.hm_types.specs.Interfaces.{Exports as Interface}
use Rattle.hm_verdicts.specs.Verdicts.{Failed, Published, Skipped, Status}
use Rattle.hm_verdicts.specs.Worked.{module_A, module_C}

abbrev pub at : ℕ → ℕ → Place
at line column = record { line = line; column = column }

-- nine letters in place of the eight of `replicat`, which begins in line 1 at column 10
abbrev pub one_letter : Replacement
one_letter = record { start = at 1 10; end = at 1 18; new_end = at 1 19 }

-- a place after the name moves by one column, one before it and one in another line stay, and one in it is nowhere
pub record MovesRow : Type 0 where
  pub later : IsMoved one_letter (at 1 20) (at 1 21)
  pub not_here : ¬ (IsMoved one_letter (at 1 20) (at 1 20))
  pub ahead : IsMoved one_letter (at 1 9) (at 1 9)
  pub below : IsMoved one_letter (at 2 3) (at 2 3)
  pub inside : (q : Place) → ¬ (IsMoved one_letter (at 1 12) q)

-- names are resolved before types are found. A name that isn't in scope may be in the export list, and so in a phase with an import that is missing there
pub record PhasesRow : Type 0 where
  pub types : IsEarlier Unbound Untyped
  pub imports : IsEarlier NotExported Unbound
  pub not_names : ¬ (IsEarlier Untyped Unbound)
  pub not_exports : ¬ (IsEarlier NotImported Unbound)

-- module A with a verdict
abbrev pub one : Status → JudgedSet
one s = record { set = record { modules = module_A ∷ []; plan = [] ∷ [] }; status = λ i. s; sources = 0 ∷ []; checked = true }

abbrev pub two_statuses : Status → Status → ℕ → Status
two_statuses s t zero = s
two_statuses s t (suc i) = t

-- modules A and C with their verdicts
abbrev pub two : Status → Status → JudgedSet
two s t = record { set = record { modules = module_A ∷ module_C ∷ []; plan = [] ∷ [] ∷ [] }; status = two_statuses s t; sources = 0 ∷ 1 ∷ []; checked = true }

-- A change after which the module is good is a fix, also if its source wasn't checked before. So is one after which a type fault shows that another fault had hidden. A change isn't a fix if the
-- fault stays, if the module has another fault of the same phase then, if it is skipped then, or if a module that was accepted is
pub record FixRow : Type 0 where
  pub good : (f : Fault) (i : Interface) (c : SourceChange) → IsFix (one (Failed (f ∷ []))) (one (Published i)) c
  pub hidden : (f g : Fault) (c : SourceChange) → f.kind ≡ Unbound → g.kind ≡ Untyped → ¬ (IsStill c g) → IsFix (one (Failed (f ∷ []))) (one (Failed (g ∷ []))) c
  pub not_still : (before : JudgedSet) (f : Fault) (c : SourceChange) → c.source ≡ 0 → IsStill c f → ¬ (IsFix before (one (Failed (f ∷ []))) c)
  pub not_elsewhere : (f g : Fault) (c : SourceChange) → c.source ≡ 0 → f.kind ≡ Untyped → ¬ (IsSameFault c.replaced f g) → ¬ (IsFix (one (Failed (f ∷ []))) (one (Failed (g ∷ []))) c)
  pub not_importer : (f : Fault) (i j : Interface) (c : SourceChange) → ¬ (IsFix (two (Failed (f ∷ [])) (Published j)) (two (Published i) Skipped) c)
  pub unread : (before : JudgedSet) (i : Interface) (c : SourceChange) → before.checked ≡ false → IsFix before (one (Published i)) c
  pub not_skipped : (f : Fault) (c : SourceChange) → c.source ≡ 0 → ¬ (IsFix (one (Failed (f ∷ []))) (one Skipped) c)
