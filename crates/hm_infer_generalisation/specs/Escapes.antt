-- Rigid variables that escape: those in the value of an older variable (Damas and Milner 1982, section 5: the variables of a declared type aren't
-- free in the assumptions). Only inference cites this.
use Rattle.std.specs.Prelude.{ℕ, ◌+◌, ◌<◌, Result, Ok, Err}
use Rattle.hm_types.specs.Monotypes.{rigid}
use Rattle.hm_typing.specs.Problems.{MostGeneralUnifier}
use Rattle.hm_unify.specs.Levels.{IsOuter}
use Rattle.hm_unify.specs.Solving.{Solving}
use Rattle.hm_unify.specs.declared.faults.UnifyFault.{UnifyFault}
use Rattle.hm_unify.specs.declared.faults.UnifyFault.TheVariants.{Clash, Memory}
use Rattle.hm_infer_generalisation.specs.Generalisations.{IsSolution}
use Rattle.hm_infer_context.specs.Problems.{problem}

-- a rigid variable from number i on occurs in the value of a variable that was given before them
abbrev pub Escapes : ℕ → Solving → ℕ → Type 0
Escapes first s i = IsOuter s.equations first (rigid (first + i))

-- Ok: none of n rigid variables escapes. Clash: one does
abbrev pub TellsEscape : {X : Type 0} → ℕ → ℕ → Solving → Result X UnifyFault → Type 0
TellsEscape first count s (Ok x) = (m : MostGeneralUnifier (problem s)) × (IsSolution s.equations m.map × ((i : ℕ) → i < count → ¬ (Escapes first s i)))
TellsEscape first count s (Err Clash) = (m : MostGeneralUnifier (problem s)) × (IsSolution s.equations m.map × ((i : ℕ) × ((i < count) × Escapes first s i)))
TellsEscape first count s (Err Memory) = Unit {0}
