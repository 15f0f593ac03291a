-- Verdicts in a set, without interfaces (Report 5); and settled sets, in which each module has been judged by the interfaces of its imports.
use Rattle.std.specs.Prelude.{◌≡◌, ℕ, ◌<◌, true, List, [], ◌∷◌, length, ◌⊎◌, Contains}
use Rattle.hm_types.specs.declared.entries.ValueEntry.{ValueEntry}
use Rattle.hm_types.specs.Interfaces.{Exports as Interface}
use Rattle.hm_types.specs.StandardPrelude.{prelude_interface}
use Rattle.hm_typing.specs.Assignments.{Assignment, IsPrincipal}
use Rattle.hm_typing.specs.Names.{Identifier, global, IsOneOf}
use Rattle.hm_typing.specs.Verdicts.{InClosure, IsGood, IsFaulty}
use Rattle.hm_names.specs.declared.faults.Fault.{Fault}
use Rattle.hm_names.specs.Faults.Phases.{AreFaults}
use Rattle.hm_names.specs.Types.{declared_scheme}
use Rattle.hm_verdicts.specs.ModuleVerdicts.{Verdict, Good, Faulty, IsVerdict}
use Rattle.hm_names.specs.ModuleCores.{ModuleCore}
use Rattle.hm_names.specs.Cores.{IsCore}
use Rattle.hm_verdicts.specs.Readings.{Reading, prelude_variables, prelude_table}
use Rattle.hm_verdicts.specs.Sets.{ModuleSet, module_at, imports_of}
use Rattle.hm_verdicts.specs.Skeletons.{skeleton, HasSkeleton, HaveSkeletons, with_prelude}
use Rattle.hm_names.specs.Untyped.{AreToldAs}

-- module number i and all that it imports, directly or not, are well-formed and have a valid assignment, under a reading of them
abbrev pub IsGoodUnder : (p : ModuleSet) → Reading p → ℕ → Type 0
IsGoodUnder p r i = IsGood r.set (λ k. r.read k ≡ true) prelude_variables prelude_table i

abbrev pub IsGoodIn : ModuleSet → ℕ → Type 0
IsGoodIn p i = (r : Reading p) × IsGoodUnder p r i

-- a direct import isn't good
abbrev pub IsSkippedIn : ModuleSet → ℕ → Type 0
IsSkippedIn p i = (j : ℕ) × (IsOneOf j (imports_of p i) × ¬ (IsGoodIn p j))

-- module number i is good, and f is its interface: its exports, each variable with its canonical scheme in the principal assignment of the closure
pub record HasInterface (p : ModuleSet) (i : ℕ) (f : Interface) : Type 0 where
  pub reading : Reading p
  pub good : IsGoodUnder p reading i
  pub names : HasSkeleton p i (skeleton f)
  pub assignment : Assignment
  pub principal : IsPrincipal reading.set (InClosure reading.set i) prelude_variables prelude_table assignment
  pub schemes : (v : ValueEntry) → Contains f.values v → v.scheme ≡ declared_scheme (assignment (global v.entity))

-- the faults of the first phase that has any, for the names that the imports export
pub record IsIllFormedIn (p : ModuleSet) (i : ℕ) (found : List Fault) : Type 0 where
  pub skeletons : List Interface
  pub have_skeletons : HaveSkeletons p (imports_of p i) skeletons
  pub faults : AreFaults (module_at p i) (with_prelude skeletons) found

-- well-formed, with type faults under the principal assignment of all imported modules
pub record IsUntypedIn (p : ModuleSet) (i : ℕ) (found : List Fault) : Type 0 where
  pub reading : Reading p
  pub units : List Identifier
  pub faulty : IsFaulty reading.set (λ k. reading.read k ≡ true) prelude_variables prelude_table i units
  pub skeletons : List Interface
  pub have_skeletons : HaveSkeletons p (imports_of p i) skeletons
  pub core : ModuleCore
  pub is_core : IsCore (module_at p i) (with_prelude skeletons) core
  pub told : AreToldAs core units found

-- all direct imports are good, and the module has faults
pub record IsFaultyIn (p : ModuleSet) (i : ℕ) (found : List Fault) : Type 0 where
  pub imports_good : (j : ℕ) → IsOneOf j (imports_of p i) → IsGoodIn p j
  pub faults : IsIllFormedIn p i found ⊎ IsUntypedIn p i found

-- the status of a module in a judged set
pub data Status : Type 0 where
  Published : Interface → Status
  Failed : List Fault → Status
  Skipped : Status

-- the verdict of module number i in the set
abbrev pub IsVerdictIn : ModuleSet → ℕ → Status → Type 0
IsVerdictIn p i (Published f) = HasInterface p i f
IsVerdictIn p i (Failed found) = IsFaultyIn p i found
IsVerdictIn p i Skipped = IsSkippedIn p i

-- the modules with these numbers are published, with these interfaces
abbrev pub ArePublished : (ℕ → Status) → List ℕ → List Interface → Type 0
ArePublished status [] [] = Unit {0}
ArePublished status [] (f ∷ fs) = ⊥
ArePublished status (j ∷ js) [] = ⊥
ArePublished status (j ∷ js) (f ∷ fs) = (status j ≡ Published f) × ArePublished status js fs

-- module number i was judged by the published interfaces of its imports
pub record IsJudged (p : ModuleSet) (status : ℕ → Status) (i : ℕ) (v : Verdict) : Type 0 where
  pub interfaces : List Interface
  pub published : ArePublished status (imports_of p i) interfaces
  pub verdict : IsVerdict (module_at p i) (prelude_interface ∷ interfaces) v

-- one module is settled: published or failed by its verdict, or skipped because a direct import isn't published
abbrev pub IsSettledAt : ModuleSet → (ℕ → Status) → ℕ → Status → Type 0
IsSettledAt p status i (Published f) = IsJudged p status i (Good f)
IsSettledAt p status i (Failed found) = IsJudged p status i (Faulty found)
IsSettledAt p status i Skipped = (j : ℕ) × (IsOneOf j (imports_of p i) × ((f : Interface) → ¬ (status j ≡ Published f)))

-- each module of the set is settled, in any order. This holds after a build or a serial loop
abbrev pub IsSettled : ModuleSet → (ℕ → Status) → Type 0
IsSettled p status = (i : ℕ) → i < length p.modules → IsSettledAt p status i (status i)

-- module number i is accepted
abbrev pub IsAccepted : ModuleSet → (ℕ → Status) → ℕ → Type 0
IsAccepted p status i = (i < length p.modules) × ((f : Interface) × (status i ≡ Published f))

-- one principal assignment of all accepted modules has their printed schemes
pub record Accepted (p : ModuleSet) (status : ℕ → Status) : Type 0 where
  pub reading : Reading p
  pub assignment : Assignment
  pub read : (i : ℕ) → IsAccepted p status i → reading.read i ≡ true
  pub principal : IsPrincipal reading.set (IsAccepted p status) prelude_variables prelude_table assignment
  pub schemes : (i : ℕ) (f : Interface) → i < length p.modules → status i ≡ Published f → (v : ValueEntry) → Contains f.values v → v.scheme ≡ declared_scheme (assignment (global v.entity))
