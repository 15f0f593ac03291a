-- Worked examples of each definition: the sets, an interface and a few types that it holds for, and others that it doesn't hold for.
use Rattle.std.specs.Prelude.{◌≡◌, ℕ, zero, suc, ◌<◌, List, [], ◌∷◌, ◌++◌, Option, None, Some, codes}
use Rattle.hm_types.specs.declared.Head.TheVariants as head
use Rattle.hm_types.specs.declared.entries.ValueEntry.{ValueEntry}
use Rattle.hm_types.specs.Interfaces.{Exports as Interface}
use Rattle.hm_types.specs.Monotypes.{Mono, var}
use Rattle.hm_types.specs.Schemes.{TypeScheme}
use Rattle.hm_types.specs.StandardPrelude.{prelude_interface}
use Rattle.hm_types.specs.Types.{Var, App, done, more}
use Rattle.hm_typing.specs.Names.{global}
use Rattle.hm_typing.specs.Programs.{scheme_of}
use Rattle.hm_names.specs.declared.faults.Fault.{Fault}
use Rattle.hm_names.specs.declared.faults.Kind.TheVariants.{NotImported}
use Rattle.hm_names.specs.Entities.{named}
use Rattle.hm_names.specs.Faults.Phases.{fault}
use Rattle.hm_verdicts.specs.ModuleVerdicts.{Good, Faulty, IsVerdict, IsCanonical, AreEquallyGeneral}
use Rattle.hm_verdicts.specs.Progress.{Progress, ArePublishedIn, IsSettledIn, IsSettledSoFar, Continues}
use Rattle.hm_verdicts.specs.Readings.{type_among}
use Rattle.hm_verdicts.specs.Reports.{IsAllGood, IsReported, count_line, fault_line}
use Rattle.hm_verdicts.specs.Sets.{ModuleSet, IsLawfulSet}
use Rattle.hm_verdicts.specs.Skeletons.{HasSkeleton, skeleton}
use Rattle.hm_verdicts.specs.Verdicts.{Status, Published, Failed, Skipped, ArePublished, IsSettled, IsSettledAt, IsAccepted, IsGoodIn, IsVerdictIn}
use Rattle.hm_verdicts.specs.Worked.{Z, module_A, module_B, no_modules, three_modules, three_texts}

-- ---- the three modules

abbrev pub character : TypeScheme
character = record { vars = 0; body = App (head.Named (named (codes "Prelude") (codes "Char"))) done }

abbrev pub entry_x : TypeScheme → ValueEntry
entry_x s = record { name = codes "x"; entity = named (codes "A") (codes "x"); scheme = s }

abbrev pub interface_A : Interface
interface_A = record { name = codes "A"; types = []; synonyms = []; constructors = []; values = entry_x character ∷ [] }

abbrev pub fault_Z : Fault
fault_Z = fault NotImported Z

-- A is published, B has failed, C is skipped
abbrev pub three_statuses : ℕ → Status
three_statuses zero = Published interface_A
three_statuses (suc zero) = Failed (fault_Z ∷ [])
three_statuses (suc (suc i)) = Skipped

abbrev pub for_prelude : List Interface
for_prelude = prelude_interface ∷ []

-- ---- a set

-- the plan can't omit C's import of B
abbrev pub without_import : ModuleSet
without_import = record { modules = three_modules.modules; plan = [] ∷ [] ∷ [] ∷ [] }

abbrev pub PlanRow : Type 0
PlanRow = ¬ (IsLawfulSet without_import)

-- ---- names and arities

abbrev pub blank_A : Interface
blank_A = record { name = codes "A"; types = []; synonyms = []; constructors = []; values = entry_x (record { vars = 1; body = Var (var 0) }) ∷ [] }

-- A's skeleton is its interface without the scheme of x
abbrev pub SkeletonRow : Type 0
SkeletonRow = (skeleton interface_A ≡ blank_A) × HasSkeleton three_modules 0 blank_A

-- a module that imports itself has no skeleton
abbrev pub circular : ModuleSet
circular = record { modules = module_A ∷ []; plan = (0 ∷ []) ∷ [] }

abbrev pub CircularRow : Type 0
CircularRow = (k : Interface) → ¬ (HasSkeleton circular 0 k)

-- of two entries of a variable the first counts
abbrev pub FirstEntryRow : Type 0
FirstEntryRow =
    type_among (entry_x character ∷ entry_x (record { vars = 0; body = App head.Unit done }) ∷ []) (global (named (codes "A") (codes "x"))) ≡ App (head.Named (named (codes "Prelude") (codes "Char"))) done

-- ---- the verdict of one module

-- A is good and not faulty; B is faulty for this fault, and for no other list
abbrev pub VerdictRow : Type 0
VerdictRow =
    IsVerdict module_A for_prelude (Good interface_A) × ((found : List Fault) → ¬ (IsVerdict module_A for_prelude (Faulty found)))
    × IsVerdict module_B for_prelude (Faulty (fault_Z ∷ [])) × ¬ (IsVerdict module_B for_prelude (Faulty []))

-- a -> b, with these numbers of its variables
abbrev pub function : ℕ → ℕ → TypeScheme
function a b = record { vars = 2; body = App head.Arrow (more (Var (var a)) (more (Var (var b)) done)) }

abbrev pub CanonicalRow : Type 0
CanonicalRow = IsCanonical (function 0 1) × ¬ (IsCanonical (function 1 0))

-- a is more general than Char, so they aren't equally general
abbrev pub GeneralRow : Type 0
GeneralRow = ¬ (AreEquallyGeneral (scheme_of (record { vars = 1; body = Var (var 0) })) (scheme_of character))

-- ---- the verdicts of a set

-- each module has its verdict, B isn't skipped, and C hasn't failed. Only A is good
abbrev pub SetRow : Type 0
SetRow =
    ((i : ℕ) → i < 3 → IsVerdictIn three_modules i (three_statuses i)) × ¬ (IsVerdictIn three_modules 1 Skipped) × ((found : List Fault) → ¬ (IsVerdictIn three_modules 2 (Failed found)))
    × IsGoodIn three_modules 0 × ¬ (IsGoodIn three_modules 1) × ¬ (IsGoodIn three_modules 2)

-- A can't be skipped, because it imports nothing. C can't be published, because B isn't
abbrev pub SettledRow : Type 0
SettledRow = IsSettled three_modules three_statuses × ¬ (IsSettledAt three_modules three_statuses 0 Skipped) × ((f : Interface) → ¬ (IsSettledAt three_modules three_statuses 2 (Published f)))

abbrev pub AcceptedRow : Type 0
AcceptedRow = IsAccepted three_modules three_statuses 0 × ¬ (IsAccepted three_modules three_statuses 1) × ¬ (IsAccepted three_modules three_statuses 2) × ¬ (IsAccepted three_modules (λ i. Published interface_A) 3)

-- ---- a partly judged set

-- nothing is settled, or only B is, or A and B are
abbrev pub at_first : Progress
at_first i = None

abbrev pub behind_B : Progress
behind_B zero = None
behind_B (suc zero) = Some (Failed (fault_Z ∷ []))
behind_B (suc (suc i)) = None

abbrev pub behind_A : Progress
behind_A zero = Some (Published interface_A)
behind_A (suc zero) = Some (Failed (fault_Z ∷ []))
behind_A (suc (suc i)) = None

-- if B were published
abbrev pub with_B : Progress
with_B i = Some (Published interface_A)

-- any order is possible, and settled modules stay settled. C is skipped after B has failed, not before, and not if B is published
abbrev pub ProgressRow : Type 0
ProgressRow =
    (IsSettledSoFar three_modules behind_B × IsSettledSoFar three_modules behind_A) × (Continues at_first behind_B × Continues behind_B behind_A × ¬ (Continues behind_B at_first))
    × IsSettledIn three_modules behind_B 2 Skipped × ¬ (IsSettledIn three_modules at_first 2 Skipped) × ¬ (IsSettledIn three_modules with_B 2 Skipped)

-- A's interface is the published one, in the final table and before. B has none
abbrev pub PublishedRow : Type 0
PublishedRow =
    ArePublished three_statuses (0 ∷ []) (interface_A ∷ []) × ((fs : List Interface) → ¬ (ArePublished three_statuses (0 ∷ 1 ∷ []) fs))
    × ArePublishedIn behind_A (0 ∷ []) (interface_A ∷ []) × ((fs : List Interface) → ¬ (ArePublishedIn behind_B (0 ∷ []) fs))

-- ---- reports

-- line, column, kind and name of a fault, and the numbers of good, faulty and skipped modules
abbrev pub LineRow : Type 0
LineRow = (fault_line fault_Z ≡ codes "  2:9 not-imported Z\n") × (count_line three_statuses 3 ≡ codes "3 modules: 1 good, 1 faulty, 1 skipped\n")

-- the same blocks in another order
abbrev pub disordered : List ℕ
disordered =
    codes "faulty B\n  2:9 not-imported Z\n" ++
    codes "module A\n  val x = A.x :: Char\n" ++
    codes "skipped C\n  by B\n" ++
    codes "3 modules: 1 good, 1 faulty, 1 skipped\n"

abbrev pub ReportRow : Type 0
ReportRow = IsReported three_modules three_texts × ¬ (IsReported three_modules disordered)

abbrev pub AllGoodRow : Type 0
AllGoodRow = IsAllGood no_modules three_statuses × ¬ (IsAllGood three_modules three_statuses)
