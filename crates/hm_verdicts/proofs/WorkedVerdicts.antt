-- The worked sets, types and tables have what is said of them, and the others haven't.
use Rattle.std.proofs.Common.{◌≡◌, ℕ, zero, suc, ◌<◌, List, [], ◌∷◌, Option, None, Some, inl, refl, sym, ap, ap₂, ◌∙◌, subst, arith, codes}
use Rattle.hm_types.specs.declared.Head.{Head}
use Rattle.hm_types.specs.declared.Head.TheVariants as head
use Rattle.hm_types.specs.Interfaces.{Exports as Interface}
use Rattle.hm_types.specs.Monotypes.{Leaf, Mono, var, rigid}
use Rattle.hm_types.specs.Types.{Args, Ty, Var, App, done, more}
use Rattle.hm_typing.specs.Schemes.{Monotype}
use Rattle.hm_names.specs.declared.faults.Fault.{Fault}
use Rattle.hm_names.proofs.Members.{none_in, first}
use Rattle.hm_verdicts.specs.ModuleVerdicts.{Verdict, Good, Faulty}
use Rattle.hm_verdicts.specs.Progress.{IsSettledIn, IsSettledSoFar, Continues, ArePublishedIn}
use Rattle.hm_verdicts.specs.Sets.{imports_of}
use Rattle.hm_verdicts.specs.Skeletons.{HasSkeleton, HaveSkeletons, of_module, none, one_more}
use Rattle.hm_verdicts.specs.Verdicts.{Status, Published, Failed, Skipped, ArePublished}
use Rattle.hm_verdicts.specs.Worked.{module_A, module_B, three_modules, three_texts}
use Rattle.hm_verdicts.specs.WorkedVerdicts
use Rattle.hm_verdicts.specs.WorkedVerdicts.{at_first, behind_A, behind_B, circular, disordered, fault_Z, for_prelude, interface_A, three_statuses}
use Rattle.hm_verdicts.proofs.Composition.{settled_verdict, accepted_good}
use Rattle.hm_verdicts.proofs.Entries.{not_failed}
use Rattle.hm_verdicts.proofs.OneModuleVerdict.{one_module_verdict}
use Rattle.hm_verdicts.proofs.OneReport.{one_text}
use Rattle.hm_verdicts.proofs.OneVerdict.{one_verdict}
use Rattle.hm_verdicts.proofs.WorkedModules.{good_A, faulty_B}
use Rattle.hm_verdicts.proofs.WorkedPlan.{head_of, three_lawful}
use Rattle.hm_verdicts.proofs.WorkedReport.{count_of, digit, fault_text, settled, three_reported}

pub plan : WorkedVerdicts.PlanRow
plan h = none_in 1 (((h.planned.each 2 (omega arith)).members 1).1 (omega arith, first (codes "B") []))

-- ---- names and arities

pub skeleton : WorkedVerdicts.SkeletonRow
skeleton = (refl, (settled_verdict three_modules three_lawful three_statuses settled 0 (omega arith)).names)

number_or : ℕ → List ℕ → ℕ
number_or d [] = d
number_or d (j ∷ js) = j

mutual
  unfolding number_or

  never : {i : ℕ} {k : Interface} → HasSkeleton circular i k → i ≡ 0 → ⊥
  never (of_module hs s) e = never_all hs (ap (imports_of circular) e)

  never_all : {js : List ℕ} {ks : List Interface} → HaveSkeletons circular js ks → js ≡ 0 ∷ [] → ⊥
  never_all none e = let q : 1 ≡ 0 = ap (number_or 1) e in absurd (omega (arith, q))
  never_all (one_more h hs) e = never h (ap (number_or 0) e)

pub circle : WorkedVerdicts.CircularRow
circle k h = never h refl

pub first_entry : WorkedVerdicts.FirstEntryRow
first_entry = refl

-- ---- the verdict of one module

goodness : Verdict → ℕ
goodness (Good f) = 1
goodness (Faulty found) = 0

faults_or : List Fault → Verdict → List Fault
faults_or d (Good f) = d
faults_or d (Faulty found) = found

faults : List Fault → ℕ
faults [] = 0
faults (f ∷ fs) = 1

pub verdict : WorkedVerdicts.VerdictRow
unfolding goodness faults_or faults
verdict = (
  good_A,
  (λ found h. let e = one_module_verdict module_A for_prelude (Good interface_A) (Faulty found) good_A h in let q : 1 ≡ 0 = ap goodness e in absurd (omega (arith, q))),
  faulty_B,
  (λ h. let e = one_module_verdict module_B for_prelude (Faulty (fault_Z ∷ [])) (Faulty []) faulty_B h in let q : 1 ≡ 0 = ap (λ v. faults (faults_or [] v)) e in absurd (omega (arith, q))),
)

leaf_number : Leaf → ℕ
leaf_number (var n) = n
leaf_number (rigid n) = n

number_of : Mono → ℕ
number_of (Var l) = leaf_number l
number_of (App h ts) = 0

first_number : Mono → ℕ
first_number (Var l) = leaf_number l
first_number (App h done) = 0
first_number (App h (more t ts)) = number_of t

pub canonical : WorkedVerdicts.CanonicalRow
unfolding first_number number_of leaf_number
canonical = (record { not_rigid = (tt, (tt, tt)); numbered = refl }, (λ c. let q : 1 ≡ 0 = ap (λ s. first_number s.body) c.numbered in absurd (omega (arith, q))))

is_unit : Monotype → ℕ
is_unit (Var n) = 0
is_unit (App head.Unit ts) = 1
is_unit (App h ts) = 0

pub general : WorkedVerdicts.GeneralRow
unfolding is_unit
general h =
    let t : Monotype = App head.Unit done in
    let i = h.0 t (λ k. t, refl) in
    let q : 1 ≡ 0 = ap is_unit i.1 in absurd (omega (arith, q))

-- ---- the verdicts of a set

standing : Status → ℕ
standing (Published f) = 0
standing (Failed found) = 1
standing Skipped = 2

not_skipped : (f : Interface) → ¬ (Skipped ≡ Published f)
unfolding standing
not_skipped f e = let q : 2 ≡ 0 = ap standing e in absurd (omega (arith, q))

has_not_failed : (found : List Fault) → ¬ (Failed found ≡ Skipped)
unfolding standing
has_not_failed found e = let q : 1 ≡ 2 = ap standing e in absurd (omega (arith, q))

pub set : WorkedVerdicts.SetRow
set = (
  (λ i l. settled_verdict three_modules three_lawful three_statuses settled i l),
  (λ h. h.1.0),
  (λ found h. has_not_failed found (one_verdict three_modules three_lawful 2 (Failed found) Skipped h (settled_verdict three_modules three_lawful three_statuses settled 2 (omega arith)))),
  (accepted_good three_modules three_lawful three_statuses settled 0 (omega arith)).0 (omega arith, (interface_A, refl)),
  (λ g. let a = (accepted_good three_modules three_lawful three_statuses settled 1 (omega arith)).1 g in not_failed a.1.0 (fault_Z ∷ []) a.1.1),
  (λ g. let a = (accepted_good three_modules three_lawful three_statuses settled 2 (omega arith)).1 g in not_skipped a.1.0 a.1.1),
)

not_published : (fs : List Interface) → ¬ (ArePublished three_statuses (1 ∷ []) fs)
not_published [] h = h
not_published (f ∷ fs) h = not_failed f (fault_Z ∷ []) h.0

pub settled_table : WorkedVerdicts.SettledRow
settled_table = (settled, (λ h. h.1.0), (λ f h. not_published h.interfaces h.published))

pub accepted : WorkedVerdicts.AcceptedRow
accepted = (
  (omega arith, (interface_A, refl)),
  (λ a. not_failed a.1.0 (fault_Z ∷ []) a.1.1),
  (λ a. not_skipped a.1.0 a.1.1),
  (λ a. let l : 3 < 3 = a.0 in absurd (omega (arith, l))),
)

-- ---- a set that is being judged

known : Option Status → ℕ
known None = 0
known (Some s) = 1

unknown : (s : Status) → ¬ (None ≡ Some s)
unfolding known
unknown s e = let q : 0 ≡ 1 = ap known e in absurd (omega (arith, q))

status_or : Status → Option Status → Status
status_or d None = d
status_or d (Some s) = s

some_once : (s t : Status) → Some s ≡ Some t → s ≡ t
unfolding status_or
some_once s t e = ap (status_or s) e

so_far_B : IsSettledSoFar three_modules behind_B
so_far_B zero s e = absurd (unknown s e)
so_far_B (suc zero) s e = subst (λ z. IsSettledIn three_modules behind_B 1 z) (some_once (Failed (fault_Z ∷ [])) s e) (record { interfaces = []; published = tt; verdict = faulty_B })
so_far_B (suc (suc i)) s e = absurd (unknown s e)

so_far_A : IsSettledSoFar three_modules behind_A
so_far_A zero s e = subst (λ z. IsSettledIn three_modules behind_A 0 z) (some_once (Published interface_A) s e) (record { interfaces = []; published = tt; verdict = good_A })
so_far_A (suc zero) s e = subst (λ z. IsSettledIn three_modules behind_A 1 z) (some_once (Failed (fault_Z ∷ [])) s e) (record { interfaces = []; published = tt; verdict = faulty_B })
so_far_A (suc (suc i)) s e = absurd (unknown s e)

goes_on : Continues behind_B behind_A
goes_on zero s e = absurd (unknown s e)
goes_on (suc zero) s e = e
goes_on (suc (suc i)) s e = absurd (unknown s e)

pub progress : WorkedVerdicts.ProgressRow
progress = (
  (so_far_B, so_far_A),
  ((λ i s e. absurd (unknown s e)), goes_on, (λ c. unknown (Failed (fault_Z ∷ [])) (c 1 (Failed (fault_Z ∷ [])) refl))),
  (1, (inl refl, tt)),
  (λ h. h.1.1),
  (λ h. h.1.1),
)

none_published : (fs : List Interface) → ¬ (ArePublished three_statuses (0 ∷ 1 ∷ []) fs)
none_published [] h = h
none_published (f ∷ fs) h = not_published fs h.1

none_yet : (fs : List Interface) → ¬ (ArePublishedIn behind_B (0 ∷ []) fs)
none_yet [] h = h
none_yet (f ∷ fs) h = unknown (Published f) h.0

pub published : WorkedVerdicts.PublishedRow
published = ((refl, tt), none_published, (refl, tt), none_yet)

-- ---- reports

pub line : WorkedVerdicts.LineRow
line = (sym fault_text, sym (ap₂ count_of (sym (digit 3 (omega arith))) (sym (digit 1 (omega arith)))))

pub report : WorkedVerdicts.ReportRow
report = (three_reported, (λ h. let e = one_text three_modules three_lawful three_texts disordered three_reported h in let q : 109 ≡ 102 = ap head_of e in absurd (omega (arith, q))))

pub all_good : WorkedVerdicts.AllGoodRow
all_good = (refl, (λ e. let q : 1 ≡ 3 = e in absurd (omega (arith, q))))
