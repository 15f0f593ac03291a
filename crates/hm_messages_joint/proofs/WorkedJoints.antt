-- The worked holes and type faults.
use Rattle.std.proofs.Common.{◌≡◌, ℕ, List, [], ◌∷◌, All, Contains, length, get_or, refl, ap, subst, arith}
use Rattle.std.specs.Prelude.{codes}
use Rattle.std.proofs.lemmas.List.Elements.{All-contains, All-cons}
use Rattle.hm_types.specs.Interfaces.{Exports as Interface}
use Rattle.hm_types.specs.StandardPrelude.{prelude_interface}
use Rattle.hm_syntax.specs.declared.ast.Module.{Module}
use Rattle.hm_run_sources.specs.SourceModules.{HasModules}
use Rattle.hm_names.specs.Imports.{AreImportsOf}
use Rattle.hm_names.specs.declared.faults.Fault.{Fault}
use Rattle.hm_names.specs.declared.faults.Kind.TheVariants.{NotImported, Untyped}
use Rattle.hm_verdicts.specs.ModuleVerdicts.{Verdict, Good, Faulty, IsVerdict}
use Rattle.hm_verdicts.specs.Worked.{module_A, module_B}
use Rattle.hm_verdicts.specs.WorkedVerdicts.{fault_Z, interface_A}
use Rattle.hm_verdicts.proofs.OneModuleVerdict.{one_module_verdict}
use Rattle.hm_verdicts.proofs.WorkedModules.{faulty_B, good_A}
use Rattle.hm_messages_trials.proofs.WorkedHoles.{only_module}
use Rattle.hm_messages_changes.specs.Wildcards.{IsInside}
use Rattle.hm_messages_changes.specs.declared.data.Frame.TheVariants.{Where}
use Rattle.hm_messages_trials.specs.Worked.{part, span}
use Rattle.hm_messages_joint.specs.Joints.{HasFaultOf, IsFaultOf, IsOpened, IsUntypedIn}
use Rattle.hm_messages_joint.specs.Worked.{BothRow, UntypedRow, pattern}

none : {X : Type 0} (P : X → Type 0) → All P []
none P i d l = absurd (omega (arith, l))

-- a hole isn't `_`
no_hole : ¬ (IsOpened (codes "f [x] = x") (pattern 2 5) (codes "f (let { h = h } in h) = x"))
no_hole p = let different : 40 ≡ 95 = ap (λ (l : List ℕ). get_or l 2 0) p.made_is in absurd (omega (arith, different))

pub worked_both : BothRow
worked_both = record {
  argument = refl;
  arguments = refl;
  one_stays = λ e. absurd (omega (arith, ap length e));
  pattern_opened = record {
    at = 9;
    after = omega arith;
    within = omega arith;
    frame = Where;
    variables = span 3 4 ∷ [];
    inside = All-cons (IsInside (part 2 5)) (span 3 4) [] (omega arith, omega arith, omega arith) (none (IsInside (part 2 5)));
    made_is = refl;
  };
  no_hole = no_hole;
  apart = record {
    first_of = record { some = omega arith; within = omega arith; start_is = refl; end_is = refl };
    second_of = record { some = omega arith; within = omega arith; start_is = refl; end_is = refl };
    apart = omega arith;
  };
  same = λ p. absurd (omega (arith, p.apart));
}

untyped : (source name : List ℕ) (fs : List Interface) (m : Module) (found : List Fault) (f : Fault) → HasModules source (m ∷ []) → m.header.name.text ≡ name
    → AreImportsOf m fs → IsVerdict m (prelude_interface ∷ fs) (Faulty found) → Contains found f → f.kind ≡ Untyped → IsUntypedIn source name fs f.name
untyped source name fs m found f h named of_imports right there kind = record {
  «module» = m;
  spelled = record { modules = m ∷ []; read = h; among = (0, omega arith, refl); named = named };
  of_imports = of_imports;
  verdict = Faulty found;
  right = right;
  untyped = (f, there, (kind, refl));
}

-- the verdict of the only module of a source has the fault
fault_in : (source name : List ℕ) (fs : List Interface) (definition : List ℕ) (m : Module) (v : Verdict) → HasModules source (m ∷ []) → IsVerdict m (prelude_interface ∷ fs) v
    → IsUntypedIn source name fs definition → HasFaultOf definition v
fault_in source name fs definition m v h right u =
    let same : u.«module» ≡ m = only_module source name m u.«module» h u.spelled in
    let own : IsVerdict m (prelude_interface ∷ fs) u.verdict = subst (λ (q : Module). IsVerdict q (prelude_interface ∷ fs) u.verdict) same u.right in
    subst (HasFaultOf definition) (one_module_verdict m (prelude_interface ∷ fs) u.verdict v own right) u.untyped

of_good : (source definition : List ℕ) → HasModules source (module_A ∷ []) → ¬ (IsUntypedIn source (codes "A") [] definition)
of_good source definition h u = fault_in source (codes "A") [] definition module_A (Good interface_A) h good_A u

not_import : ¬ (NotImported ≡ Untyped)
not_import e = cc

not_untyped : (definition : List ℕ) → All (λ (f : Fault). ¬ (IsFaultOf definition f)) (fault_Z ∷ [])
not_untyped definition = All-cons (λ (f : Fault). ¬ (IsFaultOf definition f)) fault_Z [] (λ h. not_import h.0) (none (λ (f : Fault). ¬ (IsFaultOf definition f)))

of_names : (source definition : List ℕ) → HasModules source (module_B ∷ []) → ¬ (IsUntypedIn source (codes "B") [] definition)
of_names source definition h u =
    let there : HasFaultOf definition (Faulty (fault_Z ∷ [])) = fault_in source (codes "B") [] definition module_B (Faulty (fault_Z ∷ [])) h faulty_B u in
    All-contains (λ (f : Fault). ¬ (IsFaultOf definition f)) (fault_Z ∷ []) there.0 (not_untyped definition) there.1 there.2

pub worked_untyped : UntypedRow
worked_untyped = record { untyped = untyped; good = of_good; of_names = of_names }
