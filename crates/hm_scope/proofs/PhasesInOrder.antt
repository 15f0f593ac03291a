-- The answers of the phases, one after another.
use Rattle.std.proofs.Common.{◌≡◌, ℕ, Bool, cond, ◌==◌, ◌<◌, List, [], ◌∷◌, Option, None, Some, length, refl, sym, ap, ◌∙◌, subst, arith}
use Rattle.std.proofs.Math.Dec.{eqb-suc-zero}
use Rattle.hm_types.specs.Interfaces.{Exports as Interface}
use Rattle.hm_syntax.specs.declared.ast.Module.{Module}
use Rattle.hm_names.specs.declared.faults.Fault.{Fault}
use Rattle.hm_names.specs.Faults.Phases.{Phase, Importing, Declaring, Exporting, Naming, Counting, phase_number, HasFault, IsWellFormed}
use Rattle.hm_scope.specs.PhaseAnswers.{AreExact, AreFirstFaults, IsPhaseAnswer}

pub well_formed : (m : Module) (fs : List Interface) → ((f : Fault) → ¬ HasFault m fs Importing f) → ((f : Fault) → ¬ HasFault m fs Declaring f) → ((f : Fault) → ¬ HasFault m fs Exporting f) → ((f : Fault) → ¬ HasFault m fs Naming f) → ((f : Fault) → ¬ HasFault m fs Counting f) → IsWellFormed m fs
well_formed m fs i d e n c Importing = i
well_formed m fs i d e n c Declaring = d
well_formed m fs i d e n c Exporting = e
well_formed m fs i d e n c Naming = n
well_formed m fs i d e n c Counting = c

pub before_importing : (m : Module) (fs : List Interface) (q : Phase) → phase_number q < phase_number Importing → (f : Fault) → ¬ HasFault m fs q f
before_importing m fs Importing h = absurd (omega (arith, h))
before_importing m fs Declaring h = absurd (omega (arith, h))
before_importing m fs Exporting h = absurd (omega (arith, h))
before_importing m fs Naming h = absurd (omega (arith, h))
before_importing m fs Counting h = absurd (omega (arith, h))

pub before_declaring : (m : Module) (fs : List Interface) → ((f : Fault) → ¬ HasFault m fs Importing f) → (q : Phase) → phase_number q < phase_number Declaring → (f : Fault) → ¬ HasFault m fs q f
before_declaring m fs i Importing h = i
before_declaring m fs i Declaring h = absurd (omega (arith, h))
before_declaring m fs i Exporting h = absurd (omega (arith, h))
before_declaring m fs i Naming h = absurd (omega (arith, h))
before_declaring m fs i Counting h = absurd (omega (arith, h))

pub before_exporting : (m : Module) (fs : List Interface) → ((f : Fault) → ¬ HasFault m fs Importing f) → ((f : Fault) → ¬ HasFault m fs Declaring f) → (q : Phase) → phase_number q < phase_number Exporting → (f : Fault) → ¬ HasFault m fs q f
before_exporting m fs i d Importing h = i
before_exporting m fs i d Declaring h = d
before_exporting m fs i d Exporting h = absurd (omega (arith, h))
before_exporting m fs i d Naming h = absurd (omega (arith, h))
before_exporting m fs i d Counting h = absurd (omega (arith, h))

pub before_naming : (m : Module) (fs : List Interface) → ((f : Fault) → ¬ HasFault m fs Importing f) → ((f : Fault) → ¬ HasFault m fs Declaring f) → ((f : Fault) → ¬ HasFault m fs Exporting f) → (q : Phase) → phase_number q < phase_number Naming → (f : Fault) → ¬ HasFault m fs q f
before_naming m fs i d e Importing h = i
before_naming m fs i d e Declaring h = d
before_naming m fs i d e Exporting h = e
before_naming m fs i d e Naming h = absurd (omega (arith, h))
before_naming m fs i d e Counting h = absurd (omega (arith, h))

pub before_counting : (m : Module) (fs : List Interface) → ((f : Fault) → ¬ HasFault m fs Importing f) → ((f : Fault) → ¬ HasFault m fs Declaring f) → ((f : Fault) → ¬ HasFault m fs Exporting f) → ((f : Fault) → ¬ HasFault m fs Naming f) → (q : Phase) → phase_number q < phase_number Counting → (f : Fault) → ¬ HasFault m fs q f
before_counting m fs i d e n Importing h = i
before_counting m fs i d e n Declaring h = d
before_counting m fs i d e n Exporting h = e
before_counting m fs i d e n Naming h = n
before_counting m fs i d e n Counting h = absurd (omega (arith, h))

pub last_answer : (m : Module) (fs : List Interface) (o : Option (List Fault)) → ((f : Fault) → ¬ HasFault m fs Importing f) → ((f : Fault) → ¬ HasFault m fs Declaring f) → ((f : Fault) → ¬ HasFault m fs Exporting f) → ((f : Fault) → ¬ HasFault m fs Naming f) → IsPhaseAnswer m fs Counting o → AreFirstFaults m fs o
last_answer m fs None i d e n answer = well_formed m fs i d e n answer
last_answer m fs (Some found) i d e n answer = answer (before_counting m fs i d e n)

-- the first list that has a fault

pub chosen : (r b : Bool) (n k : ℕ) (xs ys : List Fault) → n ≡ k → r ≡ (k == 0) → r ≡ b → cond b ys xs ≡ cond (n == 0) ys xs
chosen r b n k xs ys l e t = ap (λ z. cond z ys xs) (sym t ∙ (e ∙ ap (λ z. z == 0) (sym l)))

taken : (x : Fault) (xs ys found : List Fault) → found ≡ cond (length (x ∷ xs) == 0) ys (x ∷ xs) → found ≡ x ∷ xs
taken x xs ys found is = is ∙ ap (λ z. cond z ys (x ∷ xs)) (eqb-suc-zero (length xs))

none : (m : Module) (fs : List Interface) (p : Phase) → AreExact m fs p [] → (f : Fault) → ¬ HasFault m fs p f
none m fs p exact = λ f h. let c = (exact f).1 h in absurd (omega (arith, c.1))

some_answer : (m : Module) (fs : List Interface) (p : Phase) (x : Fault) (xs : List Fault) (o : Option (List Fault)) → AreExact m fs p (x ∷ xs) → IsPhaseAnswer m fs p o
    → ((q : Phase) → phase_number q < phase_number p → (f : Fault) → ¬ HasFault m fs q f) → AreFirstFaults m fs o
some_answer m fs p x xs None exact answer before = absurd (answer x ((exact x).0 (0, omega arith, refl)))
some_answer m fs p x xs (Some found) exact answer before = answer before

pub first_phase : (m : Module) (fs : List Interface) (l e n k late later found : List Fault) (o : Option (List Fault)) → ((f : Fault) → ¬ HasFault m fs Importing f)
    → AreExact m fs Declaring l → AreExact m fs Exporting e → AreExact m fs Naming n → AreExact m fs Counting k
    → late ≡ cond (length n == 0) k n → later ≡ cond (length e == 0) late e → found ≡ cond (length l == 0) later l
    → ((p : Phase) → AreExact m fs p found → IsPhaseAnswer m fs p o) → AreFirstFaults m fs o
first_phase m fs (x ∷ l) e n k late later found o i dx ex nx kx u v w answer =
    some_answer m fs Declaring x l o dx (answer Declaring (subst (λ z. AreExact m fs Declaring z) (sym (taken x l later found w)) dx)) (before_declaring m fs i)
first_phase m fs [] (x ∷ e) n k late later found o i dx ex nx kx u v w answer =
    some_answer m fs Exporting x e o ex (answer Exporting (subst (λ z. AreExact m fs Exporting z) (sym (w ∙ taken x e late later v)) ex)) (before_exporting m fs i (none m fs Declaring dx))
first_phase m fs [] [] (x ∷ n) k late later found o i dx ex nx kx u v w answer =
    some_answer m fs Naming x n o nx (answer Naming (subst (λ z. AreExact m fs Naming z) (sym (w ∙ (v ∙ taken x n k late u))) nx)) (before_naming m fs i (none m fs Declaring dx) (none m fs Exporting ex))
first_phase m fs [] [] [] k late later found o i dx ex nx kx u v w answer =
    last_answer m fs o i (none m fs Declaring dx) (none m fs Exporting ex) (none m fs Naming nx) (answer Counting (subst (λ z. AreExact m fs Counting z) (sym (w ∙ (v ∙ u))) kx))
