-- The worked runs and builds.
use Rattle.std.proofs.Common.{◌≡◌, ℕ, ◌<◌, Bool, true, false, List, [], ◌∷◌, ◌++◌, length, None, Some, refl, sym, ap, subst, ◌∙◌, arith, codes}
use Rattle.std.specs.Fmt.{decimal}
use Rattle.std.proofs.lemmas.Fmt.{decimal_digit}
use Rattle.hm_verdicts.specs.Verdicts.{IsGoodIn}
use Rattle.hm_verdicts.specs.Worked.{no_modules, three_modules}
use Rattle.hm_verdicts.proofs.Composition.{accepted_good, accepted_together, settled_verdict}
use Rattle.hm_verdicts.proofs.Worked.{empty_lawful, empty_text}
use Rattle.hm_store.specs.Builds.{Build, IsLegal}
use Rattle.hm_store.specs.Objects.{status_at}
use Rattle.hm_store.specs.declared.object.Entry.TheVariants.{Stop}
use Rattle.hm_store.specs.declared.object.Status.TheVariants as status
use Rattle.hm_store.proofs.Settling.{settled_build}
use Rattle.hm_store.proofs.WorkedLegal.{legal}
use Rattle.hm_run_sources.specs.declared.status.Status.{Status}
use Rattle.hm_run_sources.specs.declared.status.Status.TheVariants.{Good, Faulty, Refused}
use Rattle.hm_build_output.specs.Checks.{IsChecked, IsCheckRun}
use Rattle.hm_build.specs.Headline.{HasVerdicts}
use Rattle.hm_build_output.specs.JournalledRuns.{Follows, IsRun}
use Rattle.hm_build_reports.specs.Journals.{MayEnd, entry_lines}
use Rattle.hm_build.specs.Worked.{IsOneWorkers, JournalRow, NothingRow, OutputRow, RoomRow, VerdictsRow, no_text, nothing, one_worker}
use Rattle.hm_build.proofs.Headlines.{verdicts_of}
use Rattle.hm_build_output.proofs.OneRun.{one_check_status}

-- The journal

-- the lines with another text for the number 0
abbrev lines : List ℕ → List ℕ
lines n =
    (codes "claim" ++ (codes " " ++ (n ++ (codes " " ++ codes "A"))) ++ codes "\n")
    ++ ((codes "publish" ++ (codes " " ++ (n ++ (codes " " ++ codes "A"))) ++ (codes " " ++ (n ++ codes "\n")))
    ++ ((codes "claim" ++ (codes " " ++ (n ++ (codes " " ++ codes "B"))) ++ codes "\n") ++ ((codes "fail" ++ (codes " " ++ (n ++ (codes " " ++ codes "B"))) ++ codes "\n") ++ [])))

digit_0 : decimal 0 ≡ codes "0"
digit_0 = decimal_digit 0 (omega arith)

digit_2 : decimal 2 ≡ codes "2"
digit_2 = decimal_digit 2 (omega arith)

worked_lines : entry_lines three_modules 0 one_worker ≡ codes "claim 0 A\npublish 0 A 0\nclaim 0 B\nfail 0 B\n"
worked_lines = ap lines digit_0

numbers_not : (sources : List (List ℕ)) (b : Build) → IsOneWorkers b → ¬ (MayEnd sources 0 b)
numbers_not sources b is m = let l = m.numbers 0 (Stop 0) (subst (λ es. 0 < length es) (sym is.entries) (omega arith)) in absurd (omega (arith, l))

pub journal : JournalRow
journal = record {
  text = λ b is. ap (λ p. entry_lines p 0 b.journal) is.set ∙ (ap (entry_lines three_modules 0) is.entries ∙ worked_lines);
  stop = λ p n. ap (λ d. codes "stop " ++ (d ++ codes "\n")) digit_2;
  numbers = numbers_not;
}

-- The verdicts

abbrev worked : Build
worked = legal.build

worked_verdicts : HasVerdicts worked
worked_verdicts = verdicts_of settled_build (λ p s law h i l. settled_verdict p law s h i l) (λ p s law h i l. accepted_good p law s h i l) (λ p s law h. accepted_together p law s h) worked legal.legal legal.settled

three_long : length worked.modules ≡ 3
three_long = ap (λ p. length p.modules) legal.set

exactly_at : (i : ℕ) → i < 3 → (status_at (status.Published ∷ status.Failed ∷ status.Skipped ∷ []) i ≡ status.Published → IsGoodIn three_modules i) × (IsGoodIn three_modules i → status_at (status.Published ∷ status.Failed ∷ status.Skipped ∷ []) i ≡ status.Published)
exactly_at i l =
    let e = worked_verdicts.exactly i (subst (λ n. i < n) (sym three_long) l) in
    let at = ap (λ ss. status_at ss i) legal.statuses in
    ((λ is. subst (λ p. IsGoodIn p i) legal.set (e.0 (at ∙ is))), (λ g. sym at ∙ e.1 (subst (λ p. IsGoodIn p i) (sym legal.set) g)))

pub verdicts : VerdictsRow
verdicts = record {
  build = worked;
  is = record { set = legal.set; entries = legal.journal };
  legal = legal.legal;
  settled = legal.settled;
  verdicts = worked_verdicts;
  good = (exactly_at 0 (omega arith)).0 refl;
  faulty = λ g. let e : status.Failed ≡ status.Published = (exactly_at 1 (omega arith)).1 g in cc;
  skipped = λ g. let e : status.Skipped ≡ status.Published = (exactly_at 2 (omega arith)).1 g in cc;
}

-- No sources

nothing_below : (i : ℕ) → i < 0 → ⊥
nothing_below i l = absurd (omega (arith, l))

nothing_legal : IsLegal nothing
nothing_legal = record {
  lawful = empty_lawful;
  dependents = record { len = refl; each = λ m l. absurd (nothing_below m l) };
  allowed = tt;
  count = refl;
  agrees = λ m. refl;
  sound = λ m c e. let f : None ≡ Some c = e in absurd (cc);
}

may_end : (workers : ℕ) → MayEnd [] workers nothing
may_end workers = record { read = refl; legal = nothing_legal; running = refl; settled = λ m l. absurd (nothing_below m l); numbers = λ k d l. absurd (nothing_below k l) }

nothing_checked : IsChecked [] no_text
nothing_checked = record { set = no_modules; read = refl; lawful = empty_lawful; reported = empty_text }

nothing_good : IsCheckRun [] Good no_text
unfolding nothing_checked
nothing_good = (nothing_checked, refl)

follows : (journal : Bool) → Follows journal 4 [] no_text no_text
follows false = refl
follows true = (nothing, may_end 4, refl)

status_number : Status → ℕ
status_number Good = 0
status_number Faulty = 1
status_number Refused = 2

not_faulty : (journal : Bool) (text : List ℕ) → ¬ (IsRun 4 journal [] Faulty text)
unfolding status_number
not_faulty journal text r = let e : 0 ≡ 1 = ap status_number (one_check_status [] Good Faulty no_text r.report nothing_good r.checked) in absurd (omega (arith, e))

not_refused : (journal : Bool) (text : List ℕ) → ¬ (IsRun 4 journal [] Refused text)
unfolding status_number
not_refused journal text r = let e : 0 ≡ 2 = ap status_number (one_check_status [] Good Refused no_text r.report nothing_good r.checked) in absurd (omega (arith, e))

pub no_sources : NothingRow
no_sources = record { may_end = may_end 1; good = λ journal. record { report = no_text; checked = nothing_good; written = follows journal }; not_faulty = not_faulty; not_refused = not_refused }

-- the length of the messages tells them apart
pub output : OutputRow
output = record {
  written = record { text = no_text; run = no_sources.good false; in_form = refl; explained = refl };
  not_a_line = λ o. let e : 1 ≡ 0 = ap length o.explained in absurd (omega (arith, e));
}

-- Room

pub room : RoomRow
room = record { two = refl; chain = λ imports a b. omega (arith, a, b) }
