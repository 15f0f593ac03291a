-- Sources have one status, and where they aren't refused one report.
use Rattle.std.proofs.Common.{◌≡◌, ℕ, List, [], ◌∷◌, ◌++◌, ⊎_elim, refl, sym, ap, ap₂, ◌∙◌, subst}
use Rattle.hm_parse_grammar.specs.Grammar.Modules.{Spells}
use Rattle.hm_parse_grammar.proofs.Whole.{spelled_once}
use Rattle.hm_syntax.specs.declared.ast.Module.{Module}
use Rattle.hm_graph.specs.Imports.{IsLawful, IsImportPlan}
use Rattle.hm_graph.proofs.OnePlan.{one_plan}
use Rattle.hm_verdicts.specs.Reports.{IsAllGood, IsReport, IsReported}
use Rattle.hm_verdicts.specs.Sets.{ModuleSet, IsLawfulSet, outlines_of}
use Rattle.hm_verdicts.specs.Verdicts.{Status as Settlement, IsSettled}
use Rattle.hm_verdicts.proofs.Composition.{settled_verdict}
use Rattle.hm_verdicts.proofs.OneReport.{one_text, one_status}
use Rattle.hm_build_output.specs.Checks.{IsChecked, IsGoodCheck, IsCheckRun}
use Rattle.hm_run_sources.specs.Names.{module_outlines}
use Rattle.hm_run_sources.specs.Runs.{IsRefused}
use Rattle.hm_run_sources.specs.SourceModules.{AreModulesOf, HasModules}
use Rattle.hm_run_sources.specs.declared.status.Status.{Status}
use Rattle.hm_run_sources.specs.declared.status.Status.TheVariants.{Good, Faulty, Refused}
use Rattle.hm_run_sources.proofs.OneRefusal.{not_set, not_source}
use Rattle.hm_run_sources.proofs.OneText.{outlines_once, tokens_once}
use Rattle.hm_run_sources.proofs.Reading.{outlines_there}

source_once : (source : List ℕ) (ms ns : List Module) → HasModules source ms → HasModules source ns → ms ≡ ns
source_once source ms ns a b =
    let same : a.tokens ≡ b.tokens = tokens_once source a.tokens b.tokens a.lexed b.lexed in
    spelled_once source b.tokens ms ns (subst (λ t. Spells ms source t) same a.parsed) b.parsed

modules_once : (sources : List (List ℕ)) (ms ns : List Module) → AreModulesOf sources ms → AreModulesOf sources ns → ms ≡ ns
modules_once [] ms ns h k = h ∙ sym k
modules_once (s ∷ ss) ms ns h k = h.4 ∙ (ap₂ (λ x y. x ++ y) (source_once s h.0 k.0 h.2 k.2) (modules_once ss h.1 k.1 h.3 k.3) ∙ sym k.4)

made : List Module → List (List ℕ) → ModuleSet
made ms rows = record { modules = ms; plan = rows }

same_set : (sources : List (List ℕ)) (p q : ModuleSet) → AreModulesOf sources p.modules → AreModulesOf sources q.modules → IsLawfulSet p → IsLawfulSet q → p ≡ q
unfolding made
same_set sources p q a b l m =
    let ms : p.modules ≡ q.modules = modules_once sources p.modules q.modules a b in
    let rows : p.plan ≡ q.plan = one_plan (outlines_of q.modules) p.plan q.plan (subst (λ z. IsImportPlan (outlines_of z) p.plan) ms l.planned) m.planned in
    ap (λ z. made z p.plan) ms ∙ ap (λ z. made q.modules z) rows

pub one_report : (sources : List (List ℕ)) (text other : List ℕ) → IsChecked sources text → IsChecked sources other → text ≡ other
one_report sources text other a b =
    let e : a.set ≡ b.set = same_set sources a.set b.set a.read b.read a.lawful b.lawful in
    one_text b.set b.lawful text other (subst (λ p. IsReported p text) e a.reported) b.reported

good_there : (sources : List (List ℕ)) (text other : List ℕ) (a : IsChecked sources text) (b : IsChecked sources other) → IsGoodCheck sources text a → IsGoodCheck sources other b
good_there sources text other a b g = subst (λ q. (r : IsReported q other) → IsAllGood a.set a.reported.verdicts → IsAllGood q r.verdicts) (same_set sources a.set b.set a.read b.read a.lawful b.lawful)
    (λ r h. (one_status a.set a.lawful text other a.reported r).0 h) b.reported g

read_at : (before : List (List ℕ)) (source : List ℕ) (after : List (List ℕ)) (ms : List Module) → AreModulesOf (before ++ source ∷ after) ms → (ns : List Module) × HasModules source ns
read_at [] source after ms h = (h.0, h.2)
read_at (b ∷ before) source after ms h = read_at before source after h.1 h.3

pub checked_not_refused : (sources : List (List ℕ)) (text other : List ℕ) → IsChecked sources text → ¬ (IsRefused sources other)
checked_not_refused sources text other c r = ⊎_elim
    (λ f.
    let n = read_at f.before f.source f.after c.set.modules (subst (λ ss. AreModulesOf ss c.set.modules) f.whole c.read) in
    not_source f.source n.0 _ r.refusal n.1 f.fault r.because.lasting)
    (λ f.
    let e = outlines_once sources f.modules (module_outlines c.set.modules) f.read (outlines_there sources c.set.modules c.read) in
    not_set f.modules r.refusal (subst IsLawful (sym e) c.lawful.lawful) f.fault r.because.lasting)
    r.because.first

pub one_check_status : (sources : List (List ℕ)) (s t : Status) (text other : List ℕ) → IsCheckRun sources s text → IsCheckRun sources t other → s ≡ t
one_check_status sources Good Good text other a b = refl
one_check_status sources Good Faulty text other a b = absurd (b.1 (good_there sources text other a.0 b.0 a.1))
one_check_status sources Good Refused text other a b = absurd (checked_not_refused sources text other a.0 b)
one_check_status sources Faulty Good text other a b = absurd (a.1 (good_there sources other text b.0 a.0 b.1))
one_check_status sources Faulty Faulty text other a b = refl
one_check_status sources Faulty Refused text other a b = absurd (checked_not_refused sources text other a.0 b)
one_check_status sources Refused Good text other a b = absurd (checked_not_refused sources other text b.0 a)
one_check_status sources Refused Faulty text other a b = absurd (checked_not_refused sources other text b.0 a)
one_check_status sources Refused Refused text other a b = refl

checked : (sources : List (List ℕ)) (p : ModuleSet) (settled : ℕ → Settlement) (text : List ℕ) → AreModulesOf sources p.modules → IsLawfulSet p → IsSettled p settled → IsReport p settled text → IsReported p text
checked sources p settled text read law s r = record { verdicts = settled; are_verdicts = λ i l. settled_verdict p law settled s i l; report = r }

pub settled_good : (sources : List (List ℕ)) (p : ModuleSet) (settled : ℕ → Settlement) (text : List ℕ) → AreModulesOf sources p.modules → IsLawfulSet p → IsSettled p settled → IsReport p settled text → IsAllGood p settled → IsCheckRun sources Good text
unfolding checked
settled_good sources p settled text read law s r good = (record { set = p; read = read; lawful = law; reported = checked sources p settled text read law s r }, good)

pub settled_faulty : (sources : List (List ℕ)) (p : ModuleSet) (settled : ℕ → Settlement) (text : List ℕ) → AreModulesOf sources p.modules → IsLawfulSet p → IsSettled p settled → IsReport p settled text → ¬ (IsAllGood p settled) → IsCheckRun sources Faulty text
unfolding checked
settled_faulty sources p settled text read law s r bad = (record { set = p; read = read; lawful = law; reported = checked sources p settled text read law s r }, bad)
