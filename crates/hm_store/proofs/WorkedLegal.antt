-- The worked legal build, and its report.
use Rattle.std.proofs.Common.{◌≡◌, ℕ, zero, suc, ◌+◌, ◌<◌, Bool, true, cond, List, [], ◌∷◌, ◌++◌, length, Option, None, Some, refl, sym, ap, ap₂, ◌∙◌, subst, arith}
use Rattle.std.specs.List.{flat_map}
use Rattle.hm_types.specs.Interfaces.{Exports as Interface}
use Rattle.hm_types.specs.StandardPrelude.{prelude_interface}
use Rattle.hm_typing.specs.Names.{IsOneOf}
use Rattle.hm_verdicts.specs.ModuleVerdicts.{Good, Faulty, IsVerdict}
use Rattle.hm_verdicts.specs.Reports.{name_of_module, IsBlockText, Block, IsBlockOf, tally, count_line, IsReport, is_published, is_failed, is_skipped}
use Rattle.hm_verdicts.specs.Sets.{ModuleSet, imports_of, IsLawfulSet}
use Rattle.hm_verdicts.specs.Verdicts.{Status as Settlement, Published, Failed, Skipped}
use Rattle.hm_verdicts.specs.Worked.{module_A, module_B, three_modules, three_texts}
use Rattle.hm_verdicts.specs.WorkedVerdicts.{interface_A, fault_Z}
use Rattle.hm_verdicts.proofs.Composition.{settled_verdict}
use Rattle.hm_verdicts.proofs.ImportOrder.{import_in}
use Rattle.hm_verdicts.proofs.OneVerdict.{one_verdict}
use Rattle.hm_verdicts.proofs.WorkedModules.{good_A, faulty_B}
use Rattle.hm_verdicts.proofs.WorkedPlan.{three, three_lawful}
use Rattle.hm_verdicts.proofs.WorkedReport.{three_reported}
use Rattle.hm_verdicts.specs.Outcomes.{Checked}
use Rattle.hm_store.specs.Builds.{Build, Agrees, IsAllSettled, IsLegal, IsOf, IsSound, state_of}
use Rattle.hm_store.specs.Objects.{IsAllowed, is_settled, status_at}
use Rattle.hm_store.specs.Plans.{Given}
use Rattle.hm_store.specs.Reaching.{dependents_in}
use Rattle.hm_store.specs.Settlements.{settlement}
use Rattle.hm_store.specs.Worked.{LegalRow}
use Rattle.hm_store.specs.declared.object.Entry.{Entry}
use Rattle.hm_store.specs.declared.object.Entry.TheVariants.{Claim, Publish, Fail}
use Rattle.hm_store.proofs.DependentLists.{dependents_are}
use Rattle.hm_store.proofs.Settling.{settled_build}

-- A report depends on how the set's modules were settled, and on nothing else

AreSame : ModuleSet → (ℕ → Settlement) → (ℕ → Settlement) → Type 0
AreSame p s t = (i : ℕ) → i < length p.modules → s i ≡ t i

same_back : (p : ModuleSet) (s t : ℕ → Settlement) → AreSame p s t → AreSame p t s
unfolding AreSame
same_back p s t e i l = sym (e i l)

same_tally : (test : Settlement → Bool) (s t : ℕ → Settlement) (n : ℕ) → ((i : ℕ) → i < n → s i ≡ t i) → tally test s n ≡ tally test t n
same_tally test s t zero e = refl
same_tally test s t (suc n) e = ap₂ (λ x y. cond (test x) 1 0 + y) (e n (omega arith)) (same_tally test s t n (λ i l. e i (omega (arith, l))))

abbrev Blames : ModuleSet → (ℕ → Settlement) → ℕ → List ℕ → Type 0
Blames p s i x = (j : ℕ) × (IsOneOf j (imports_of p i) × (((f : Interface) → ¬ (s j ≡ Published f)) × (x ≡ name_of_module p j)))

blames_there : (p : ModuleSet) → IsLawfulSet p → (s t : ℕ → Settlement) → AreSame p s t → (i : ℕ) → i < length p.modules → (x : List ℕ) → Blames p s i x → Blames p t i x
unfolding AreSame
blames_there p law s t e i l x q = (q.0, (q.1.0, ((λ f k. q.1.1.0 f (e q.0 (import_in p law i q.0 l q.1.0) ∙ k)), q.1.1.1)))

text_there : (p : ModuleSet) → IsLawfulSet p → (s t : ℕ → Settlement) → AreSame p s t → (i : ℕ) → i < length p.modules → (u : List ℕ) (a : Settlement) → IsBlockText p s i u a → IsBlockText p t i u a
text_there p law s t e i l u (Published f) h = h
text_there p law s t e i l u (Failed found) h = h
text_there p law s t e i l u Skipped h = (
  h.0,
  (
    record {
      members = λ x. ((λ c. blames_there p law s t e i l x ((h.1.0.members x).0 c)), (λ q. (h.1.0.members x).1 (blames_there p law t s (same_back p s t e) i l x q)));
      ordered = h.1.0.ordered;
    },
    h.1.1,
  ),
)

block_there : (p : ModuleSet) → IsLawfulSet p → (s t : ℕ → Settlement) → AreSame p s t → (b : Block) → (i : ℕ) × IsBlockOf p s i b → (i : ℕ) × IsBlockOf p t i b
unfolding AreSame
block_there p law s t e b q = (
  q.0,
  record { inside = q.1.inside; name = q.1.name; text = subst (IsBlockText p t q.0 b.text) (e q.0 q.1.inside) (text_there p law s t e q.0 q.1.inside b.text (s q.0) q.1.text) },
)

counted : (s t : ℕ → Settlement) (n : ℕ) → ((i : ℕ) → i < n → s i ≡ t i) → count_line s n ≡ count_line t n
counted s t n e = rw (same_tally is_published s t n e, same_tally is_failed s t n e, same_tally is_skipped s t n e) refl

report_there : (p : ModuleSet) → IsLawfulSet p → (s t : ℕ → Settlement) → AreSame p s t → (text : List ℕ) → IsReport p s text → IsReport p t text
unfolding AreSame
report_there p law s t e text r = record {
  blocks = r.blocks;
  each = λ b. ((λ c. block_there p law s t e b ((r.each b).0 c)), (λ q. (r.each b).1 (block_there p law t s (same_back p s t e) b q)));
  ordered = r.ordered;
  whole = r.whole ∙ ap (λ l. flat_map (λ b. b.text) r.blocks ++ l) (counted s t (length p.modules) e);
}

-- The build

abbrev outcome_A : Checked
outcome_A = record { «module» = module_A; imports = []; verdict = Good interface_A }

abbrev outcome_B : Checked
outcome_B = record { «module» = module_B; imports = []; verdict = Faulty (fault_Z ∷ []) }

abbrev given : Given
given = record { imports = three_modules.plan; dependents = dependents_in three_modules.plan }

abbrev entries : List Entry
entries = Claim 0 0 ∷ Publish 0 0 ∷ Claim 0 1 ∷ Fail 0 1 ∷ []

abbrev worked : Build
worked = record { modules = three_modules.modules; given = given; journal = entries; kept = Some outcome_A ∷ Some outcome_B ∷ None ∷ [] }

allowed : IsAllowed given entries
allowed = (refl, (refl, (refl, (refl, tt))))

agrees : Agrees (state_of worked).statuses worked.kept
agrees zero = (outcome_A, refl, (interface_A, refl))
agrees (suc zero) = (outcome_B, refl, (fault_Z ∷ [], refl))
agrees (suc (suc zero)) = refl
agrees (suc (suc (suc m))) = refl

abbrev IsRight : ℕ → Checked → Type 0
IsRight m c = IsOf worked m c × IsVerdict c.«module» (prelude_interface ∷ c.imports) c.verdict

checked_or : Checked → Option Checked → Checked
checked_or d None = d
checked_or d (Some c) = c

one_outcome : (c d : Checked) → Some c ≡ Some d → c ≡ d
unfolding checked_or
one_outcome c d e = ap (checked_or c) e

sound : IsSound worked
sound zero c e = subst (IsRight 0) (one_outcome outcome_A c e) (record { subject = refl; imports = refl }, good_A)
sound (suc zero) c e = subst (IsRight 1) (one_outcome outcome_B c e) (record { subject = refl; imports = refl }, faulty_B)
sound (suc (suc zero)) c e = let f : None ≡ Some c = e in absurd (cc)
sound (suc (suc (suc m))) c e = let f : None ≡ Some c = e in absurd (cc)

is_legal : IsLegal worked
is_legal = record { lawful = three_lawful; dependents = dependents_are three_modules.plan; allowed = allowed; count = refl; agrees = agrees; sound = sound }

settled : IsAllSettled worked
settled = three (λ m. is_settled (status_at (state_of worked).statuses m) ≡ true) refl refl refl

same_verdicts : AreSame three_modules three_reported.verdicts (settlement worked)
unfolding AreSame
same_verdicts i l = one_verdict three_modules three_lawful i (three_reported.verdicts i) (settlement worked i) (three_reported.are_verdicts i l)
    (settled_verdict three_modules three_lawful (settlement worked) (settled_build worked is_legal settled) i l)

pub legal : LegalRow
legal = record {
  build = worked;
  set = refl;
  journal = refl;
  legal = is_legal;
  statuses = refl;
  settled = settled;
  reported = report_there three_modules three_lawful three_reported.verdicts (settlement worked) same_verdicts three_texts three_reported.report;
}
