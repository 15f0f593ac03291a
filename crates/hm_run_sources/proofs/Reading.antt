-- The modules of a set of sources, one source after the other.
use Rattle.std.proofs.Common.{◌≡◌, ℕ, suc, ◌+◌, ◌<◌, List, [], ◌∷◌, ◌++◌, length, take, drop, map, get_or, refl, sym, ap, subst, ◌∙◌, arith, inl, inr, append-nil, append_assoc}
use Rattle.std.proofs.Math.Seq.{drop-cons}
use Rattle.std.proofs.lemmas.List.{take_all, take_more, map-append, take-append-drop, length-map, length-take-le}
use Rattle.hm_syntax.specs.declared.ast.Module.{Module}
use Rattle.hm_run_sources.specs.Names.{module_outline, module_outlines}
use Rattle.hm_graph.specs.Imports.{IsImportPlan, IsLawful}
use Rattle.hm_graph.specs.Outline.{Outline}
use Rattle.hm_run_sources.specs.Plans.{IsPlanText}
use Rattle.hm_run_sources.specs.Origins.{AreHeadersFor, AreLocated}
use Rattle.hm_run_sources.specs.Refusals.{Refusal, lex, parse, plan, IsLasting}
use Rattle.hm_run_sources.specs.Runs.{AreOutlinesOf, FailsAtSource, IsSourceFault, IsSetPlanFault, IsPlanned, IsRefusalOf}
use Rattle.hm_run_sources.specs.SourceModules.{AreModulesOf, HasModules}
use Rattle.hm_run_sources.specs.ModuleCounts.{AreCountedModules}
use Rattle.hm_run_sources.specs.Errors.{IsSourceError, IsSetError}
use Rattle.hm_run_sources.specs.Parts.{FailsBehind, Follow}
use Rattle.hm_run_sources.specs.declared.located.Located.{Located}
use Rattle.hm_run_sources.specs.declared.sets.SetError.{SetError}
use Rattle.hm_run_sources.specs.declared.sets.SetError.TheVariants.{Refused, Memory}

-- one more source
pub modules_more : (before : List (List ℕ)) (s : List ℕ) (modules first : List Module) → AreModulesOf before modules → HasModules s first → AreModulesOf (before ++ s ∷ []) (modules ++ first)
modules_more [] s modules first e sp = (first, [], sp, refl, ap (λ l. l ++ first) e ∙ sym (append-nil first))
modules_more (b ∷ bs) s modules first h sp =
    (h.0, h.1 ++ first, h.2, modules_more bs s h.1 first h.3 sp, ap (λ l. l ++ first) h.4 ∙ append_assoc h.0 h.1 first)

-- one more source, with the number of its modules
pub counted_more : (before : List (List ℕ)) (s : List ℕ) (modules first : List Module) (counts : List ℕ) → AreCountedModules before modules counts → HasModules s first
    → AreCountedModules (before ++ s ∷ []) (modules ++ first) (counts ++ length first ∷ [])
counted_more [] s modules first counts h sp =
    (first, [], [], sp, (refl, refl), ap (λ l. l ++ first) h.0 ∙ sym (append-nil first), ap (λ l. l ++ length first ∷ []) h.1)
counted_more (b ∷ bs) s modules first counts h sp = (
  h.0,
  h.1 ++ first,
  h.2 ++ length first ∷ [],
  h.3,
  counted_more bs s h.1 first h.2 h.4 sp,
  ap (λ l. l ++ first) h.5 ∙ append_assoc h.0 h.1 first,
  ap (λ l. l ++ length first ∷ []) h.6,
)

-- counted modules are the modules of the sources
pub counted_modules : (sources : List (List ℕ)) (modules : List Module) (counts : List ℕ) → AreCountedModules sources modules counts → AreModulesOf sources modules
counted_modules [] modules counts h = h.0
counted_modules (s ∷ ss) modules counts h = (h.0, h.1, h.3, counted_modules ss h.1 h.2 h.4, h.5)

-- one more source behind a part
pub follow_more : (before through : List (List ℕ)) (s : List ℕ) (modules first : List Module) (counts : List ℕ) → Follow before through modules counts → HasModules s first
    → Follow before (through ++ s ∷ []) (modules ++ first) (counts ++ length first ∷ [])
follow_more before through s modules first counts h sp = λ earlier numbers are.
    subst (λ l. AreCountedModules (through ++ s ∷ []) l (numbers ++ (counts ++ length first ∷ []))) (append_assoc earlier modules first)
    (subst (AreCountedModules (through ++ s ∷ []) ((earlier ++ modules) ++ first)) (append_assoc numbers counts (length first ∷ []))
    (counted_more through s (earlier ++ modules) first (numbers ++ counts) (h earlier numbers are) sp))

-- no source behind others
pub none_follow : (before : List (List ℕ)) → Follow before before [] []
none_follow before = λ earlier numbers are. subst (λ l. AreCountedModules before l (numbers ++ [])) (sym (append-nil earlier)) (subst (AreCountedModules before earlier) (sym (append-nil numbers)) are)

-- a part that is all
pub all_follow : {X : Type 0} (view : X → List ℕ) (xs : List X) (modules : List Module) (counts : List ℕ) → Follow (map view (take 0 xs)) (map view (take (length xs) xs)) modules counts
    → AreCountedModules (map view xs) modules counts
all_follow view xs modules counts h = subst (λ l. AreCountedModules (map view l) modules counts) (take_all (length xs) xs (omega arith)) (h [] [] (refl, refl))

pub all_read : {X : Type 0} (view : X → List ℕ) (xs : List X) (modules : List Module) (counts : List ℕ) → Follow (map view (take 0 xs)) (map view (take (length xs) xs)) modules counts
    → AreModulesOf (map view xs) modules
all_read view xs modules counts h = counted_modules (map view xs) modules counts (all_follow view xs modules counts h)

-- a fault behind no source
pub all_fail : {X : Type 0} (view : X → List ℕ) (xs : List X) (e : SetError) → FailsBehind (map view xs) (map view (take 0 xs)) e → IsSetError (map view xs) e
all_fail view xs e h = h [] [] (refl, refl)

-- the outlines of the modules are those that the plan is made of
pub outlines_there : (sources : List (List ℕ)) (modules : List Module) → AreModulesOf sources modules → AreOutlinesOf sources (module_outlines modules)
outlines_there [] modules h = ap module_outlines h
outlines_there (s ∷ ss) modules h = (
  module_outlines h.0,
  module_outlines h.1,
  record { tokens = h.2.tokens; modules = h.0; lexed = h.2.lexed; parsed = h.2.parsed; are = refl },
  outlines_there ss h.1 h.3,
  ap module_outlines h.4 ∙ map-append module_outline h.0 h.1,
)

module _ {X : Type 0} (view : X → List ℕ) (xs : List X) (i : ℕ) (d : X) (within : i < length xs) where
  pub taken_more : map view (take (i + 1) xs) ≡ map view (take i xs) ++ view (get_or xs i d) ∷ []
  taken_more = ap (map view) (take_more xs i d within) ∙ map-append view (take i xs) (get_or xs i d ∷ [])

  pub parted : map view xs ≡ map view (take i xs) ++ view (get_or xs i d) ∷ map view (drop (suc i) xs)
  parted = ap (map view) (sym (take-append-drop i xs) ∙ ap (λ l. take i xs ++ l) (drop-cons xs i d within)) ∙ map-append view (take i xs) (get_or xs i d ∷ drop (suc i) xs)

  pub length_taken : i + 1 ≡ length (map view (take i xs)) + 1
  length_taken = ap (λ k. k + 1) (sym (length-map (take i xs) view ∙ length-take-le i xs (omega arith)))

-- the fault of the next source is the first of the set
pub first_fault : (sources before : List (List ℕ)) (source : List ℕ) (after : List (List ℕ)) (modules : List Module) (n : ℕ) (e : SetError)
    → sources ≡ before ++ source ∷ after → AreModulesOf before modules → n ≡ length before + 1 → IsSourceError n source e → IsSetError sources e
first_fault sources before source after modules n Memory whole read number h = tt
first_fault sources before source after modules n (Refused f) whole read number h = (
  record {
    before = before;
    source = source;
    after = after;
    whole = whole;
    modules = module_outlines modules;
    read = outlines_there before modules read;
    fault = subst (λ k. IsSourceFault k source f) number h.0;
  },
  h.1,
)

-- where the plan is refused, the sources are
pub refused_by_plan : (sources : List (List ℕ)) (modules : List Module) (r : Refusal) → AreModulesOf sources modules → IsSetPlanFault (module_outlines modules) r → IsLasting r → IsRefusalOf sources r
refused_by_plan sources modules r read fault lasting = record {
  lasting = lasting;
  first = inr (record { modules = module_outlines modules; read = outlines_there sources modules read; fault = fault });
}

-- where a source has a fault, the sources are refused
pub refused_by_source : (sources : List (List ℕ)) (r : Refusal) → FailsAtSource sources r → IsLasting r → IsRefusalOf sources r
refused_by_source sources r fault lasting = record { lasting = lasting; first = inl fault }

-- a source's fault has no headers, and a fault of the plan has all
pub no_headers : (sources : List (List ℕ)) (r : Refusal) (located : List Located) → FailsAtSource sources r → located ≡ [] → AreHeadersFor sources r located
no_headers sources (lex n f) located fault none = none
no_headers sources (parse n f) located fault none = none
no_headers sources (plan f m i) located fault none = absurd fault.fault

pub plan_headers : (sources : List (List ℕ)) (outlines : List Outline) (r : Refusal) (located : List Located) → IsSetPlanFault outlines r → AreLocated sources located → AreHeadersFor sources r located
plan_headers sources outlines (lex n f) located fault are = absurd fault
plan_headers sources outlines (parse n f) located fault are = absurd fault
plan_headers sources outlines (plan f m i) located fault are = are

-- the plan of the modules is that of the sources
pub planned_sources : (sources : List (List ℕ)) (modules : List Module) (outlines : List Outline) (rows : List (List ℕ)) (text : List ℕ) → AreModulesOf sources modules → outlines ≡ module_outlines modules
    → IsLawful (module_outlines modules) → IsImportPlan (module_outlines modules) rows → IsPlanText outlines rows text → IsPlanned sources text
planned_sources sources modules outlines rows text read same lawful planned says = record {
  modules = module_outlines modules;
  read = outlines_there sources modules read;
  rows = rows;
  lawful = lawful;
  planned = planned;
  says = subst (λ l. IsPlanText l rows text) same says;
}
