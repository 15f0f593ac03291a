-- Sources have one status, and those that are refused are refused for one thing.
use Rattle.std.proofs.Common.{◌≡◌, ◌≢◌, ℕ, suc, ◌+◌, List, [], ◌∷◌, ◌++◌, length, inl, inr, ⊎_elim, refl, sym, ap, ap₂, ◌∙◌, subst}
use Rattle.std.proofs.lemmas.Bool.{cases_order}
use Rattle.hm_lex.specs.Faults.{AreTokensOf, IsRefusal}
use Rattle.hm_lex.specs.declared.token.LexFault.{LexFault}
use Rattle.hm_lex.specs.declared.token.LexFault.TheVariants as lexing
use Rattle.hm_lex.specs.declared.token.Token.{Token}
use Rattle.hm_lex.proofs.OneFault.{one_refusal}
use Rattle.hm_lex.proofs.Scanning.{one_answer}
use Rattle.hm_parse_grammar.specs.Grammar.Modules.{Spells}
use Rattle.hm_syntax.specs.declared.ast.Module.{Module}
use Rattle.hm_parse_grammar.specs.declared.fault.ParseFault.TheVariants.{Syntax, Memory}
use Rattle.hm_graph.specs.Imports.{Modules, IsLawful, IsMissing}
use Rattle.hm_graph.specs.Outline.{Outline}
use Rattle.hm_graph.specs.Refusal.{IsFirstTaken, IsFirstMissing, IsFirstInCycle, IsRefusal as IsPlanRefusal}
use Rattle.hm_graph.specs.declared.faults.PlanFault.{PlanFault}
use Rattle.hm_graph.specs.declared.faults.PlanFault.TheVariants as planning
use Rattle.hm_run_sources.specs.Laws.{AreSameButPlace}
use Rattle.hm_run_sources.specs.Refusals.{Refusal, lex, parse, plan, IsLasting}
use Rattle.hm_run_sources.specs.Runs.{AreOutlinesOf, HasOutlines, IsSourceFault, AreNamesOf, IsSetPlanFault, FailsAtSource, FailsAtPlan, IsPlanned, IsPlanRun, IsRefusalOf, IsRefused}
use Rattle.hm_run_sources.specs.Names.{module_outlines}
use Rattle.hm_run_sources.specs.SourceModules.{AreModulesOf, HasModules}
use Rattle.hm_run_sources.specs.declared.status.Status.{Status}
use Rattle.hm_run_sources.specs.declared.status.Status.TheVariants.{Good, Faulty, Refused}
use Rattle.hm_run_sources.proofs.OneText.{tokens_once, outlines_once}
use Rattle.hm_run_sources.proofs.Reading.{outlines_there}

-- ---- what is refused has no modules

not_lexed : (source : List ℕ) (tokens : List Token) (n : ℕ) (fault : LexFault) → AreTokensOf source tokens → IsRefusal source fault → IsLasting (lex n fault) → ⊥
not_lexed source tokens n fault a r l = subst (λ f. IsLasting (lex n f)) (one_answer source tokens fault a r) l

pub not_source : (source : List ℕ) (ns : List Module) (n : ℕ) (refusal : Refusal) → HasModules source ns → IsSourceFault n source refusal → IsLasting refusal → ⊥
not_source source ns n (lex m fault) h f l = not_lexed source h.tokens m fault h.lexed f.1 l
not_source source ns n (parse m (Syntax place)) h f l = f.1.2 ns (subst (λ t. Spells ns source t) (tokens_once source h.tokens f.1.0 h.lexed f.1.1) h.parsed)
not_source source ns n (parse m Memory) h f l = l
not_source source ns n (plan fault m i) h f l = f

not_plan : (modules : List Outline) (fault : PlanFault) (m i : List ℕ) → IsLawful modules → IsSetPlanFault modules (plan fault m i) → IsLasting (plan fault m i) → ⊥
not_plan modules planning.TooMany m i w f l = w.few f.0
not_plan modules (planning.Duplicate k) m i w f l = w.distinct k f.0.1.module_number f.0.1.taken
not_plan modules (planning.Missing k j) m i w f l = w.found k j f.0.2.module_number f.0.2.missing
not_plan modules (planning.Cycle k) m i w f l = w.acyclic k f.0.3.cycle
not_plan modules planning.Memory m i w f l = l

pub not_set : (modules : List Outline) (refusal : Refusal) → IsLawful modules → IsSetPlanFault modules refusal → IsLasting refusal → ⊥
not_set modules (lex n fault) w f l = f
not_set modules (parse n fault) w f l = f
not_set modules (plan fault m i) w f l = not_plan modules fault m i w f l

-- ---- faults of one source

not_memory : (n : ℕ) (fault : LexFault) → IsLasting (lex n fault) → fault ≢ lexing.Memory
not_memory n fault l e = subst (λ f. IsLasting (lex n f)) e l

at_source : (n : ℕ) (source : List ℕ) (r s : Refusal) → IsSourceFault n source r → IsSourceFault n source s → IsLasting r → IsLasting s → AreSameButPlace r s
at_source n source (lex m f) (lex k g) a b l q = inl (ap₂ lex (a.0 ∙ sym b.0) (one_refusal source f g a.1 b.1 (not_memory m f l) (not_memory k g q)))
at_source n source (lex m f) (parse k g) a b l q = absurd (not_lexed source b.1.0 m f b.1.1 a.1 l)
at_source n source (lex m f) (plan g x y) a b l q = absurd b
at_source n source (parse m f) (lex k g) a b l q = absurd (not_lexed source a.1.0 k g a.1.1 b.1 q)
at_source n source (parse m (Syntax p)) (parse k (Syntax o)) a b l q = inr (n, (p, (o, (ap (λ z. parse z (Syntax p)) a.0, ap (λ z. parse z (Syntax o)) b.0))))
at_source n source (parse m (Syntax p)) (parse k Memory) a b l q = absurd q
at_source n source (parse m Memory) (parse k g) a b l q = absurd l
at_source n source (parse m f) (plan g x y) a b l q = absurd b
at_source n source (plan f x y) s a b l q = absurd a

-- ---- faults of the plan

one_taken : (modules : Modules) (k l : ℕ) → IsFirstTaken modules k → IsFirstTaken modules l → k ≡ l
one_taken modules k l a b = elim (cases_order k l) [ inl e ↦ e | inr (inl h) ↦ absurd (b.first k h a.taken) | inr (inr h) ↦ absurd (a.first l h b.taken) ]

one_missing : (modules : Modules) (k i l j : ℕ) → IsFirstMissing modules k i → IsFirstMissing modules l j → (k ≡ l) × (i ≡ j)
one_missing modules k i l j a b = elim (cases_order k l) [
  | inl e ↦ (e, one_import e)
  | inr (inl h) ↦ absurd (b.first_module k i h a.missing)
  | inr (inr h) ↦ absurd (a.first_module l j h b.missing)
]
  where
    one_import : k ≡ l → i ≡ j
    one_import e = elim (cases_order i j) [
      | inl f ↦ f
      | inr (inl h) ↦ absurd (b.first i h (subst (λ z. IsMissing modules z i) e a.missing))
      | inr (inr h) ↦ absurd (a.first j h (subst (λ z. IsMissing modules z j) (sym e) b.missing))
    ]

one_cycle : (modules : Modules) (k l : ℕ) → IsFirstInCycle modules k → IsFirstInCycle modules l → k ≡ l
one_cycle modules k l a b = elim (cases_order k l) [ inl e ↦ e | inr (inl h) ↦ absurd (b.first k h a.cycle) | inr (inr h) ↦ absurd (a.first l h b.cycle) ]

one_plan_fault : (modules : Modules) (f g : PlanFault) (m i x y : List ℕ) → IsPlanRefusal modules f → IsPlanRefusal modules g → IsLasting (plan f m i) → IsLasting (plan g x y) → f ≡ g
one_plan_fault modules planning.TooMany planning.TooMany m i x y a b l q = refl
one_plan_fault modules planning.TooMany (planning.Duplicate k) m i x y a b l q = absurd (b.0 a)
one_plan_fault modules planning.TooMany (planning.Missing k j) m i x y a b l q = absurd (b.0 a)
one_plan_fault modules planning.TooMany (planning.Cycle k) m i x y a b l q = absurd (b.0 a)
one_plan_fault modules planning.TooMany planning.Memory m i x y a b l q = absurd q
one_plan_fault modules (planning.Duplicate h) planning.TooMany m i x y a b l q = absurd (a.0 b)
one_plan_fault modules (planning.Duplicate h) (planning.Duplicate k) m i x y a b l q = ap planning.Duplicate (one_taken modules h k a.1 b.1)
one_plan_fault modules (planning.Duplicate h) (planning.Missing k j) m i x y a b l q = absurd (b.1 h a.1.module_number a.1.taken)
one_plan_fault modules (planning.Duplicate h) (planning.Cycle k) m i x y a b l q = absurd (b.1 h a.1.module_number a.1.taken)
one_plan_fault modules (planning.Duplicate h) planning.Memory m i x y a b l q = absurd q
one_plan_fault modules (planning.Missing h o) planning.TooMany m i x y a b l q = absurd (a.0 b)
one_plan_fault modules (planning.Missing h o) (planning.Duplicate k) m i x y a b l q = absurd (a.1 k b.1.module_number b.1.taken)
one_plan_fault modules (planning.Missing h o) (planning.Missing k j) m i x y a b l q = let e = one_missing modules h o k j a.2 b.2 in ap₂ planning.Missing e.0 e.1
one_plan_fault modules (planning.Missing h o) (planning.Cycle k) m i x y a b l q = absurd (b.2 h o a.2.module_number a.2.missing)
one_plan_fault modules (planning.Missing h o) planning.Memory m i x y a b l q = absurd q
one_plan_fault modules (planning.Cycle h) planning.TooMany m i x y a b l q = absurd (a.0 b)
one_plan_fault modules (planning.Cycle h) (planning.Duplicate k) m i x y a b l q = absurd (a.1 k b.1.module_number b.1.taken)
one_plan_fault modules (planning.Cycle h) (planning.Missing k j) m i x y a b l q = absurd (a.2 k j b.2.module_number b.2.missing)
one_plan_fault modules (planning.Cycle h) (planning.Cycle k) m i x y a b l q = ap planning.Cycle (one_cycle modules h k a.3 b.3)
one_plan_fault modules (planning.Cycle h) planning.Memory m i x y a b l q = absurd q
one_plan_fault modules planning.Memory g m i x y a b l q = absurd l

one_names : (modules : List Outline) (f : PlanFault) (m i x y : List ℕ) → AreNamesOf modules f m i → AreNamesOf modules f x y → (m ≡ x) × (i ≡ y)
one_names modules planning.TooMany m i x y a b = (a.0 ∙ sym b.0, a.1 ∙ sym b.1)
one_names modules (planning.Duplicate k) m i x y a b = (a.0 ∙ sym b.0, a.1 ∙ sym b.1)
one_names modules (planning.Missing k j) m i x y a b = (a.0 ∙ sym b.0, a.1 ∙ sym b.1)
one_names modules (planning.Cycle k) m i x y a b = (a.0 ∙ sym b.0, a.1 ∙ sym b.1)
one_names modules planning.Memory m i x y a b = (a.0 ∙ sym b.0, a.1 ∙ sym b.1)

at_plan : (modules : List Outline) (r s : Refusal) → IsSetPlanFault modules r → IsSetPlanFault modules s → IsLasting r → IsLasting s → r ≡ s
at_plan modules (lex n f) s a b l q = absurd a
at_plan modules (parse n f) s a b l q = absurd a
at_plan modules (plan f m i) (lex n g) a b l q = absurd b
at_plan modules (plan f m i) (parse n g) a b l q = absurd b
at_plan modules (plan f m i) (plan g x y) a b l q =
    let e = one_plan_fault modules f g m i x y a.0 b.0 l q in
    let n = one_names modules g m i x y (subst (λ z. AreNamesOf modules z m i) e a.1) b.1 in
    ap (λ z. plan z m i) e ∙ (ap (λ z. plan g z i) n.0 ∙ ap (λ z. plan g x z) n.1)

-- ---- the first source with a fault

head_or : List ℕ → List (List ℕ) → List ℕ
head_or d [] = d
head_or d (x ∷ xs) = x

rest_of : List (List ℕ) → List (List ℕ)
rest_of [] = []
rest_of (x ∷ xs) = xs

abbrev IsUnread : List ℕ → Type 0
IsUnread source = (ns : List Module) → HasModules source ns → ⊥

modules_of : (source : List ℕ) (modules : List Outline) → HasOutlines source modules → (ns : List Module) × HasModules source ns
modules_of source modules h = (h.modules, record { tokens = h.tokens; lexed = h.lexed; parsed = h.parsed })

same_front : (xs ys : List (List ℕ)) (x y : List ℕ) (us ws : List (List ℕ)) (ms ns : List Outline) → (xs ++ x ∷ us) ≡ (ys ++ y ∷ ws) → AreOutlinesOf xs ms → AreOutlinesOf ys ns → IsUnread x → IsUnread y → (length xs ≡ length ys) × (x ≡ y)
unfolding head_or rest_of
same_front [] [] x y us ws ms ns e a b u v = (refl, ap (head_or x) e)
same_front [] (z ∷ ys) x y us ws ms ns e a b u v = let h = modules_of z b.0 b.2 in absurd (u h.0 (subst (λ w. HasModules w h.0) (sym (ap (head_or x) e)) h.1))
same_front (z ∷ xs) [] x y us ws ms ns e a b u v = let h = modules_of z a.0 a.2 in absurd (v h.0 (subst (λ w. HasModules w h.0) (ap (head_or x) e) h.1))
same_front (z ∷ xs) (w ∷ ys) x y us ws ms ns e a b u v = let r = same_front xs ys x y us ws a.1 b.1 (ap rest_of e) a.3 b.3 u v in (ap suc r.0, r.1)

outlines_at : (before : List (List ℕ)) (source : List ℕ) (after : List (List ℕ)) (ms : List Outline) → AreOutlinesOf (before ++ source ∷ after) ms → (ns : List Module) × HasModules source ns
outlines_at [] source after ms h = modules_of source h.0 h.2
outlines_at (b ∷ before) source after ms h = outlines_at before source after h.1 h.3

unread : (n : ℕ) (source : List ℕ) (r : Refusal) → IsSourceFault n source r → IsLasting r → IsUnread source
unread n source r f l ns h = not_source source ns n r h f l

both_sources : (sources : List (List ℕ)) (r s : Refusal) → IsLasting r → IsLasting s → FailsAtSource sources r → FailsAtSource sources s → AreSameButPlace r s
both_sources sources r s l q a b =
    let e = same_front a.before b.before a.source b.source a.after b.after a.modules b.modules (sym a.whole ∙ b.whole) a.read b.read (unread _ a.source r a.fault l) (unread _ b.source s b.fault q) in
    at_source (length b.before + 1) b.source r s (subst (λ z. IsSourceFault (length b.before + 1) z r) e.1 (subst (λ n. IsSourceFault (n + 1) a.source r) e.0 a.fault)) b.fault l q

-- sources that spell modules have no fault
pub not_read : (sources : List (List ℕ)) (r : Refusal) (ms : List Module) → FailsAtSource sources r → IsLasting r → AreModulesOf sources ms → ⊥
not_read sources r ms a l h =
    let o = outlines_at a.before a.source a.after (module_outlines ms) (subst (λ ss. AreOutlinesOf ss (module_outlines ms)) a.whole (outlines_there sources ms h)) in
    unread _ a.source r a.fault l o.0 o.1

pub source_or_plan : (sources : List (List ℕ)) (r s : Refusal) → IsLasting r → FailsAtSource sources r → FailsAtPlan sources s → ⊥
source_or_plan sources r s l a b =
    let h = outlines_at a.before a.source a.after b.modules (subst (λ ss. AreOutlinesOf ss b.modules) a.whole b.read) in
    unread _ a.source r a.fault l h.0 h.1

both_plans : (sources : List (List ℕ)) (r s : Refusal) → IsLasting r → IsLasting s → FailsAtPlan sources r → FailsAtPlan sources s → r ≡ s
both_plans sources r s l q a b = at_plan b.modules r s (subst (λ ms. IsSetPlanFault ms r) (outlines_once sources a.modules b.modules a.read b.read) a.fault) b.fault l q

pub refused_once : (sources : List (List ℕ)) (r s : Refusal) → IsRefusalOf sources r → IsRefusalOf sources s → AreSameButPlace r s
refused_once sources r s a b = ⊎_elim
    (λ f. ⊎_elim (λ g. both_sources sources r s a.lasting b.lasting f g) (λ g. absurd (source_or_plan sources r s a.lasting f g)) b.first)
    (λ f. ⊎_elim (λ g. absurd (source_or_plan sources s r b.lasting g f)) (λ g. inl (both_plans sources r s a.lasting b.lasting f g)) b.first)
    a.first

-- ---- one status

planned_not_refused : (sources : List (List ℕ)) (text other : List ℕ) → IsPlanned sources text → ¬ (IsRefused sources other)
planned_not_refused sources text other p r = ⊎_elim
    (λ f.
    let h = outlines_at f.before f.source f.after p.modules (subst (λ ss. AreOutlinesOf ss p.modules) f.whole p.read) in
    unread _ f.source r.refusal f.fault r.because.lasting h.0 h.1)
    (λ f.
    let e = outlines_once sources f.modules p.modules f.read p.read in
    not_set f.modules r.refusal (subst IsLawful (sym e) p.lawful) f.fault r.because.lasting)
    r.because.first

pub one_plan_status : (sources : List (List ℕ)) (s t : Status) (text other : List ℕ) → IsPlanRun sources s text → IsPlanRun sources t other → s ≡ t
one_plan_status sources Good Good text other h k = refl
one_plan_status sources Good Faulty text other h k = absurd k
one_plan_status sources Good Refused text other h k = absurd (planned_not_refused sources text other h k)
one_plan_status sources Faulty t text other h k = absurd h
one_plan_status sources Refused Good text other h k = absurd (planned_not_refused sources other text k h)
one_plan_status sources Refused Faulty text other h k = absurd k
one_plan_status sources Refused Refused text other h k = refl
