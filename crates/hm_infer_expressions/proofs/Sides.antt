-- Right sides and clauses, form by form.
use Rattle.std.proofs.Common.{◌≡◌, ℕ, zero, suc, ◌+◌, ◌<◌, ◌≤◌, List, [], ◌∷◌, ◌++◌, length, take, get_or, Option, None, Some, Result, Ok, Err, sym, ap, ◌∙◌, subst}
use Rattle.std.proofs.lemmas.List.{take_more, take_all}
use Rattle.hm_types.specs.Types.{put}
use Rattle.hm_types.specs.Monotypes.{Mono}
use Rattle.hm_syntax.specs.Trees as tree
use Rattle.hm_syntax.specs.Trees.{Expression, no_bodies, right_side}
use Rattle.hm_syntax.specs.Lists.{body, bodies, patterns, alternatives}
use Rattle.hm_typing.specs.Schemes.{Monotype}
use Rattle.hm_typing.specs.Assumptions.{Assumptions, assumptions_put}
use Rattle.hm_typing.specs.Typing.{HasFunction, HasLocal}
use Rattle.hm_typing.specs.SecondForm.{Derives, DeriveRightSides, DeriveClauses, DerivedSchemes}
use Rattle.hm_typing.specs.Syntax.{bool, pattern, no_pattern}
use Rattle.hm_typing.specs.Problems.{FactsBelow, IsLocal}
use Rattle.hm_typing.proofs.Infer.{local}
use Rattle.hm_typing.proofs.Solve.{put-below}
use Rattle.hm_typing.proofs.More.{DeriveRightSides-more}
use Rattle.hm_unify.specs.Solving.{Solving}
use Rattle.hm_unify.specs.WellFormed.{IsWellFormed}
use Rattle.hm_unify.specs.declared.faults.UnifyFault.{UnifyFault}
use Rattle.hm_infer_context.specs.Problems.{monotype, problem, bound, Answers, Refuses}
use Rattle.hm_infer_context.specs.Environments.{Assumed, assumptions, AreAssumed}
use Rattle.hm_infer_context.specs.Functions.{IsOpened, RefusesOpening}
use Rattle.hm_infer_expressions.specs.Lists.{IsBound, RefusesList}
use Rattle.hm_names.specs.Syntax.{Known, expression_of, bodies_of, right_sides_of, where_of, bindings_of, pattern_of, patterns_of, alternatives_of}
use Rattle.hm_infer_context.proofs.Leaves.{monotype-below}
use Rattle.hm_infer_context.proofs.Outcomes.{SolvedBy, solved_same, solved_nothing, solved_both, pass_on, carries_second}
use Rattle.hm_infer_expressions.proofs.Derived.{Checks, AnswersExpression}
use Rattle.hm_infer_context.proofs.FoundNames.{assumed_below}
use Rattle.hm_infer_expressions.proofs.OpenedForms.{function_answers, function_refused, local_answers, local_refused, written_bodies}
use Rattle.hm_infer_context.proofs.Entered.{choice_type}

abbrev pub Part : Type 0
Part = Option Expression × Expression

-- an expression behind its guard

abbrev pub ChecksBody : Known → Option Expression → Expression → Mono → List Assumed → (ℕ → Monotype) → Type 0
ChecksBody known g e t es r = DeriveRightSides (assumptions_put r (assumptions es)) (bodies_of known (body g e no_bodies)) (put r (monotype t))

pub plain_answers : {X : Type 0} (known : Known) (e : Expression) (t : Mono) (es : List Assumed) (s s' : Solving) (outcome : Result X UnifyFault) → AnswersExpression known e t es s s' outcome → Answers (ChecksBody known None e t es) s s' outcome
plain_answers known e t es s s' (Ok x) a = solved_same s s' (λ r p. (p, tt)) (λ r p. p.0) a
plain_answers known e t es s s' (Err k) a = pass_on {P = ChecksBody known None e t es} {Q = Checks known e t es} s s k (λ r u p. (r, u, p.0)) a

guard_turn : (known : Known) (p : Expression) (truth : Mono) (es : List Assumed) → monotype truth ≡ bool → (r : ℕ → Monotype) → Checks known p truth es r → Derives (assumptions_put r (assumptions es)) (expression_of known p) bool
guard_turn known p truth es e r d = subst (Derives (assumptions_put r (assumptions es)) (expression_of known p)) (ap (put r) e) d

guard_back : (known : Known) (p : Expression) (truth : Mono) (es : List Assumed) → monotype truth ≡ bool → (r : ℕ → Monotype) → Derives (assumptions_put r (assumptions es)) (expression_of known p) bool → Checks known p truth es r
guard_back known p truth es e r d = subst (Derives (assumptions_put r (assumptions es)) (expression_of known p)) (sym (ap (put r) e)) d

checked_local : (known : Known) (e : Expression) (t : Mono) (es : List Assumed) (s : Solving) → AreAssumed s.given es → IsWellFormed s.given t → IsLocal (bound s) (Checks known e t es)
checked_local known e t es s a w = local (λ A u. Derives A (expression_of known e) u) (assumptions es) (monotype t) (bound s) (assumed_below s.given es a) (monotype-below s.given t w)

pub guarded_answers : {X : Type 0} (known : Known) (p e : Expression) (t truth : Mono) (es : List Assumed) (s s1 s2 : Solving) (outcome : Result X UnifyFault) → AreAssumed s.given es → IsWellFormed s.given t → monotype truth ≡ bool →
    SolvedBy (Checks known p truth es) s s1 → AnswersExpression known e t es s1 s2 outcome → Answers (ChecksBody known (Some p) e t es) s s2 outcome
guarded_answers known p e t truth es s s1 s2 (Ok x) a w i m n =
    solved_same {P = λ r. Checks known p truth es r × Checks known e t es r} s s2 (λ r q. (guard_turn known p truth es i r q.0, (q.1, tt))) (λ r q. (guard_back known p truth es i r q.0, q.1.0)) (solved_both s s1 s2 (checked_local known e t es s a w) m n)
guarded_answers known p e t truth es s s1 s2 (Err k) a w i m n =
    pass_on {P = ChecksBody known (Some p) e t es} {Q = Checks known e t es} s s1 k (λ r u q. carries_second {P = Checks known p truth es} {Q = Checks known e t es} s s1 (checked_local known e t es s a w) m r u (guard_back known p truth es i r q.0, q.1.0)) n

pub guarded_refused : (known : Known) (p e : Expression) (t truth : Mono) (es : List Assumed) (s : Solving) (k : UnifyFault) → monotype truth ≡ bool → Refuses (Checks known p truth es) s k → Refuses (ChecksBody known (Some p) e t es) s k
guarded_refused known p e t truth es s k i n = pass_on {P = ChecksBody known (Some p) e t es} {Q = Checks known p truth es} s s k (λ r u q. (r, u, guard_back known p truth es i r q.0)) n

pub body_is : {X : Type 0} (known : Known) (g h : Option Expression) (e : Expression) (t : Mono) (es : List Assumed) (s s' : Solving) (outcome : Result X UnifyFault) → g ≡ h → Answers (ChecksBody known g e t es) s s' outcome → Answers (ChecksBody known h e t es) s s' outcome
body_is known g h e t es s s' outcome i a = subst (λ k. Answers (ChecksBody known k e t es) s s' outcome) i a

-- a row of these

abbrev pub ChecksBodies : Known → List Part → Mono → List Assumed → (ℕ → Monotype) → Type 0
ChecksBodies known ps t es r = DeriveRightSides (assumptions_put r (assumptions es)) (bodies_of known (bodies ps)) (put r (monotype t))

sides_append : (known : Known) (xs : List Part) (g : Option Expression) (e : Expression) (A : Assumptions) (u : Monotype) → DeriveRightSides A (bodies_of known (bodies xs)) u × DeriveRightSides A (bodies_of known (body g e no_bodies)) u → DeriveRightSides A (bodies_of known (bodies (xs ++ (g, e) ∷ []))) u
sides_append known [] g e A u p = p.1
sides_append known ((None, x) ∷ xs) g e A u p = (p.0.0, sides_append known xs g e A u (p.0.1, p.1))
sides_append known ((Some y, x) ∷ xs) g e A u p = (p.0.0, (p.0.1.0, sides_append known xs g e A u (p.0.1.1, p.1)))

append_sides : (known : Known) (xs : List Part) (g : Option Expression) (e : Expression) (A : Assumptions) (u : Monotype) → DeriveRightSides A (bodies_of known (bodies (xs ++ (g, e) ∷ []))) u → DeriveRightSides A (bodies_of known (bodies xs)) u × DeriveRightSides A (bodies_of known (body g e no_bodies)) u
append_sides known [] g e A u p = (tt, p)
append_sides known ((None, x) ∷ xs) g e A u p = let q = append_sides known xs g e A u p.1 in ((p.0, q.0), q.1)
append_sides known ((Some y, x) ∷ xs) g e A u p = let q = append_sides known xs g e A u p.1.1 in ((p.0, (p.1.0, q.0)), q.1)

sides_take : (known : Known) (ps : List Part) (A : Assumptions) (u : Monotype) (k : ℕ) → DeriveRightSides A (bodies_of known (bodies ps)) u → DeriveRightSides A (bodies_of known (bodies (take k ps))) u
sides_take known ps A u zero p = tt
sides_take known [] A u (suc k) p = tt
sides_take known ((None, x) ∷ ps) A u (suc k) p = (p.0, sides_take known ps A u k p.1)
sides_take known ((Some y, x) ∷ ps) A u (suc k) p = (p.0, (p.1.0, sides_take known ps A u k p.1.1))

pub bodies_none : (known : Known) (ps : List Part) (t : Mono) (es : List Assumed) (s : Solving) → FactsBelow (bound s) (problem s) → SolvedBy (ChecksBodies known (take 0 ps) t es) s s
bodies_none known ps t es s b = solved_nothing s b

sides_local : (known : Known) (g : Option Expression) (e : Expression) (t : Mono) (es : List Assumed) (s : Solving) → AreAssumed s.given es → IsWellFormed s.given t → IsLocal (bound s) (ChecksBody known g e t es)
sides_local known g e t es s a w = local (λ A u. DeriveRightSides A (bodies_of known (body g e no_bodies)) u) (assumptions es) (monotype t) (bound s) (assumed_below s.given es a) (monotype-below s.given t w)

one_part : (ps : List Part) (j : ℕ) (d : Part) → j < length ps → d ≡ get_or ps j d → take (j + 1) ps ≡ take j ps ++ (d.0, d.1) ∷ []
one_part ps j d h e = take_more ps j d h ∙ ap (λ x. take j ps ++ x ∷ []) (sym e)

pub bodies_more : (known : Known) (ps : List Part) (j : ℕ) (d : Part) (t : Mono) (es fs : List Assumed) (s s1 s2 : Solving) → fs ≡ es → j < length ps → d ≡ get_or ps j d → AreAssumed s.given es → IsWellFormed s.given t →
    SolvedBy (ChecksBodies known (take j ps) t es) s s1 → SolvedBy (ChecksBody known d.0 d.1 t fs) s1 s2 → SolvedBy (ChecksBodies known (take (j + 1) ps) t es) s s2
bodies_more known ps j d t es fs s s1 s2 k h e a w m n =
    let y = one_part ps j d h e in
    solved_same {P = λ r. ChecksBodies known (take j ps) t es r × ChecksBody known d.0 d.1 t es r} {Q = ChecksBodies known (take (j + 1) ps) t es} s s2
    (λ r p. subst (λ xs. ChecksBodies known xs t es r) (sym y) (sides_append known (take j ps) d.0 d.1 (assumptions_put r (assumptions es)) (put r (monotype t)) p))
    (λ r p. append_sides known (take j ps) d.0 d.1 (assumptions_put r (assumptions es)) (put r (monotype t)) (subst (λ xs. ChecksBodies known xs t es r) y p))
    (solved_both s s1 s2 (sides_local known d.0 d.1 t es s a w) m (subst (λ z. SolvedBy (ChecksBody known d.0 d.1 t z) s1 s2) k n))

pub bodies_refused : (known : Known) (ps : List Part) (j : ℕ) (d : Part) (t : Mono) (es fs : List Assumed) (s s1 : Solving) (x : UnifyFault) → fs ≡ es → j < length ps → d ≡ get_or ps j d → AreAssumed s.given es → IsWellFormed s.given t →
    SolvedBy (ChecksBodies known (take j ps) t es) s s1 → Refuses (ChecksBody known d.0 d.1 t fs) s1 x → Refuses (ChecksBodies known ps t es) s x
bodies_refused known ps j d t es fs s s1 x k h e a w m n =
    let y = one_part ps j d h e in
    pass_on {P = ChecksBodies known ps t es} {Q = ChecksBody known d.0 d.1 t es} s s1 x
    (λ r u p. carries_second {P = ChecksBodies known (take j ps) t es} {Q = ChecksBody known d.0 d.1 t es} s s1 (sides_local known d.0 d.1 t es s a w) m r u
    (append_sides known (take j ps) d.0 d.1 (assumptions_put r (assumptions es)) (put r (monotype t)) (subst (λ xs. ChecksBodies known xs t es r) y (sides_take known ps (assumptions_put r (assumptions es)) (put r (monotype t)) (j + 1) p))))
    (subst (λ z. Refuses (ChecksBody known d.0 d.1 t z) s1 x) k n)

pub bodies_all : (known : Known) (ps : List Part) (j : ℕ) (t : Mono) (es : List Assumed) (s s1 : Solving) → length ps ≤ j → SolvedBy (ChecksBodies known (take j ps) t es) s s1 → SolvedBy (ChecksBodies known ps t es) s s1
bodies_all known ps j t es s s1 h m = subst (λ xs. SolvedBy (ChecksBodies known xs t es) s s1) (take_all j ps h) m

-- a right side

abbrev pub ChecksSide : Known → tree.RightSide → Mono → List Assumed → (ℕ → Monotype) → Type 0
ChecksSide known q t es r = HasLocal (assumptions_put r (assumptions es)) (where_of known q) (λ B. DerivedSchemes (assumptions_put r (assumptions es)) (where_of known q) B) (λ C. DeriveRightSides C (right_sides_of known q) (put r (monotype t)))

pub side_answers : {X : Type 0} (known : Known) (ps : List Part) (ds : tree.Declarations) (t : Mono) (s s1 s2 : Solving) (es es1 : List Assumed) (outcome : Result X UnifyFault) → AreAssumed s.given es → IsWellFormed s.given t → IsBound (bindings_of known ds ds) s es s1 es1 →
    Answers (ChecksBodies known ps t es1) s1 s2 outcome → Answers (ChecksSide known (right_side (bodies ps) ds) t es) s s2 outcome
side_answers known ps ds t s s1 s2 es es1 outcome a w b m =
    local_answers (λ C r. DeriveRightSides C (bodies_of known (bodies ps)) (put r (monotype t))) (λ r C C' i p. DeriveRightSides-more (bodies_of known (bodies ps)) C C' (put r (monotype t)) (λ x j. i x (written_bodies known (bodies ps) x j)) p) (bindings_of known ds ds) s s1 s2 es es1 outcome
    (λ C r q f p. subst (DeriveRightSides C (bodies_of known (bodies ps))) (put-below (bound s) r q (monotype t) f (monotype-below s.given t w)) p) a b m

pub side_refused : (known : Known) (ps : List Part) (ds : tree.Declarations) (t : Mono) (s : Solving) (es : List Assumed) (k : UnifyFault) → RefusesList (bindings_of known ds ds) s es k → Refuses (ChecksSide known (right_side (bodies ps) ds) t es) s k
side_refused known ps ds t s es k n =
    local_refused (λ C r. DeriveRightSides C (bodies_of known (bodies ps)) (put r (monotype t))) (λ r C C' i p. DeriveRightSides-more (bodies_of known (bodies ps)) C C' (put r (monotype t)) (λ x j. i x (written_bodies known (bodies ps) x j)) p) (bindings_of known ds ds) s es k n

-- a clause

abbrev pub ChecksClause : Known → List tree.Pattern → tree.RightSide → Mono → List Assumed → (ℕ → Monotype) → Type 0
ChecksClause known ps q t es r = HasFunction (assumptions_put r (assumptions es)) (patterns_of known (patterns ps)) (put r (monotype t)) (λ A u. HasLocal A (where_of known q) (λ B. DerivedSchemes A (where_of known q) B) (λ C. DeriveRightSides C (right_sides_of known q) u))

pub clause_answers : {X : Type 0} (known : Known) (ps : List tree.Pattern) (q : tree.RightSide) (t : Mono) (n : Mono) (s s1 s2 : Solving) (es es1 : List Assumed) (outcome : Result X UnifyFault) → AreAssumed s.given es → IsOpened (patterns_of known (patterns ps)) (monotype t) n s es s1 es1 →
    Answers (ChecksSide known q n es1) s1 s2 outcome → Answers (ChecksClause known ps q t es) s s2 outcome
clause_answers known ps q t n s s1 s2 es es1 outcome a o m =
    function_answers (λ A u. HasLocal A (where_of known q) (λ B. DerivedSchemes A (where_of known q) B) (λ C. DeriveRightSides C (right_sides_of known q) u)) (patterns_of known (patterns ps)) (monotype t) n s s1 s2 es es1 outcome a o m

pub clause_refused : (known : Known) (ps : List tree.Pattern) (q : tree.RightSide) (t : Mono) (s : Solving) (es : List Assumed) (k : UnifyFault) → RefusesOpening (patterns_of known (patterns ps)) (monotype t) s k → Refuses (ChecksClause known ps q t es) s k
clause_refused known ps q t s es k n =
    function_refused (λ A u. HasLocal A (where_of known q) (λ B. DerivedSchemes A (where_of known q) B) (λ C. DeriveRightSides C (right_sides_of known q) u)) (patterns_of known (patterns ps)) (monotype t) s es k n

-- alternatives

abbrev pub ChecksChoice : Known → tree.Pattern → tree.RightSide → ℕ → Mono → List Assumed → (ℕ → Monotype) → Type 0
ChecksChoice known p q n t es r = HasFunction (assumptions_put r (assumptions es)) (pattern (pattern_of known p) no_pattern) (put r (choice_type n t)) (λ A u. HasLocal A (where_of known q) (λ B. DerivedSchemes A (where_of known q) B) (λ C. DeriveRightSides C (right_sides_of known q) u))

abbrev pub ChecksChoices : Known → List tree.Alternative → ℕ → Mono → List Assumed → (ℕ → Monotype) → Type 0
ChecksChoices known bs n t es r = DeriveClauses (assumptions_put r (assumptions es)) (alternatives_of known (alternatives bs)) (put r (choice_type n t))

pub choice_answers : {X : Type 0} (known : Known) (p : tree.Pattern) (q : tree.RightSide) (n : ℕ) (t : Mono) (s s1 s2 : Solving) (es es1 : List Assumed) (outcome : Result X UnifyFault) → AreAssumed s.given es → IsOpened (pattern (pattern_of known p) no_pattern) (choice_type n t) t s es s1 es1 →
    Answers (ChecksSide known q t es1) s1 s2 outcome → Answers (ChecksChoice known p q n t es) s s2 outcome
choice_answers known p q n t s s1 s2 es es1 outcome a o m =
    function_answers (λ A u. HasLocal A (where_of known q) (λ B. DerivedSchemes A (where_of known q) B) (λ C. DeriveRightSides C (right_sides_of known q) u)) (pattern (pattern_of known p) no_pattern) (choice_type n t) t s s1 s2 es es1 outcome a o m

pub choice_refused : (known : Known) (p : tree.Pattern) (q : tree.RightSide) (n : ℕ) (t : Mono) (s : Solving) (es : List Assumed) (k : UnifyFault) → RefusesOpening (pattern (pattern_of known p) no_pattern) (choice_type n t) s k → Refuses (ChecksChoice known p q n t es) s k
choice_refused known p q n t s es k m =
    function_refused (λ A u. HasLocal A (where_of known q) (λ B. DerivedSchemes A (where_of known q) B) (λ C. DeriveRightSides C (right_sides_of known q) u)) (pattern (pattern_of known p) no_pattern) (choice_type n t) s es k m
