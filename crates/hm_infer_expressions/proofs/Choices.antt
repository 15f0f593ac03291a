-- The alternatives of a case expression, one by one, and the whole.
use Rattle.std.proofs.Common.{◌≡◌, inl, inr, ℕ, zero, suc, ◌+◌, ◌<◌, ◌≤◌, List, [], ◌∷◌, ◌++◌, length, take, get_or, None, Some, Result, Ok, Err, sym, ap, ap₂, ◌∙◌, subst, subst₂, arith}
use Rattle.std.proofs.lemmas.List.{take_more, take_all}
use Rattle.hm_types.specs.Types.{Var, put}
use Rattle.hm_types.specs.Monotypes.{Mono, var}
use Rattle.hm_syntax.specs.Trees as tree
use Rattle.hm_syntax.specs.Trees.{Expression, no_bodies, alternative, variable_expression, constructor_expression, literal_expression, application, lambda, let_expression, if_expression, case_expression, tuple_expression, list_expression, typed_expression}
use Rattle.hm_syntax.specs.Lists.{body, bodies, alternatives}
use Rattle.hm_syntax.specs.Sizes.{expression_size, bodies_size, right_side_size, alternative_size, alternatives_size}
use Rattle.hm_typing.specs.Schemes.{Monotype, arrow}
use Rattle.hm_typing.specs.Assumptions.{Assumptions, assumptions_put}
use Rattle.hm_typing.specs.SecondForm.{Derives, DeriveClauses}
use Rattle.hm_typing.specs.Problems.{FactsBelow, IsLocal, IsBelow}
use Rattle.hm_typing.proofs.Infer.{local}
use Rattle.hm_typing.proofs.Solve.{put-below}
use Rattle.hm_typing.proofs.SchemeLaws.{assumptions_put-agree}
use Rattle.hm_unify.specs.Solving.{Solving}
use Rattle.hm_unify.specs.WellFormed.{IsWellFormed}
use Rattle.hm_unify.proofs.WellFormed.{well_formed_more}
use Rattle.hm_unify.specs.declared.faults.UnifyFault.{UnifyFault}
use Rattle.hm_infer_context.specs.Problems.{number, monotype, problem, bound, Answers, Refuses, given_more, new_at}
use Rattle.hm_infer_context.specs.Environments.{Assumed, assumptions, AreAssumed}
use Rattle.hm_names.specs.Syntax.{Known, expression_of, alternatives_of}
use Rattle.hm_infer_context.proofs.Leaves.{monotype-below}
use Rattle.hm_infer_context.proofs.Outcomes.{SolvedBy, solved_same, solved_nothing, solved_both, solved_new, pass_on, carries_second, carries_new, IsLocalIn}
use Rattle.hm_infer_expressions.proofs.Derived.{Checks, AnswersExpression}
use Rattle.hm_infer_context.proofs.FoundNames.{assumed_below, assumed_later}
use Rattle.hm_infer_expressions.proofs.Sides.{Part, ChecksChoice, ChecksChoices}
use Rattle.hm_infer_context.proofs.Entered.{choice_type}

choices_append : (known : Known) (xs : List tree.Alternative) (p : tree.Pattern) (q : tree.RightSide) (A : Assumptions) (u : Monotype) → DeriveClauses A (alternatives_of known (alternatives xs)) u × DeriveClauses A (alternatives_of known (alternatives (alternative p q ∷ []))) u → DeriveClauses A (alternatives_of known (alternatives (xs ++ alternative p q ∷ []))) u
choices_append known [] p q A u h = h.1
choices_append known (alternative x y ∷ xs) p q A u h = (h.0.0, choices_append known xs p q A u (h.0.1, h.1))

append_choices : (known : Known) (xs : List tree.Alternative) (p : tree.Pattern) (q : tree.RightSide) (A : Assumptions) (u : Monotype) → DeriveClauses A (alternatives_of known (alternatives (xs ++ alternative p q ∷ []))) u → DeriveClauses A (alternatives_of known (alternatives xs)) u × DeriveClauses A (alternatives_of known (alternatives (alternative p q ∷ []))) u
append_choices known [] p q A u h = (tt, h)
append_choices known (alternative x y ∷ xs) p q A u h = let k = append_choices known xs p q A u h.1 in ((h.0, k.0), k.1)

choices_take : (known : Known) (bs : List tree.Alternative) (A : Assumptions) (u : Monotype) (k : ℕ) → DeriveClauses A (alternatives_of known (alternatives bs)) u → DeriveClauses A (alternatives_of known (alternatives (take k bs))) u
choices_take known bs A u zero h = tt
choices_take known [] A u (suc k) h = tt
choices_take known (alternative x y ∷ bs) A u (suc k) h = (h.0, choices_take known bs A u k h.1)

pub choices_none : (known : Known) (bs : List tree.Alternative) (n : ℕ) (t : Mono) (es : List Assumed) (s : Solving) → FactsBelow (bound s) (problem s) → SolvedBy (ChecksChoices known (take 0 bs) n t es) s s
choices_none known bs n t es s b = solved_nothing s b

pub choice_below : (n : ℕ) (t : Mono) (s : Solving) → n < s.given → IsWellFormed s.given t → IsBelow (bound s) (choice_type n t)
choice_below n t s h w x (inl i) = monotype-below s.given (Var (var n)) h x i
choice_below n t s h w x (inr (inl i)) = monotype-below s.given t w x i
choice_below n t s h w x (inr (inr i)) = absurd i

choice_local : (known : Known) (p : tree.Pattern) (q : tree.RightSide) (n : ℕ) (t : Mono) (es : List Assumed) (s : Solving) → AreAssumed s.given es → n < s.given → IsWellFormed s.given t → IsLocal (bound s) (λ r. DeriveClauses (assumptions_put r (assumptions es)) (alternatives_of known (alternatives (alternative p q ∷ []))) (put r (choice_type n t)))
choice_local known p q n t es s a h w = local (λ A u. DeriveClauses A (alternatives_of known (alternatives (alternative p q ∷ []))) u) (assumptions es) (choice_type n t) (bound s) (assumed_below s.given es a) (choice_below n t s h w)

all_local : (known : Known) (bs : List tree.Alternative) (n : ℕ) (t : Mono) (es : List Assumed) (s : Solving) → AreAssumed s.given es → n < s.given → IsWellFormed s.given t → IsLocal (bound s) (ChecksChoices known bs n t es)
all_local known bs n t es s a h w = local (λ A u. DeriveClauses A (alternatives_of known (alternatives bs)) u) (assumptions es) (choice_type n t) (bound s) (assumed_below s.given es a) (choice_below n t s h w)

one_local : (known : Known) (p : tree.Pattern) (q : tree.RightSide) (n : ℕ) (t : Mono) (es : List Assumed) (s : Solving) → AreAssumed s.given es → n < s.given → IsWellFormed s.given t → IsLocal (bound s) (ChecksChoice known p q n t es)
one_local known p q n t es s a h w x y f d = (choice_local known p q n t es s a h w x y f (d, tt)).0

one_more : (bs : List tree.Alternative) (j : ℕ) (d : tree.Alternative) (p : tree.Pattern) (q : tree.RightSide) → j < length bs → d ≡ get_or bs j d → alternative p q ≡ d → take (j + 1) bs ≡ take j bs ++ alternative p q ∷ []
one_more bs j d p q h e i = take_more bs j d h ∙ ap (λ x. take j bs ++ x ∷ []) (sym e ∙ sym i)

pub choices_more : (known : Known) (bs : List tree.Alternative) (j : ℕ) (d : tree.Alternative) (p : tree.Pattern) (q : tree.RightSide) (n : ℕ) (t : Mono) (es fs : List Assumed) (s s1 s2 : Solving) → fs ≡ es → j < length bs → d ≡ get_or bs j d → alternative p q ≡ d → AreAssumed s.given es → n < s.given → IsWellFormed s.given t →
    SolvedBy (ChecksChoices known (take j bs) n t es) s s1 → SolvedBy (ChecksChoice known p q n t fs) s1 s2 → SolvedBy (ChecksChoices known (take (j + 1) bs) n t es) s s2
choices_more known bs j d p q n t es fs s s1 s2 k h e i a g w m o =
    let y = one_more bs j d p q h e i in
    solved_same {P = λ r. ChecksChoices known (take j bs) n t es r × ChecksChoice known p q n t es r} {Q = ChecksChoices known (take (j + 1) bs) n t es} s s2
    (λ r z. subst (λ xs. ChecksChoices known xs n t es r) (sym y) (choices_append known (take j bs) p q (assumptions_put r (assumptions es)) (put r (choice_type n t)) (z.0, (z.1, tt))))
    (λ r z. (let v = append_choices known (take j bs) p q (assumptions_put r (assumptions es)) (put r (choice_type n t)) (subst (λ xs. ChecksChoices known xs n t es r) y z) in (v.0, v.1.0)))
    (solved_both s s1 s2 (one_local known p q n t es s a g w) m (subst (λ z. SolvedBy (ChecksChoice known p q n t z) s1 s2) k o))

pub choices_refused : (known : Known) (bs : List tree.Alternative) (j : ℕ) (d : tree.Alternative) (p : tree.Pattern) (q : tree.RightSide) (n : ℕ) (t : Mono) (es fs : List Assumed) (s s1 : Solving) (x : UnifyFault) → fs ≡ es → j < length bs → d ≡ get_or bs j d → alternative p q ≡ d → AreAssumed s.given es → n < s.given → IsWellFormed s.given t →
    SolvedBy (ChecksChoices known (take j bs) n t es) s s1 → Refuses (ChecksChoice known p q n t fs) s1 x → Refuses (ChecksChoices known bs n t es) s x
choices_refused known bs j d p q n t es fs s s1 x k h e i a g w m o =
    let y = one_more bs j d p q h e i in
    pass_on {P = ChecksChoices known bs n t es} {Q = ChecksChoice known p q n t es} s s1 x
    (λ r u z. carries_second {P = ChecksChoices known (take j bs) n t es} {Q = ChecksChoice known p q n t es} s s1 (one_local known p q n t es s a g w) m r u
    (let v = append_choices known (take j bs) p q (assumptions_put r (assumptions es)) (put r (choice_type n t)) (subst (λ xs. ChecksChoices known xs n t es r) y (choices_take known bs (assumptions_put r (assumptions es)) (put r (choice_type n t)) (j + 1) z)) in (v.0, v.1.0)))
    (subst (λ z. Refuses (ChecksChoice known p q n t z) s1 x) k o)

pub choices_all : (known : Known) (bs : List tree.Alternative) (j n : ℕ) (t : Mono) (es : List Assumed) (s s1 : Solving) → length bs ≤ j → SolvedBy (ChecksChoices known (take j bs) n t es) s s1 → SolvedBy (ChecksChoices known bs n t es) s s1
choices_all known bs j n t es s s1 h m = subst (λ xs. SolvedBy (ChecksChoices known xs n t es) s s1) (take_all j bs h) m

pub choices_moved : {X : Type 0} (known : Known) (bs cs : List tree.Alternative) (n : ℕ) (t : Mono) (es fs : List Assumed) (s s' : Solving) (outcome : Result X UnifyFault) → fs ≡ es → bs ≡ cs → Answers (ChecksChoices known bs n t fs) s s' outcome → Answers (ChecksChoices known cs n t es) s s' outcome
choices_moved known bs cs n t es fs s s' outcome i j m = subst (λ x. Answers (ChecksChoices known x n t es) s s' outcome) j (subst (λ x. Answers (ChecksChoices known bs n t x) s s' outcome) i m)

-- a case expression

cased : Known → Expression → List tree.Alternative → Mono → List Assumed → (ℕ → Monotype) → (ℕ → Monotype) → Type 0
cased known x bs t es r us = Derives (assumptions_put r (assumptions es)) (expression_of known x) (us 0) × DeriveClauses (assumptions_put r (assumptions es)) (alternatives_of known (alternatives bs)) (arrow (us 0) (put r (monotype t)))

cased_local : (known : Known) (x : Expression) (bs : List tree.Alternative) (t : Mono) (es : List Assumed) (s : Solving) → AreAssumed s.given es → IsWellFormed s.given t → IsLocalIn (bound s) 1 (cased known x bs t es)
unfolding cased
cased_local known x bs t es s b w r q us ws g d p =
    let A = assumptions_put-agree r q (assumptions es) (λ x z. sym (g x (assumed_below s.given es b x z))) in
    let T = put-below (bound s) r q (monotype t) g (monotype-below s.given t w) in
    let U = sym (d 0 (omega arith)) in
    (subst₂ (λ C v. Derives C (expression_of known x) v) A U p.0, subst₂ (λ C v. DeriveClauses C (alternatives_of known (alternatives bs)) v) A (ap₂ arrow U T) p.1)

pub case_answers : {X : Type 0} (known : Known) (x : Expression) (bs : List tree.Alternative) (t : Mono) (first : ℕ) (es : List Assumed) (s s1 s2 s3 : Solving) (outcome : Result X UnifyFault) → FactsBelow (bound s) (problem s) → AreAssumed s.given es → IsWellFormed s.given t →
    s1 ≡ given_more s 1 → first ≡ s.given → SolvedBy (Checks known x (Var (var first)) es) s1 s2 → Answers (ChecksChoices known bs first t es) s2 s3 outcome → AnswersExpression known (case_expression x (alternatives bs)) t es s s3 outcome
unfolding cased
case_answers known x bs t first es s s1 s2 s3 outcome b as_ w e h m n = over outcome n
  where
    z : s.given + 0 ≡ first
    z = (let y = h in omega arith)

    both_asked : (ℕ → Monotype) → Type 0
    both_asked r = cased known x bs t es r (new_at s.given r)

    turn : (r : ℕ → Monotype) → r (number (var first)) ≡ new_at s.given r 0
    turn r = ap (λ n. r (number (var n))) (sym z)

    local1 : IsLocal (bound s1) (ChecksChoices known bs first t es)
    local1 = subst (λ y. IsLocal (bound y) (ChecksChoices known bs first t es)) (sym e) (all_local known bs first t es (given_more s 1) (assumed_later s.given (s.given + 1) es (omega arith) as_) (let y = h in omega arith) (well_formed_more s.given (s.given + 1) t (omega arith) w))

    to_both : (r : ℕ → Monotype) → Checks known x (Var (var first)) es r × ChecksChoices known bs first t es r → both_asked r
    to_both r p = (subst (Derives (assumptions_put r (assumptions es)) (expression_of known x)) (turn r) p.0, subst (λ v. DeriveClauses (assumptions_put r (assumptions es)) (alternatives_of known (alternatives bs)) (arrow v (put r (monotype t)))) (turn r) p.1)

    from_both : (r : ℕ → Monotype) → both_asked r → Checks known x (Var (var first)) es r × ChecksChoices known bs first t es r
    from_both r p = (subst (Derives (assumptions_put r (assumptions es)) (expression_of known x)) (sym (turn r)) p.0, subst (λ v. DeriveClauses (assumptions_put r (assumptions es)) (alternatives_of known (alternatives bs)) (arrow v (put r (monotype t)))) (sym (turn r)) p.1)

    over : {X : Type 0} (outcome : Result X UnifyFault) → Answers (ChecksChoices known bs first t es) s2 s3 outcome → AnswersExpression known (case_expression x (alternatives bs)) t es s s3 outcome
    over (Ok y) n =
        solved_same {P = λ r. (us : ℕ → Monotype) × cased known x bs t es r us} s s3 (λ r p. (p.0 0, p.1)) (λ r p. ((λ i. p.0), p.1))
        (solved_new {P = cased known x bs t es} s s3 1 b (cased_local known x bs t es s as_ w)
        (subst (λ y. SolvedBy both_asked y s3) e (solved_same {P = λ r. Checks known x (Var (var first)) es r × ChecksChoices known bs first t es r} s1 s3 to_both from_both (solved_both s1 s2 s3 local1 m n))))
    over (Err j) n =
        pass_on {P = Checks known (case_expression x (alternatives bs)) t es} {Q = both_asked} s (given_more s 1) j (λ r u p. carries_new {P = cased known x bs t es} s 1 b (cased_local known x bs t es s as_ w) r u ((λ i. p.0), p.1))
        (subst (λ y. Refuses both_asked y j) e (pass_on {P = both_asked} {Q = ChecksChoices known bs first t es} s1 s2 j (λ r u p. carries_second {P = Checks known x (Var (var first)) es} {Q = ChecksChoices known bs first t es} s1 s2 local1 m r u (from_both r p)) n))

pub case_refused : (known : Known) (x : Expression) (bs : List tree.Alternative) (t : Mono) (first : ℕ) (es : List Assumed) (s s1 : Solving) (j : UnifyFault) → FactsBelow (bound s) (problem s) → AreAssumed s.given es → IsWellFormed s.given t →
    s1 ≡ given_more s 1 → first ≡ s.given → Refuses (Checks known x (Var (var first)) es) s1 j → Refuses (Checks known (case_expression x (alternatives bs)) t es) s j
unfolding cased
case_refused known x bs t first es s s1 j b as_ w e h n =
    pass_on {P = Checks known (case_expression x (alternatives bs)) t es} {Q = λ r. cased known x bs t es r (new_at s.given r)} s (given_more s 1) j (λ r u p. carries_new {P = cased known x bs t es} s 1 b (cased_local known x bs t es s as_ w) r u ((λ i. p.0), p.1))
    (subst (λ y. Refuses (λ r. cased known x bs t es r (new_at s.given r)) y j) e
    (pass_on {P = λ r. cased known x bs t es r (new_at s.given r)} {Q = Checks known x (Var (var first)) es} s1 s1 j (λ r u p. (r, u, subst (Derives (assumptions_put r (assumptions es)) (expression_of known x)) (sym (ap (λ n. r (number (var n))) z)) p.0)) n))
  where
    z : first ≡ s.given + 0
    z = (let y = h in omega arith)

-- Sizes

pub expression_positive : (e : Expression) → 0 < expression_size e
expression_positive (variable_expression n) = omega arith
expression_positive (constructor_expression n) = omega arith
expression_positive (literal_expression l) = omega arith
expression_positive (application f a) = omega arith
expression_positive (lambda ps e) = omega arith
expression_positive (let_expression ds e) = omega arith
expression_positive (if_expression a b c) = omega arith
expression_positive (case_expression e bs) = omega arith
expression_positive (tuple_expression es) = omega arith
expression_positive (list_expression es) = omega arith
expression_positive (typed_expression e t) = omega arith

part_smaller : (ps : List Part) (j : ℕ) (d : Part) → j < length ps → bodies_size (body (get_or ps j d).0 (get_or ps j d).1 no_bodies) < suc (bodies_size (bodies ps))
part_smaller [] j d h = absurd (omega arith)
part_smaller ((None, x) ∷ ps) zero d h = omega arith
part_smaller ((Some y, x) ∷ ps) zero d h = omega arith
part_smaller ((None, x) ∷ ps) (suc j) d h = let l : bodies_size (body (get_or ps j d).0 (get_or ps j d).1 no_bodies) < suc (bodies_size (bodies ps)) = part_smaller ps j d (omega arith) in omega arith
part_smaller ((Some y, x) ∷ ps) (suc j) d h = let l : bodies_size (body (get_or ps j d).0 (get_or ps j d).1 no_bodies) < suc (bodies_size (bodies ps)) = part_smaller ps j d (omega arith) in omega arith

pub size_of_part : (ps : List Part) (j : ℕ) (d : Part) → j < length ps → d ≡ get_or ps j d → bodies_size (body d.0 d.1 no_bodies) < suc (bodies_size (bodies ps))
size_of_part ps j d h e = subst (λ k. bodies_size (body k.0 k.1 no_bodies) < suc (bodies_size (bodies ps))) (sym e) (part_smaller ps j d h)

choice_smaller : (bs : List tree.Alternative) (j : ℕ) (d : tree.Alternative) → j < length bs → suc (alternative_size (get_or bs j d)) < suc (alternatives_size (alternatives bs))
choice_smaller [] j d h = absurd (omega arith)
choice_smaller (b ∷ bs) zero d h = omega arith
choice_smaller (b ∷ bs) (suc j) d h = let l : suc (alternative_size (get_or bs j d)) < suc (alternatives_size (alternatives bs)) = choice_smaller bs j d (omega arith) in omega arith

pub size_of_choice : (bs : List tree.Alternative) (j : ℕ) (d : tree.Alternative) (p : tree.Pattern) (q : tree.RightSide) → j < length bs → d ≡ get_or bs j d → alternative p q ≡ d → suc (suc (right_side_size q)) < suc (alternatives_size (alternatives bs))
size_of_choice bs j d p q h e i = let l : suc (1 + right_side_size q) < suc (alternatives_size (alternatives bs)) = subst (λ k. suc (alternative_size k) < suc (alternatives_size (alternatives bs))) (sym e ∙ sym i) (choice_smaller bs j d h) in omega (arith, l)
