-- What checking answers, form by form.
use Rattle.std.proofs.Common.{◌≡◌, ℕ, zero, suc, ◌+◌, ◌<◌, ◌≤◌, Bool, true, false, cond, List, [], ◌∷◌, ◌++◌, length, take, get_or, Result, Ok, Err, IsErrAnd, refl, sym, ap, ap₂, ◌∙◌, subst, subst₂, arith}
use Rattle.std.proofs.lemmas.List.{take_more, take_all, length-take-le}
use Rattle.hm_types.specs.declared.Head.TheVariants as head
use Rattle.hm_types.specs.Types.{Var, App, put}
use Rattle.hm_types.specs.Monotypes.{Mono, var}
use Rattle.hm_syntax.specs.Names.{LiteralTree}
use Rattle.hm_syntax.specs.Trees.{Expression, application, if_expression, tuple_expression, list_expression, literal_expression}
use Rattle.hm_syntax.specs.Lists.{expressions}
use Rattle.hm_syntax.specs.Sizes.{expression_size, expressions_size}
use Rattle.hm_typing.specs.Schemes.{Monotype, arrow}
use Rattle.hm_typing.specs.Assumptions.{Assumptions, assumptions_put}
use Rattle.hm_typing.specs.Syntax.{bool, literal_type, expression_count}
use Rattle.hm_typing.specs.Patterns.{tuple, list}
use Rattle.hm_typing.specs.SecondForm.{Derives, DeriveAll}
use Rattle.hm_typing.specs.Problems.{FactsBelow, IsLocal}
use Rattle.hm_typing.proofs.SchemeLaws.{assumptions_put-agree}
use Rattle.hm_typing.proofs.Infer.{local, env_local}
use Rattle.hm_typing.proofs.Local.{DeriveAll-agree, arguments-agree}
use Rattle.hm_typing.proofs.Put.{put-lit}
use Rattle.hm_typing.proofs.Solve.{put-below}
use Rattle.hm_unify.specs.Solving.{Solving}
use Rattle.hm_unify.specs.WellFormed.{IsWellFormed}
use Rattle.hm_unify.proofs.WellFormed.{well_formed_more}
use Rattle.hm_unify.specs.declared.faults.UnifyFault.{UnifyFault}
use Rattle.hm_infer_context.specs.Problems.{number, monotype, problem, bound, Answers, Refuses, given_more, new_at}
use Rattle.hm_infer_context.specs.Environments.{Assumed, assumptions, AreAssumed}
use Rattle.hm_infer_context.specs.Patterns.{from_number}
use Rattle.hm_names.specs.Syntax.{Known, literal_of, expression_of, expressions_of}
use Rattle.hm_infer_context.proofs.Leaves.{monotype-below}
use Rattle.hm_infer_context.proofs.States.{Makes}
use Rattle.hm_infer_context.proofs.Outcomes.{SolvedBy, solved_same, solved_nothing, solved_both, solved_new, pass_on, passed_on, carries_second, carries_new, IsLocalIn}
use Rattle.hm_infer_context.proofs.FoundNames.{assumed_later, assumed_below}

-- Expressions

abbrev pub Checks : Known → Expression → Mono → List Assumed → (ℕ → Monotype) → Type 0
Checks known e t es r = Derives (assumptions_put r (assumptions es)) (expression_of known e) (put r (monotype t))

abbrev pub AnswersExpression : {X : Type 0} → Known → Expression → Mono → List Assumed → Solving → Solving → Result X UnifyFault → Type 0
AnswersExpression known e t es s s' outcome = Answers (Checks known e t es) s s' outcome

pub expression_is : {X : Type 0} (known : Known) (e f : Expression) (t : Mono) (es : List Assumed) (s s' : Solving) (outcome : Result X UnifyFault) → e ≡ f → AnswersExpression known e t es s s' outcome → AnswersExpression known f t es s s' outcome
expression_is known e f t es s s' outcome i a = subst (λ k. AnswersExpression known k t es s s' outcome) i a

pub checks_local : (known : Known) (e : Expression) (t : Mono) (es : List Assumed) (s : Solving) → AreAssumed s.given es → IsWellFormed s.given t → IsLocal (bound s) (Checks known e t es)
checks_local known e t es s a w = local (λ A u. Derives A (expression_of known e) u) (assumptions es) (monotype t) (bound s) (assumed_below s.given es a) (monotype-below s.given t w)

-- a literal

pub literal_checked : {X : Type 0} (known : Known) (l : LiteralTree) (t own : Mono) (es : List Assumed) (s s' : Solving) (outcome : Result X UnifyFault) → monotype own ≡ literal_type (literal_of l) → Answers (Makes t own) s s' outcome → AnswersExpression known (literal_expression l) t es s s' outcome
literal_checked known l t own es s s' (Ok x) e m = solved_same s s' (λ r d. d ∙ (ap (put r) e ∙ put-lit r (literal_of l))) (λ r d. d ∙ sym (ap (put r) e ∙ put-lit r (literal_of l))) m
literal_checked known l t own es s s' (Err k) e n = pass_on {P = Checks known (literal_expression l) t es} {Q = Makes t own} s s k (λ r u d. (r, u, d ∙ sym (ap (put r) e ∙ put-lit r (literal_of l)))) n

-- a conditional

chosen_turn : (known : Known) (p : Expression) (truth : Mono) (es : List Assumed) → monotype truth ≡ bool → (r : ℕ → Monotype) → Checks known p truth es r → Derives (assumptions_put r (assumptions es)) (expression_of known p) bool
chosen_turn known p truth es e r d = subst (Derives (assumptions_put r (assumptions es)) (expression_of known p)) (ap (put r) e) d

chosen_back : (known : Known) (p : Expression) (truth : Mono) (es : List Assumed) → monotype truth ≡ bool → (r : ℕ → Monotype) → Derives (assumptions_put r (assumptions es)) (expression_of known p) bool → Checks known p truth es r
chosen_back known p truth es e r d = subst (Derives (assumptions_put r (assumptions es)) (expression_of known p)) (sym (ap (put r) e)) d

pub if_answers : {X : Type 0} (known : Known) (p x y : Expression) (t truth : Mono) (es : List Assumed) (s s1 s2 s3 : Solving) (outcome : Result X UnifyFault) → AreAssumed s.given es → IsWellFormed s.given t → monotype truth ≡ bool → s.given ≤ s1.given →
    SolvedBy (Checks known p truth es) s s1 → SolvedBy (Checks known x t es) s1 s2 → AnswersExpression known y t es s2 s3 outcome → AnswersExpression known (if_expression p x y) t es s s3 outcome
if_answers known p x y t truth es s s1 s2 s3 (Ok z) a w e l m n o =
    solved_same {P = λ r. Checks known p truth es r × (Checks known x t es r × Checks known y t es r)} s s3 (λ r q. (chosen_turn known p truth es e r q.0, q.1)) (λ r q. (chosen_back known p truth es e r q.0, q.1))
    (solved_both s s1 s3 (λ r q f d. (checks_local known x t es s a w r q f d.0, checks_local known y t es s a w r q f d.1)) m
    (solved_both s1 s2 s3 (checks_local known y t es s1 (assumed_later s.given s1.given es l a) (well_formed_more s.given s1.given t l w)) n o))
if_answers known p x y t truth es s s1 s2 s3 (Err j) a w e l m n o =
    pass_on {P = Checks known (if_expression p x y) t es} {Q = Checks known y t es} s s2 j
    (λ r u q.
    let c = carries_second {P = Checks known p truth es} {Q = λ r. Checks known x t es r × Checks known y t es r} s s1 (λ r q f d. (checks_local known x t es s a w r q f d.0, checks_local known y t es s a w r q f d.1)) m r u (chosen_back known p truth es e r q.0, q.1) in
    carries_second {P = Checks known x t es} {Q = Checks known y t es} s1 s2 (checks_local known y t es s1 (assumed_later s.given s1.given es l a) (well_formed_more s.given s1.given t l w)) n c.0 c.1 c.2) o

pub if_refused_first : (known : Known) (p x y : Expression) (t truth : Mono) (es : List Assumed) (s : Solving) (j : UnifyFault) → monotype truth ≡ bool → Refuses (Checks known p truth es) s j → Refuses (Checks known (if_expression p x y) t es) s j
if_refused_first known p x y t truth es s j e n = pass_on {P = Checks known (if_expression p x y) t es} {Q = Checks known p truth es} s s j (λ r u q. (r, u, chosen_back known p truth es e r q.0)) n

pub if_refused_second : (known : Known) (p x y : Expression) (t truth : Mono) (es : List Assumed) (s s1 : Solving) (j : UnifyFault) → AreAssumed s.given es → IsWellFormed s.given t → monotype truth ≡ bool →
    SolvedBy (Checks known p truth es) s s1 → Refuses (Checks known x t es) s1 j → Refuses (Checks known (if_expression p x y) t es) s j
if_refused_second known p x y t truth es s s1 j a w e m n =
    pass_on {P = Checks known (if_expression p x y) t es} {Q = Checks known x t es} s s1 j (λ r u q. carries_second {P = Checks known p truth es} {Q = Checks known x t es} s s1 (checks_local known x t es s a w) m r u (chosen_back known p truth es e r q.0, q.1.0)) n

-- a type is taken apart into k new types, which expressions are checked against

module _ (I M : (ℕ → Monotype) → (ℕ → Monotype) → Type 0) where
  abbrev pub InParts : (ℕ → Monotype) → Type 0
  InParts r = (us : ℕ → Monotype) × (I r us × M r us)

  parts_local : (s : Solving) (k : ℕ) → IsLocalIn (bound s) k M → IsLocal (bound (given_more s k)) (λ r. M r (new_at s.given r))
  parts_local s k l r q f d = l r q (new_at s.given r) (new_at s.given q) (λ x h. f x (omega arith)) (λ i h. f (number (var (s.given + i))) (omega arith)) d

  pub parts_answers : {X : Type 0} (s : Solving) (k : ℕ) (s1 s2 : Solving) (outcome : Result X UnifyFault) → FactsBelow (bound s) (problem s) → IsLocalIn (bound s) k I → IsLocalIn (bound s) k M →
      SolvedBy (λ r. I r (new_at s.given r)) (given_more s k) s1 → Answers (λ r. M r (new_at s.given r)) s1 s2 outcome → Answers InParts s s2 outcome
  parts_answers s k s1 s2 (Ok x) b l n i m =
      solved_new {P = λ r us. I r us × M r us} s s2 k b (λ r q us ws f d p. (l r q us ws f d p.0, n r q us ws f d p.1)) (solved_both (given_more s k) s1 s2 (parts_local s k n) i m)
  parts_answers s k s1 s2 (Err e) b l n i m =
      pass_on {P = InParts} {Q = λ r. I r (new_at s.given r) × M r (new_at s.given r)} s (given_more s k) e (carries_new {P = λ r us. I r us × M r us} s k b (λ r q us ws f d p. (l r q us ws f d p.0, n r q us ws f d p.1)))
      (pass_on {P = λ r. I r (new_at s.given r) × M r (new_at s.given r)} {Q = λ r. M r (new_at s.given r)} (given_more s k) s1 e (carries_second {P = λ r. I r (new_at s.given r)} {Q = λ r. M r (new_at s.given r)} (given_more s k) s1 (parts_local s k n) i) m)

  pub parts_refused : (s : Solving) (k : ℕ) (e : UnifyFault) → FactsBelow (bound s) (problem s) → IsLocalIn (bound s) k I → IsLocalIn (bound s) k M → Refuses (λ r. I r (new_at s.given r)) (given_more s k) e → Refuses InParts s e
  parts_refused s k e b l n i =
      pass_on {P = InParts} {Q = λ r. I r (new_at s.given r)} s (given_more s k) e
      (λ r u p. (let c = carries_new {P = λ r us. I r us × M r us} s k b (λ r q us ws f d p. (l r q us ws f d p.0, n r q us ws f d p.1)) r u p in (c.0, c.1, c.2.0))) i

-- rows of expressions

abbrev pub ChecksAll : Known → List Expression → Bool → ℕ → List Assumed → (ℕ → Monotype) → Type 0
ChecksAll known ps same first es r = DeriveAll (assumptions_put r (assumptions es)) (expressions_of known (expressions ps)) (λ j. put r (from_number same first j)) 0

pub expressions_count : (known : Known) (ps : List Expression) → expression_count (expressions_of known (expressions ps)) ≡ length ps
expressions_count known [] = refl
expressions_count known (p ∷ ps) = ap suc (expressions_count known ps)

row_derived : Known → List Expression → List Assumed → (ℕ → Monotype) → (ℕ → Monotype) → Type 0
row_derived known ps es r us = DeriveAll (assumptions_put r (assumptions es)) (expressions_of known (expressions ps)) us 0

row_derived_local : (known : Known) (ps : List Expression) (es : List Assumed) (s : Solving) → AreAssumed s.given es → IsLocalIn (bound s) (length ps) (row_derived known ps es)
unfolding row_derived
row_derived_local known ps es s a r q us ws f d p =
    DeriveAll-agree (expressions_of known (expressions ps)) _ us ws 0 (λ j l h. sym (d j (let c = expressions_count known ps in omega (arith, c)))) (env_local (λ C. DeriveAll C (expressions_of known (expressions ps)) us 0) (assumptions es) (bound s) (assumed_below s.given es a) r q f p)

each_derived : Known → List Expression → List Assumed → (ℕ → Monotype) → (ℕ → Monotype) → Type 0
each_derived known ps es r us = DeriveAll (assumptions_put r (assumptions es)) (expressions_of known (expressions ps)) (λ j. us 0) 0

each_derived_local : (known : Known) (ps : List Expression) (es : List Assumed) (s : Solving) → AreAssumed s.given es → IsLocalIn (bound s) 1 (each_derived known ps es)
unfolding each_derived
each_derived_local known ps es s a r q us ws f d p =
    DeriveAll-agree (expressions_of known (expressions ps)) _ (λ j. us 0) (λ j. ws 0) 0 (λ j l h. sym (d 0 (omega arith))) (env_local (λ C. DeriveAll C (expressions_of known (expressions ps)) (λ j. us 0) 0) (assumptions es) (bound s) (assumed_below s.given es a) r q f p)

pub answers_reworded : {X : Type 0} (P Q : (ℕ → Monotype) → Type 0) (s s' : Solving) (outcome : Result X UnifyFault) → ((r : ℕ → Monotype) → P r → Q r) → ((r : ℕ → Monotype) → Q r → P r) → Answers P s s' outcome → Answers Q s s' outcome
answers_reworded P Q s s' (Ok x) f g a = solved_same {P = P} {Q = Q} s s' f g a
answers_reworded P Q s s' (Err e) f g a = pass_on {P = Q} {Q = P} s s e (λ r u p. (r, u, g r p)) a

-- a tuple

tuple_derived : ℕ → Mono → (ℕ → Monotype) → (ℕ → Monotype) → Type 0
tuple_derived k t r us = put r (monotype t) ≡ tuple k us

tuple_derived_local : (k : ℕ) (t : Mono) (s : Solving) → IsWellFormed s.given t → IsLocalIn (bound s) k (tuple_derived k t)
unfolding tuple_derived
tuple_derived_local k t s w r q us ws f d p = sym (put-below (bound s) r q (monotype t) f (monotype-below s.given t w)) ∙ (p ∙ ap (App (head.Tuple k)) (arguments-agree k us ws 0 (λ j l h. sym (d j (omega arith)))))

pub tuple_checked : {X : Type 0} (known : Known) (ps qs : List Expression) (count first : ℕ) (t : Mono) (es : List Assumed) (s s1 s2 : Solving) (outcome : Result X UnifyFault) → count ≡ length ps → qs ≡ ps → FactsBelow (bound s) (problem s) → AreAssumed s.given es → IsWellFormed s.given t → first ≡ s.given →
    SolvedBy (λ r. put r (monotype t) ≡ tuple count (new_at s.given r)) (given_more s count) s1 → Answers (ChecksAll known qs false first es) s1 s2 outcome → AnswersExpression known (tuple_expression (expressions ps)) t es s s2 outcome
unfolding tuple_derived row_derived
tuple_checked known ps qs count first t es s s1 s2 outcome e g b a w h i m =
    let k = length ps in
    let c = expressions_count known ps in
    answers_reworded (InParts (tuple_derived k t) (row_derived known ps es)) (Checks known (tuple_expression (expressions ps)) t es) s s2 outcome (λ r p. (p.0, (p.1.0 ∙ ap (λ j. tuple j p.0) (sym c), p.1.1))) (λ r p. (p.0, (p.1.0 ∙ ap (λ j. tuple j p.0) c, p.1.1)))
    (parts_answers (tuple_derived k t) (row_derived known ps es) s k s1 s2 outcome b (tuple_derived_local k t s w) (row_derived_local known ps es s a) (subst (λ j. SolvedBy (λ r. put r (monotype t) ≡ tuple j (new_at s.given r)) (given_more s j) s1) e i)
    (subst (λ n. Answers (λ r. DeriveAll (assumptions_put r (assumptions es)) (expressions_of known (expressions ps)) (new_at n r) 0) s1 s2 outcome) h (subst (λ z. Answers (ChecksAll known z false first es) s1 s2 outcome) g m)))

pub tuple_unchecked : (known : Known) (ps : List Expression) (count : ℕ) (t : Mono) (es : List Assumed) (s : Solving) (j : UnifyFault) → count ≡ length ps → FactsBelow (bound s) (problem s) → AreAssumed s.given es → IsWellFormed s.given t →
    Refuses (λ r. put r (monotype t) ≡ tuple count (new_at s.given r)) (given_more s count) j → Refuses (Checks known (tuple_expression (expressions ps)) t es) s j
unfolding tuple_derived row_derived
tuple_unchecked known ps count t es s j e b a w i =
    let k = length ps in
    let c = expressions_count known ps in
    pass_on {P = Checks known (tuple_expression (expressions ps)) t es} {Q = InParts (tuple_derived k t) (row_derived known ps es)} s s j (λ r u p. (r, u, (p.0, (p.1.0 ∙ ap (λ j. tuple j p.0) c, p.1.1))))
    (parts_refused (tuple_derived k t) (row_derived known ps es) s k j b (tuple_derived_local k t s w) (row_derived_local known ps es s a) (subst (λ n. Refuses (λ r. put r (monotype t) ≡ tuple n (new_at s.given r)) (given_more s n) j) e i))

-- a list

list_derived : Mono → (ℕ → Monotype) → (ℕ → Monotype) → Type 0
list_derived t r us = put r (monotype t) ≡ list (us 0)

list_derived_local : (t : Mono) (s : Solving) → IsWellFormed s.given t → IsLocalIn (bound s) 1 (list_derived t)
unfolding list_derived
list_derived_local t s w r q us ws f d p = sym (put-below (bound s) r q (monotype t) f (monotype-below s.given t w)) ∙ (p ∙ ap list (sym (d 0 (omega arith))))

pub list_checked : {X : Type 0} (known : Known) (ps qs : List Expression) (first : ℕ) (t : Mono) (es : List Assumed) (s s1 s2 : Solving) (outcome : Result X UnifyFault) → qs ≡ ps → FactsBelow (bound s) (problem s) → AreAssumed s.given es → IsWellFormed s.given t → first ≡ s.given →
    SolvedBy (λ r. put r (monotype t) ≡ list (new_at s.given r 0)) (given_more s 1) s1 → Answers (ChecksAll known qs true first es) s1 s2 outcome → AnswersExpression known (list_expression (expressions ps)) t es s s2 outcome
unfolding list_derived each_derived
list_checked known ps qs first t es s s1 s2 outcome g b a w h i m =
    let z : s.given + 0 ≡ s.given = omega arith in
    answers_reworded (InParts (list_derived t) (each_derived known ps es)) (Checks known (list_expression (expressions ps)) t es) s s2 outcome (λ r p. (p.0 0, (p.1.0, p.1.1))) (λ r p. ((λ j. p.0), (p.1.0, p.1.1)))
    (parts_answers (list_derived t) (each_derived known ps es) s 1 s1 s2 outcome b (list_derived_local t s w) (each_derived_local known ps es s a) i
    (subst (λ n. Answers (λ r. DeriveAll (assumptions_put r (assumptions es)) (expressions_of known (expressions ps)) (λ j. r (number (var n))) 0) s1 s2 outcome) (h ∙ sym z) (subst (λ y. Answers (ChecksAll known y true first es) s1 s2 outcome) g m)))

pub list_unchecked : (known : Known) (ps : List Expression) (t : Mono) (es : List Assumed) (s : Solving) (j : UnifyFault) → FactsBelow (bound s) (problem s) → AreAssumed s.given es → IsWellFormed s.given t →
    Refuses (λ r. put r (monotype t) ≡ list (new_at s.given r 0)) (given_more s 1) j → Refuses (Checks known (list_expression (expressions ps)) t es) s j
unfolding list_derived each_derived
list_unchecked known ps t es s j b a w i =
    pass_on {P = Checks known (list_expression (expressions ps)) t es} {Q = InParts (list_derived t) (each_derived known ps es)} s s j (λ r u p. (r, u, ((λ j. p.0), (p.1.0, p.1.1))))
    (parts_refused (list_derived t) (each_derived known ps es) s 1 j b (list_derived_local t s w) (each_derived_local known ps es s a) i)

-- a row, the first first

derive_append : (known : Known) (xs : List Expression) (d : Expression) (A : Assumptions) (ts : ℕ → Monotype) (i : ℕ) → DeriveAll A (expressions_of known (expressions xs)) ts i × Derives A (expression_of known d) (ts (i + length xs)) → DeriveAll A (expressions_of known (expressions (xs ++ d ∷ []))) ts i
derive_append known [] d A ts i p = let z : i + 0 ≡ i = omega arith in (subst (λ k. Derives A (expression_of known d) (ts k)) z p.1, tt)
derive_append known (x ∷ xs) d A ts i p = let z : i + suc (length xs) ≡ suc i + length xs = omega arith in (p.0.0, derive_append known xs d A ts (suc i) (p.0.1, subst (λ k. Derives A (expression_of known d) (ts k)) z p.1))

append_derive : (known : Known) (xs : List Expression) (d : Expression) (A : Assumptions) (ts : ℕ → Monotype) (i : ℕ) → DeriveAll A (expressions_of known (expressions (xs ++ d ∷ []))) ts i → DeriveAll A (expressions_of known (expressions xs)) ts i × Derives A (expression_of known d) (ts (i + length xs))
append_derive known [] d A ts i p = let z : i ≡ i + 0 = omega arith in (tt, subst (λ k. Derives A (expression_of known d) (ts k)) z p.0)
append_derive known (x ∷ xs) d A ts i p =
    let z : suc i + length xs ≡ i + suc (length xs) = omega arith in
    let q = append_derive known xs d A ts (suc i) p.1 in
    ((p.0, q.0), subst (λ k. Derives A (expression_of known d) (ts k)) z q.1)

derive_take : (known : Known) (ps : List Expression) (A : Assumptions) (ts : ℕ → Monotype) (i k : ℕ) → DeriveAll A (expressions_of known (expressions ps)) ts i → DeriveAll A (expressions_of known (expressions (take k ps))) ts i
derive_take known ps A ts i zero p = tt
derive_take known [] A ts i (suc k) p = tt
derive_take known (x ∷ ps) A ts i (suc k) p = (p.0, derive_take known ps A ts (suc i) k p.1)

derive_at : (known : Known) (ps : List Expression) (d : Expression) (A : Assumptions) (ts : ℕ → Monotype) (i k : ℕ) → k < length ps → DeriveAll A (expressions_of known (expressions ps)) ts i → Derives A (expression_of known (get_or ps k d)) (ts (i + k))
derive_at known [] d A ts i k h p = absurd (omega arith)
derive_at known (x ∷ ps) d A ts i zero h p = let z : i ≡ i + 0 = omega arith in subst (λ k. Derives A (expression_of known x) (ts k)) z p.0
derive_at known (x ∷ ps) d A ts i (suc k) h p = let z : suc i + k ≡ i + suc k = omega arith in subst (λ j. Derives A (expression_of known (get_or ps k d)) (ts j)) z (derive_at known ps d A ts (suc i) k (omega arith) p.1)

pub row_nothing : (known : Known) (ps : List Expression) (same : Bool) (first : ℕ) (es : List Assumed) (s : Solving) → FactsBelow (bound s) (problem s) → SolvedBy (ChecksAll known (take 0 ps) same first es) s s
row_nothing known ps same first es s b = solved_nothing s b

pub row_more : (known : Known) (ps : List Expression) (i n : ℕ) (d : Expression) (same : Bool) (first : ℕ) (es fs : List Assumed) (s s1 s2 : Solving) → fs ≡ es → n ≡ cond same first (first + i) → i < length ps → d ≡ get_or ps i d → AreAssumed s.given es → ((j : ℕ) → j < length ps → cond same first (first + j) < s.given) →
    SolvedBy (ChecksAll known (take i ps) same first es) s s1 → SolvedBy (Checks known d (Var (var n)) fs) s1 s2 → SolvedBy (ChecksAll known (take (i + 1) ps) same first es) s s2
row_more known ps i n d same first es fs s s1 s2 k e h g a w m o =
    let l : length (take i ps) ≡ i = length-take-le i ps (omega arith) in
    let z : 0 + length (take i ps) ≡ i = omega arith in
    let y : take (i + 1) ps ≡ take i ps ++ d ∷ [] = take_more ps i d h ∙ ap (λ x. take i ps ++ x ∷ []) (sym g) in
    let at : (r : ℕ → Monotype) → put r (monotype (Var (var n))) ≡ put r (from_number same first (0 + length (take i ps))) = λ r. ap (λ j. r (number (var j))) (e ∙ ap (λ j. cond same first (first + j)) (sym z)) in
    solved_same {P = λ r. ChecksAll known (take i ps) same first es r × Checks known d (Var (var n)) es r} {Q = ChecksAll known (take (i + 1) ps) same first es} s s2
    (λ r p. subst (λ xs. ChecksAll known xs same first es r) (sym y) (derive_append known (take i ps) d (assumptions_put r (assumptions es)) (λ j. put r (from_number same first j)) 0 (p.0, subst (Derives (assumptions_put r (assumptions es)) (expression_of known d)) (at r) p.1)))
    (λ r p. (let q = append_derive known (take i ps) d (assumptions_put r (assumptions es)) (λ j. put r (from_number same first j)) 0 (subst (λ xs. ChecksAll known xs same first es r) y p) in (q.0, subst (Derives (assumptions_put r (assumptions es)) (expression_of known d)) (sym (at r)) q.1)))
    (solved_both s s1 s2 (checks_local known d (Var (var n)) es s a (subst (λ j. j < s.given) (sym e) (w i h))) m (subst (λ y. SolvedBy (Checks known d (Var (var n)) y) s1 s2) k o))

pub row_unchecked : (known : Known) (ps : List Expression) (i n : ℕ) (d : Expression) (same : Bool) (first : ℕ) (es fs : List Assumed) (s s1 : Solving) (k : UnifyFault) → fs ≡ es → n ≡ cond same first (first + i) → i < length ps → d ≡ get_or ps i d → AreAssumed s.given es → ((j : ℕ) → j < length ps → cond same first (first + j) < s.given) →
    SolvedBy (ChecksAll known (take i ps) same first es) s s1 → Refuses (Checks known d (Var (var n)) fs) s1 k → Refuses (ChecksAll known ps same first es) s k
row_unchecked known ps i n d same first es fs s s1 k z e h g a w m o =
    pass_on {P = ChecksAll known ps same first es} {Q = Checks known d (Var (var n)) es} s s1 k
    (λ r u p. carries_second {P = ChecksAll known (take i ps) same first es} {Q = Checks known d (Var (var n)) es} s s1 (checks_local known d (Var (var n)) es s a (subst (λ j. j < s.given) (sym e) (w i h))) m r u (
      derive_take known ps (assumptions_put r (assumptions es)) (λ j. put r (from_number same first j)) 0 i p,
      subst (λ x. Derives (assumptions_put r (assumptions es)) (expression_of known x) (put r (monotype (Var (var n))))) (sym g)
          (subst (Derives (assumptions_put r (assumptions es)) (expression_of known (get_or ps i d))) (ap (λ j. r (number (var j))) (ap (λ j. cond same first (first + j)) zero_plus ∙ sym e)) (derive_at known ps d (assumptions_put r (assumptions es)) (λ j. put r (from_number same first j)) 0 i h p)),
    ))
    (subst (λ y. Refuses (Checks known d (Var (var n)) y) s1 k) z o)
  where
    zero_plus : 0 + i ≡ i
    zero_plus = omega arith

pub row_all : (known : Known) (ps : List Expression) (i : ℕ) (same : Bool) (first : ℕ) (es : List Assumed) (s s1 : Solving) → length ps ≤ i → SolvedBy (ChecksAll known (take i ps) same first es) s s1 → SolvedBy (ChecksAll known ps same first es) s s1
row_all known ps i same first es s s1 h m = subst (λ xs. SolvedBy (ChecksAll known xs same first es) s s1) (take_all i ps h) m

pub solved_grows : (P : (ℕ → Monotype) → Type 0) (s s1 : Solving) → SolvedBy P s s1 → s.given ≤ s1.given
solved_grows P s s1 m = let g = m.grows in omega arith

pub size_of_item : (ps : List Expression) (i : ℕ) (d : Expression) → i < length ps → d ≡ get_or ps i d → expression_size d < expressions_size (expressions ps)
size_of_item ps i d h e = let k : expression_size d ≡ expression_size (get_or ps i d) = ap expression_size e in let l = item ps i d h in omega arith
  where
    item : (ps : List Expression) (i : ℕ) (d : Expression) → i < length ps → expression_size (get_or ps i d) < expressions_size (expressions ps)
    item [] i d h = absurd (omega arith)
    item (p ∷ ps) zero d h = omega arith
    item (p ∷ ps) (suc i) d h = let l : expression_size (get_or ps i d) < expressions_size (expressions ps) = item ps i d (omega arith) in omega arith

-- In the states of the program: the environment is as it was, and a box lends its expression

pub moved_solved : (known : Known) (e f : Expression) (t : Mono) (es fs : List Assumed) (s s' : Solving) → fs ≡ es → e ≡ f → SolvedBy (Checks known e t fs) s s' → SolvedBy (Checks known f t es) s s'
moved_solved known e f t es fs s s' i j m = subst (λ x. SolvedBy (Checks known x t es) s s') j (subst (λ x. SolvedBy (Checks known e t x) s s') i m)

pub moved_refused : (known : Known) (e f : Expression) (t : Mono) (es fs : List Assumed) (s : Solving) (k : UnifyFault) → fs ≡ es → e ≡ f → Refuses (Checks known e t fs) s k → Refuses (Checks known f t es) s k
moved_refused known e f t es fs s k i j m = subst (λ x. Refuses (Checks known x t es) s k) j (subst (λ x. Refuses (Checks known e t x) s k) i m)

pub moved_answers : {X : Type 0} (known : Known) (e f : Expression) (t : Mono) (es fs : List Assumed) (s s' : Solving) (outcome : Result X UnifyFault) → fs ≡ es → e ≡ f → AnswersExpression known e t fs s s' outcome → AnswersExpression known f t es s s' outcome
moved_answers known e f t es fs s s' outcome i j m = subst (λ x. AnswersExpression known x t es s s' outcome) j (subst (λ x. AnswersExpression known e t x s s' outcome) i m)

pub assumed_at : (s s1 : Solving) (es fs : List Assumed) → fs ≡ es → s.given ≤ s1.given → AreAssumed s.given es → AreAssumed s1.given fs
assumed_at s s1 es fs e l a = subst (AreAssumed s1.given) (sym e) (assumed_later s.given s1.given es l a)

pub type_at : (s s1 : Solving) (t : Mono) → s.given ≤ s1.given → IsWellFormed s.given t → IsWellFormed s1.given t
type_at s s1 t l w = well_formed_more s.given s1.given t l w

pub given_next : (s s1 : Solving) (k : ℕ) → s1 ≡ given_more s k → s.given ≤ s1.given
given_next s s1 k e = let g = ap (λ z. z.given) e in omega (arith, g)

pub first_given : (s s1 : Solving) (first : ℕ) → s1 ≡ given_more s 1 → first ≡ s.given → first < s1.given
first_given s s1 first e h = let g = ap (λ z. z.given) e in omega (arith, g)

pub parts_assumed : (Q : (ℕ → Monotype) → Type 0) (s s1 : Solving) (k : ℕ) (es : List Assumed) → SolvedBy Q (given_more s k) s1 → AreAssumed s.given es → AreAssumed s1.given es
parts_assumed Q s s1 k es i a = assumed_later s.given s1.given es (let g = i.grows in omega arith) a

pub refused_by : {X : Type 0} (P : (ℕ → Monotype) → Type 0) (s s1 : Solving) (outcome : Result X UnifyFault) (e : UnifyFault) → IsErrAnd outcome (λ y. y ≡ e) → Refuses P s e → Answers P s s1 outcome
refused_by P s s1 outcome e i n = passed_on {P = P} {Q = P} s s s1 outcome e i (λ r u p. (r, u, p)) n

pub row_number : (s s1 : Solving) (n : ℕ) (ps : List Expression) (j : ℕ) (same : Bool) (first : ℕ) → s.given ≤ s1.given → n ≡ cond same first (first + j) → j < length ps → ((i : ℕ) → i < length ps → cond same first (first + i) < s.given) → n < s1.given
row_number s s1 n ps j same first l e h g = let f = g j h in subst (λ z. z < s1.given) (sym e) (omega arith)
