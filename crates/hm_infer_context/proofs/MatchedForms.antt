-- What matching answers, form by form.
use Rattle.std.proofs.Common.{◌≡◌, ℕ, zero, suc, ◌+◌, ◌-◌, ◌<◌, ◌≤◌, Bool, true, false, cond, List, [], ◌∷◌, length, drop, get_or, Result, Ok, Err, OnOk, refl, sym, ap, ◌∙◌, subst, arith}
use Rattle.std.proofs.Math.Seq.{drop-length, drop-cons}
use Rattle.hm_types.specs.declared.Head.TheVariants as head
use Rattle.hm_types.specs.Types.{Var, App, put}
use Rattle.hm_types.specs.Monotypes.{Mono, var}
use Rattle.hm_syntax.specs.Names.{Identifier as Name, LiteralTree}
use Rattle.hm_syntax.specs.Trees.{Pattern, bound_pattern, literal_pattern, tuple_pattern, list_pattern, Patterns}
use Rattle.hm_syntax.specs.Lists.{patterns}
use Rattle.hm_syntax.specs.Sizes.{pattern_size, patterns_size}
use Rattle.hm_typing.specs.Names.{Identifier}
use Rattle.hm_typing.specs.Schemes.{Monotype}
use Rattle.hm_typing.specs.Syntax.{pattern_names, patterns_names, pattern_count, literal_type}
use Rattle.hm_typing.specs.Patterns.{Matches, MatchesAll, tuple, list}
use Rattle.hm_typing.specs.Problems.{FactsBelow}
use Rattle.hm_typing.proofs.Put.{put-lit}
use Rattle.hm_typing.proofs.Solve.{put-below}
use Rattle.hm_typing.proofs.Local.{Matches-agree, MatchesAll-agree, arguments-agree}
use Rattle.hm_unify.specs.Solving.{Solving}
use Rattle.hm_unify.specs.WellFormed.{IsWellFormed}
use Rattle.hm_unify.specs.declared.faults.UnifyFault.{UnifyFault}
use Rattle.hm_unify.specs.declared.faults.UnifyFault.TheVariants.{Clash, Memory}
use Rattle.hm_infer_context.specs.Problems.{number, monotype, problem, bound, Answers, Refuses, given_more, new_at}
use Rattle.hm_infer_context.specs.Patterns.{Variable, HaveTypes, AreGiven, IsMatched, RefusesMatch, Matched, from_number}
use Rattle.hm_names.specs.Syntax.{Known, name_of, literal_of, pattern_of, patterns_of}
use Rattle.hm_infer_context.proofs.Leaves.{monotype-below}
use Rattle.hm_infer_context.proofs.States.{Makes}
use Rattle.hm_infer_context.proofs.Outcomes.{SolvedBy, solved_same, pass_on, IsLocalIn}
use Rattle.hm_infer_context.proofs.Matching.{matched_plain, matched_nothing, matched_same, matched_then, refused_then, refused_same, refused_plain, matched_guess, refused_guess, continues_on, given_later, IsOf}

abbrev pub Asks : Known → Pattern → Mono → (Identifier → Monotype) → (ℕ → Monotype) → Type 0
Asks known p t ρ r = Matches ρ (pattern_of known p) (put r (monotype t))

abbrev pub AnswersPattern : {X : Type 0} → Known → Pattern → Mono → Solving → List Variable → Solving → List Variable → Result X UnifyFault → Type 0
AnswersPattern known p t s vs s' vs' outcome = Matched (Asks known p t) (pattern_names (pattern_of known p)) s vs s' vs' outcome

pub pattern_is : {X : Type 0} (known : Known) (p q : Pattern) (t : Mono) (s : Solving) (vs : List Variable) (s' : Solving) (vs' : List Variable) (outcome : Result X UnifyFault) → p ≡ q → AnswersPattern known p t s vs s' vs' outcome → AnswersPattern known q t s vs s' vs' outcome
pattern_is known p q t s vs s' vs' outcome e a = subst (λ k. AnswersPattern known k t s vs s' vs' outcome) e a

type_local : (s : Solving) (t : Mono) (r q : ℕ → Monotype) → IsWellFormed s.given t → ((x : ℕ) → x < bound s → q x ≡ r x) → put r (monotype t) ≡ put q (monotype t)
type_local s t r q w f = put-below (bound s) r q (monotype t) f (monotype-below s.given t w)

-- x@p

pub bound_answers : {X : Type 0} (known : Known) (n : Name) (p : Pattern) (t : Mono) (s : Solving) (vs : List Variable) (s1 : Solving) (vs1 : List Variable) (s2 : Solving) (vs2 : List Variable) (outcome : Result X UnifyFault) → IsWellFormed s.given t →
    ((τ : Identifier → Monotype) → HaveTypes τ vs → (τ1 : Identifier → Monotype) × IsMatched (Asks known p t) (pattern_names (pattern_of known p)) s vs τ s1 vs1 τ1) →
    Matched (IsOf t (name_of n)) (name_of n ∷ []) s1 vs1 s2 vs2 outcome → AnswersPattern known (bound_pattern n p) t s vs s2 vs2 outcome
bound_answers known n p t s vs s1 vs1 s2 vs2 (Ok x) w a b = λ τ h.
    let m = a τ h in
    let k = b m.0 m.1.typed in (
      k.0,
      matched_same (λ ρ r. Asks known p t ρ r × IsOf t (name_of n) ρ r) (Asks known (bound_pattern n p) t) _ s vs τ s2 vs2 k.0 (λ ρ r q. (q.1, q.0)) (λ ρ r q. (q.1, q.0))
          (matched_then (Asks known p t) (IsOf t (name_of n)) (pattern_names (pattern_of known p)) (name_of n ∷ []) s vs τ s1 vs1 m.0 s2 vs2 k.0 (λ r q ρ f e. sym (type_local s t r q w f) ∙ e) (λ r ρ σ f e. Matches-agree (pattern_of known p) ρ σ _ f e) m.1 k.1),
    )
bound_answers known n p t s vs s1 vs1 s2 vs2 (Err e) w a b = λ τ h.
    let m = a τ h in
    refused_same (λ ρ r. Asks known p t ρ r × IsOf t (name_of n) ρ r) (Asks known (bound_pattern n p) t) s vs τ e (λ ρ r q. (q.1, q.0))
    (refused_then (Asks known p t) (IsOf t (name_of n)) (pattern_names (pattern_of known p)) s vs τ s1 vs1 m.0 e (λ r q ρ f d. sym (type_local s t r q w f) ∙ d) m.1 (b m.0 m.1.typed))

pub bound_refused : (known : Known) (n : Name) (p : Pattern) (t : Mono) (s : Solving) (vs : List Variable) (e : UnifyFault) → ((τ : Identifier → Monotype) → HaveTypes τ vs → RefusesMatch (Asks known p t) s vs τ e) →
    (τ : Identifier → Monotype) → HaveTypes τ vs → RefusesMatch (Asks known (bound_pattern n p) t) s vs τ e
bound_refused known n p t s vs e a τ h = refused_same (Asks known p t) (Asks known (bound_pattern n p) t) s vs τ e (λ ρ r q. q.1) (a τ h)

-- a literal

pub literal_answers : {X : Type 0} (known : Known) (l : LiteralTree) (t own : Mono) (s : Solving) (vs : List Variable) (s' : Solving) (outcome : Result X UnifyFault) → AreGiven s.given vs → monotype own ≡ literal_type (literal_of l) →
    OnOk outcome (s'.given ≡ s.given) → Answers (Makes t own) s s' outcome → AnswersPattern known (literal_pattern l) t s vs s' vs outcome
literal_answers known l t own s vs s' (Ok x) a e g m = λ τ h.
    (τ, matched_plain {P = λ r. put r (monotype t) ≡ literal_type (literal_of l)} s s' vs τ (omega (arith, g)) h a (solved_same s s' (λ r d. d ∙ (ap (put r) e ∙ put-lit r (literal_of l))) (λ r d. d ∙ sym (ap (put r) e ∙ put-lit r (literal_of l))) m))
literal_answers known l t own s vs s' (Err k) a e g n = λ τ h.
    refused_plain (λ r. put r (monotype t) ≡ literal_type (literal_of l)) s vs τ k (pass_on {P = λ r. put r (monotype t) ≡ literal_type (literal_of l)} {Q = Makes t own} s s k (λ r u d. (r, u, d ∙ sym (ap (put r) e ∙ put-lit r (literal_of l)))) n)

-- a part that asks of types alone, and then a part with variables

plain_then : (P : (ℕ → Monotype) → Type 0) (Q : (Identifier → Monotype) → (ℕ → Monotype) → Type 0) (ys : List Identifier) (s : Solving) (vs : List Variable) (τ : Identifier → Monotype) (s1 s2 : Solving) (vs2 : List Variable) (τ2 : Identifier → Monotype) →
    s.given ≤ s1.given → HaveTypes τ vs → AreGiven s.given vs → ((r q : ℕ → Monotype) (ρ : Identifier → Monotype) → ((x : ℕ) → x < bound s → q x ≡ r x) → Q ρ r → Q ρ q) →
    SolvedBy P s s1 → IsMatched Q ys s1 vs τ s2 vs2 τ2 → IsMatched (λ ρ r. P r × Q ρ r) ys s vs τ s2 vs2 τ2
plain_then P Q ys s vs τ s1 s2 vs2 τ2 l h a local m n = record {
  grows = (let g = n.grows in omega arith);
  below = n.below;
  names = n.names;
  typed = n.typed;
  given = n.given;
  stay = n.stay;
  sound = λ r u. (let b = n.sound r u in let c = m.sound r b.0 in (c.0, (c.1, b.1)));
  complete = λ r ρ u c p.
      let b = m.complete r u p.0 in
      let d = n.complete b.0 ρ b.2 (continues_on s vs τ ρ r b.0 h a b.1 c) (local r b.0 ρ b.1 p.1) in
      (d.0, (λ x k. d.1 x (omega arith) ∙ b.1 x k), d.2, d.3);
}

refused_plain_then : (P : (ℕ → Monotype) → Type 0) (Q : (Identifier → Monotype) → (ℕ → Monotype) → Type 0) (s : Solving) (vs : List Variable) (τ : Identifier → Monotype) (s1 : Solving) (e : UnifyFault) →
    HaveTypes τ vs → AreGiven s.given vs → ((r q : ℕ → Monotype) (ρ : Identifier → Monotype) → ((x : ℕ) → x < bound s → q x ≡ r x) → Q ρ r → Q ρ q) →
    SolvedBy P s s1 → RefusesMatch Q s1 vs τ e → RefusesMatch (λ ρ r. P r × Q ρ r) s vs τ e
refused_plain_then P Q s vs τ s1 Clash h a local m n = λ r ρ u c p. (let b = m.complete r u p.0 in n b.0 ρ b.2 (continues_on s vs τ ρ r b.0 h a b.1 c) (local r b.0 ρ b.1 p.1))
refused_plain_then P Q s vs τ s1 Memory h a local m n = tt

-- a type is taken apart into k new types, which patterns are matched against

new_agree : (g k : ℕ) (r q : ℕ → Monotype) → ((x : ℕ) → x < (g + k) + (g + k) → q x ≡ r x) → (i : ℕ) → i < k → new_at g q i ≡ new_at g r i
new_agree g k r q f i h = f (number (var (g + i))) (omega arith)

bound_le : (s s1 : Solving) (k : ℕ) → bound (given_more s k) ≤ bound s1 → s.given + k ≤ s1.given
bound_le s s1 k l = omega arith

module _ (I : (ℕ → Monotype) → (ℕ → Monotype) → Type 0) (M : (Identifier → Monotype) → (ℕ → Monotype) → Type 0) where
  abbrev pub Parted : (Identifier → Monotype) → (ℕ → Monotype) → Type 0
  Parted ρ r = (us : ℕ → Monotype) × (I r us × M ρ us)

  pub parted_answers : {X : Type 0} (ys : List Identifier) (s : Solving) (k : ℕ) (vs : List Variable) (s1 s2 : Solving) (vs2 : List Variable) (outcome : Result X UnifyFault) → FactsBelow (bound s) (problem s) → AreGiven s.given vs → IsLocalIn (bound s) k I →
      ((us ws : ℕ → Monotype) (ρ : Identifier → Monotype) → ((i : ℕ) → i < k → ws i ≡ us i) → M ρ us → M ρ ws) →
      SolvedBy (λ r. I r (new_at s.given r)) (given_more s k) s1 → Matched (λ ρ r. M ρ (new_at s.given r)) ys s1 vs s2 vs2 outcome → Matched Parted ys s vs s2 vs2 outcome
  parted_answers ys s k vs s1 s2 vs2 (Ok x) b a l n i m = λ τ h.
      let j = m τ h in (
        j.0,
        matched_guess (λ ρ r us. I r us × M ρ us) ys s k vs τ s2 vs2 j.0 b h a (λ r q us ws ρ f d p. (l r q us ws f d p.0, n us ws ρ d p.1))
            (plain_then (λ r. I r (new_at s.given r)) (λ ρ r. M ρ (new_at s.given r)) ys (given_more s k) vs τ s1 s2 vs2 j.0 (bound_le s s1 k i.grows) h (given_later s.given (s.given + k) vs (omega arith) a)
            (λ r q ρ f p. n (new_at s.given r) (new_at s.given q) ρ (new_agree s.given k r q f) p) i j.1),
      )
  parted_answers ys s k vs s1 s2 vs2 (Err e) b a l n i m = λ τ h.
      refused_guess (λ ρ r us. I r us × M ρ us) s k vs τ e b h a (λ r q us ws ρ f d p. (l r q us ws f d p.0, n us ws ρ d p.1))
      (refused_plain_then (λ r. I r (new_at s.given r)) (λ ρ r. M ρ (new_at s.given r)) (given_more s k) vs τ s1 e h (given_later s.given (s.given + k) vs (omega arith) a)
      (λ r q ρ f p. n (new_at s.given r) (new_at s.given q) ρ (new_agree s.given k r q f) p) i (m τ h))

  pub parted_refused : (s : Solving) (k : ℕ) (vs : List Variable) (e : UnifyFault) → FactsBelow (bound s) (problem s) → AreGiven s.given vs → IsLocalIn (bound s) k I →
      ((us ws : ℕ → Monotype) (ρ : Identifier → Monotype) → ((i : ℕ) → i < k → ws i ≡ us i) → M ρ us → M ρ ws) →
      Refuses (λ r. I r (new_at s.given r)) (given_more s k) e → (τ : Identifier → Monotype) → HaveTypes τ vs → RefusesMatch Parted s vs τ e
  parted_refused s k vs e b a l n i τ h =
      refused_guess (λ ρ r us. I r us × M ρ us) s k vs τ e b h a (λ r q us ws ρ f d p. (l r q us ws f d p.0, n us ws ρ d p.1))
      (refused_same (λ ρ r. I r (new_at s.given r)) (λ ρ r. I r (new_at s.given r) × M ρ (new_at s.given r)) (given_more s k) vs τ e (λ ρ r p. p.0) (refused_plain (λ r. I r (new_at s.given r)) (given_more s k) vs τ e i))

-- in other words, of the whole answer
pub answers_same : {X : Type 0} (P Q : (Identifier → Monotype) → (ℕ → Monotype) → Type 0) (xs : List Identifier) (s : Solving) (vs : List Variable) (s' : Solving) (vs' : List Variable) (outcome : Result X UnifyFault) →
    ((ρ : Identifier → Monotype) (r : ℕ → Monotype) → P ρ r → Q ρ r) → ((ρ : Identifier → Monotype) (r : ℕ → Monotype) → Q ρ r → P ρ r) → Matched P xs s vs s' vs' outcome → Matched Q xs s vs s' vs' outcome
answers_same P Q xs s vs s' vs' (Ok x) f g m = λ τ h. (let j = m τ h in (j.0, matched_same P Q xs s vs τ s' vs' j.0 f g j.1))
answers_same P Q xs s vs s' vs' (Err e) f g m = λ τ h. refused_same P Q s vs τ e g (m τ h)

-- rows of patterns

abbrev pub AsksAll : Known → Patterns → Bool → ℕ → ℕ → (Identifier → Monotype) → (ℕ → Monotype) → Type 0
AsksAll known ps same first i ρ r = MatchesAll ρ (patterns_of known ps) (λ j. put r (from_number same first j)) i

pub count_is : (known : Known) (ps : List Pattern) → pattern_count (patterns_of known (patterns ps)) ≡ length ps
count_is known [] = refl
count_is known (p ∷ ps) = ap suc (count_is known ps)

all_local : (known : Known) (ps : Patterns) (k : ℕ) → k ≡ pattern_count (patterns_of known ps) → (us ws : ℕ → Monotype) (ρ : Identifier → Monotype) → ((i : ℕ) → i < k → ws i ≡ us i) → MatchesAll ρ (patterns_of known ps) us 0 → MatchesAll ρ (patterns_of known ps) ws 0
all_local known ps k e us ws ρ f m = MatchesAll-agree (patterns_of known ps) ρ ρ us ws 0 (λ x o. refl) (λ j l h. sym (f j (omega (arith, e)))) m

-- the patterns' answer, of the new types
row_answers : {X : Type 0} (known : Known) (ps : Patterns) (g first : ℕ) (ys : List Identifier) (s1 : Solving) (vs : List Variable) (s2 : Solving) (vs2 : List Variable) (outcome : Result X UnifyFault) → first ≡ g →
    Matched (AsksAll known ps false first 0) ys s1 vs s2 vs2 outcome → Matched (λ ρ r. MatchesAll ρ (patterns_of known ps) (new_at g r) 0) ys s1 vs s2 vs2 outcome
row_answers known ps g first ys s1 vs s2 vs2 outcome e m = subst (λ k. Matched (λ ρ r. MatchesAll ρ (patterns_of known ps) (new_at k r) 0) ys s1 vs s2 vs2 outcome) e m

-- a tuple

tuple_asked : ℕ → Mono → (ℕ → Monotype) → (ℕ → Monotype) → Type 0
tuple_asked k t r us = put r (monotype t) ≡ tuple k us

tuple_local : (k : ℕ) (t : Mono) (s : Solving) → IsWellFormed s.given t → IsLocalIn (bound s) k (tuple_asked k t)
unfolding tuple_asked
tuple_local k t s w r q us ws f d p = sym (type_local s t r q w f) ∙ (p ∙ ap (App (head.Tuple k)) (arguments-agree k us ws 0 (λ j l h. sym (d j (omega arith)))))

pub tuple_answers : {X : Type 0} (known : Known) (ps : List Pattern) (first : ℕ) (t : Mono) (s : Solving) (vs : List Variable) (s1 s2 : Solving) (vs2 : List Variable) (outcome : Result X UnifyFault) →
    FactsBelow (bound s) (problem s) → AreGiven s.given vs → IsWellFormed s.given t → first ≡ s.given →
    SolvedBy (λ r. put r (monotype t) ≡ tuple (length ps) (new_at s.given r)) (given_more s (length ps)) s1 →
    Matched (AsksAll known (patterns ps) false first 0) (patterns_names (patterns_of known (patterns ps))) s1 vs s2 vs2 outcome → AnswersPattern known (tuple_pattern (patterns ps)) t s vs s2 vs2 outcome
unfolding tuple_asked
tuple_answers known ps first t s vs s1 s2 vs2 outcome b a w e i m =
    let k = length ps in
    let c = count_is known ps in
    answers_same (Parted (tuple_asked k t) (λ ρ us. MatchesAll ρ (patterns_of known (patterns ps)) us 0)) (Asks known (tuple_pattern (patterns ps)) t) _ s vs s2 vs2 outcome
    (λ ρ r p. (p.0, (p.1.0 ∙ ap (λ j. tuple j p.0) (sym c), p.1.1))) (λ ρ r p. (p.0, (p.1.0 ∙ ap (λ j. tuple j p.0) c, p.1.1)))
    (parted_answers (tuple_asked k t) (λ ρ us. MatchesAll ρ (patterns_of known (patterns ps)) us 0) _ s k vs s1 s2 vs2 outcome b a (tuple_local k t s w) (all_local known (patterns ps) k (sym c)) i (row_answers known (patterns ps) s.given first _ s1 vs s2 vs2 outcome e m))

pub tuple_refused : (known : Known) (ps : List Pattern) (t : Mono) (s : Solving) (vs : List Variable) (e : UnifyFault) →
    FactsBelow (bound s) (problem s) → AreGiven s.given vs → IsWellFormed s.given t → Refuses (λ r. put r (monotype t) ≡ tuple (length ps) (new_at s.given r)) (given_more s (length ps)) e →
    (τ : Identifier → Monotype) → HaveTypes τ vs → RefusesMatch (Asks known (tuple_pattern (patterns ps)) t) s vs τ e
unfolding tuple_asked
tuple_refused known ps t s vs e b a w i τ h =
    let k = length ps in
    let c = count_is known ps in
    refused_same (Parted (tuple_asked k t) (λ ρ us. MatchesAll ρ (patterns_of known (patterns ps)) us 0)) (Asks known (tuple_pattern (patterns ps)) t) s vs τ e (λ ρ r p. (p.0, (p.1.0 ∙ ap (λ j. tuple j p.0) c, p.1.1)))
    (parted_refused (tuple_asked k t) (λ ρ us. MatchesAll ρ (patterns_of known (patterns ps)) us 0) s k vs e b a (tuple_local k t s w) (all_local known (patterns ps) k (sym c)) i τ h)

-- a list

list_asked : Mono → (ℕ → Monotype) → (ℕ → Monotype) → Type 0
list_asked t r us = put r (monotype t) ≡ list (us 0)

list_local : (t : Mono) (s : Solving) → IsWellFormed s.given t → IsLocalIn (bound s) 1 (list_asked t)
unfolding list_asked
list_local t s w r q us ws f d p = sym (type_local s t r q w f) ∙ (p ∙ ap list (sym (d 0 (omega arith))))

each_local : (known : Known) (ps : Patterns) (us ws : ℕ → Monotype) (ρ : Identifier → Monotype) → ((i : ℕ) → i < 1 → ws i ≡ us i) → MatchesAll ρ (patterns_of known ps) (λ j. us 0) 0 → MatchesAll ρ (patterns_of known ps) (λ j. ws 0) 0
each_local known ps us ws ρ f m = MatchesAll-agree (patterns_of known ps) ρ ρ _ _ 0 (λ x o. refl) (λ j l h. sym (f 0 (omega arith))) m

each_answers : {X : Type 0} (known : Known) (ps : Patterns) (g first : ℕ) (ys : List Identifier) (s1 : Solving) (vs : List Variable) (s2 : Solving) (vs2 : List Variable) (outcome : Result X UnifyFault) → first ≡ g →
    Matched (AsksAll known ps true first 0) ys s1 vs s2 vs2 outcome → Matched (λ ρ r. MatchesAll ρ (patterns_of known ps) (λ j. new_at g r 0) 0) ys s1 vs s2 vs2 outcome
each_answers known ps g first ys s1 vs s2 vs2 outcome e m =
    let z : g + 0 ≡ g = omega arith in
    subst (λ k. Matched (λ ρ r. MatchesAll ρ (patterns_of known ps) (λ j. r (number (var k))) 0) ys s1 vs s2 vs2 outcome) (e ∙ sym z) m

pub list_answers : {X : Type 0} (known : Known) (ps : List Pattern) (first : ℕ) (t : Mono) (s : Solving) (vs : List Variable) (s1 s2 : Solving) (vs2 : List Variable) (outcome : Result X UnifyFault) →
    FactsBelow (bound s) (problem s) → AreGiven s.given vs → IsWellFormed s.given t → first ≡ s.given → SolvedBy (λ r. put r (monotype t) ≡ list (new_at s.given r 0)) (given_more s 1) s1 →
    Matched (AsksAll known (patterns ps) true first 0) (patterns_names (patterns_of known (patterns ps))) s1 vs s2 vs2 outcome → AnswersPattern known (list_pattern (patterns ps)) t s vs s2 vs2 outcome
unfolding list_asked
list_answers known ps first t s vs s1 s2 vs2 outcome b a w e i m =
    answers_same (Parted (list_asked t) (λ ρ us. MatchesAll ρ (patterns_of known (patterns ps)) (λ j. us 0) 0)) (Asks known (list_pattern (patterns ps)) t) _ s vs s2 vs2 outcome
    (λ ρ r p. (p.0 0, (p.1.0, p.1.1))) (λ ρ r p. ((λ j. p.0), (p.1.0, p.1.1)))
    (parted_answers (list_asked t) (λ ρ us. MatchesAll ρ (patterns_of known (patterns ps)) (λ j. us 0) 0) _ s 1 vs s1 s2 vs2 outcome b a (list_local t s w) (each_local known (patterns ps)) i (each_answers known (patterns ps) s.given first _ s1 vs s2 vs2 outcome e m))

pub list_refused : (known : Known) (ps : List Pattern) (t : Mono) (s : Solving) (vs : List Variable) (e : UnifyFault) →
    FactsBelow (bound s) (problem s) → AreGiven s.given vs → IsWellFormed s.given t → Refuses (λ r. put r (monotype t) ≡ list (new_at s.given r 0)) (given_more s 1) e →
    (τ : Identifier → Monotype) → HaveTypes τ vs → RefusesMatch (Asks known (list_pattern (patterns ps)) t) s vs τ e
unfolding list_asked
list_refused known ps t s vs e b a w i τ h =
    refused_same (Parted (list_asked t) (λ ρ us. MatchesAll ρ (patterns_of known (patterns ps)) (λ j. us 0) 0)) (Asks known (list_pattern (patterns ps)) t) s vs τ e (λ ρ r p. ((λ j. p.0), (p.1.0, p.1.1)))
    (parted_refused (list_asked t) (λ ρ us. MatchesAll ρ (patterns_of known (patterns ps)) (λ j. us 0) 0) s 1 vs e b a (list_local t s w) (each_local known (patterns ps)) i τ h)

-- a row, the last first

abbrev pub RowMatched : Known → List Pattern → Bool → ℕ → ℕ → Solving → List Variable → Solving → List Variable → Type 0
RowMatched known ps same first i s vs s' vs' = (τ : Identifier → Monotype) → HaveTypes τ vs → (τ' : Identifier → Monotype) × IsMatched (AsksAll known (patterns ps) same first i) (patterns_names (patterns_of known (patterns ps))) s vs τ s' vs' τ'

pub row_start : (known : Known) (ps rest : List Pattern) (same : Bool) (first i : ℕ) (s : Solving) (vs : List Variable) → rest ≡ [] → FactsBelow (bound s) (problem s) → AreGiven s.given vs → RowMatched known rest same first i s vs s vs
row_start known ps rest same first i s vs e b a = subst (λ qs. RowMatched known qs same first i s vs s vs) (sym e) (λ τ h. (τ, matched_nothing s vs τ b h a))

row_step : {X : Type 0} (known : Known) (p : Pattern) (rest : List Pattern) (same : Bool) (first i : ℕ) (s : Solving) (vs : List Variable) (s1 : Solving) (vs1 : List Variable) (s2 : Solving) (vs2 : List Variable) (x : X) → cond same first (first + i) < s.given →
    RowMatched known rest same first (suc i) s vs s1 vs1 → AnswersPattern {X = X} known p (Var (var (cond same first (first + i)))) s1 vs1 s2 vs2 (Ok x) → RowMatched known (p ∷ rest) same first i s vs s2 vs2
row_step known p rest same first i s vs s1 vs1 s2 vs2 x l m n = λ τ h.
    let j = m τ h in
    let k = n j.0 j.1.typed in
    let t = Var (var (cond same first (first + i))) in
    let A = AsksAll known (patterns rest) same first (suc i) in (
      k.0,
      matched_same (λ ρ r. A ρ r × Asks known p t ρ r) (AsksAll known (patterns (p ∷ rest)) same first i) _ s vs τ s2 vs2 k.0 (λ ρ r q. (q.1, q.0)) (λ ρ r q. (q.1, q.0))
          (matched_then A (Asks known p t) (patterns_names (patterns_of known (patterns rest))) (pattern_names (pattern_of known p)) s vs τ s1 vs1 j.0 s2 vs2 k.0
          (λ r q ρ f d. subst (Matches ρ (pattern_of known p)) (sym (f (number (var (cond same first (first + i)))) (omega arith))) d)
          (λ r ρ σ f d. MatchesAll-agree (patterns_of known (patterns rest)) ρ σ _ _ (suc i) f (λ y a b. refl) d) j.1 k.1),
    )

row_step_refused : (known : Known) (p : Pattern) (rest : List Pattern) (same : Bool) (first i : ℕ) (s : Solving) (vs : List Variable) (s1 : Solving) (vs1 : List Variable) (e : UnifyFault) → cond same first (first + i) < s.given →
    RowMatched known rest same first (suc i) s vs s1 vs1 → ((τ : Identifier → Monotype) → HaveTypes τ vs1 → RefusesMatch (Asks known p (Var (var (cond same first (first + i))))) s1 vs1 τ e) →
    (τ : Identifier → Monotype) → HaveTypes τ vs → RefusesMatch (AsksAll known (patterns (p ∷ rest)) same first i) s vs τ e
row_step_refused known p rest same first i s vs s1 vs1 e l m n τ h =
    let j = m τ h in
    let t = Var (var (cond same first (first + i))) in
    let A = AsksAll known (patterns rest) same first (suc i) in
    refused_same (λ ρ r. A ρ r × Asks known p t ρ r) (AsksAll known (patterns (p ∷ rest)) same first i) s vs τ e (λ ρ r q. (q.1, q.0))
    (refused_then A (Asks known p t) (patterns_names (patterns_of known (patterns rest))) s vs τ s1 vs1 j.0 e (λ r q ρ f d. subst (Matches ρ (pattern_of known p)) (sym (f (number (var (cond same first (first + i)))) (omega arith))) d) j.1 (n j.0 j.1.typed))

-- the rest of a row is asked for where the row is
pub rest_asked : (known : Known) (ps : List Pattern) (ρ : Identifier → Monotype) (ts : ℕ → Monotype) (i k : ℕ) → MatchesAll ρ (patterns_of known (patterns ps)) ts i → MatchesAll ρ (patterns_of known (patterns (drop k ps))) ts (i + k)
rest_asked known ps ρ ts i zero m = subst (MatchesAll ρ (patterns_of known (patterns ps)) ts) (omega arith) m
rest_asked known [] ρ ts i (suc k) m = tt
rest_asked known (p ∷ ps) ρ ts i (suc k) m = subst (MatchesAll ρ (patterns_of known (patterns (drop k ps))) ts) (omega arith) (rest_asked known ps ρ ts (suc i) k m.1)

pub one_back : (ps : List Pattern) (j : ℕ) (d : Pattern) → 0 < j → j ≤ length ps → d ≡ get_or ps (j - 1) d → drop (j - 1) ps ≡ d ∷ drop j ps
one_back ps j d h l e =
    let k : suc (j - 1) ≡ j = omega arith in
    drop-cons ps (j - 1) d (omega arith) ∙ (ap (λ x. x ∷ drop (suc (j - 1)) ps) (sym e) ∙ ap (λ n. d ∷ drop n ps) k)

pub row_back : {X : Type 0} (known : Known) (ps : List Pattern) (j : ℕ) (d : Pattern) (same : Bool) (first : ℕ) (s : Solving) (vs : List Variable) (s1 : Solving) (vs1 : List Variable) (s2 : Solving) (vs2 : List Variable) (x : X) →
    0 < j → j ≤ length ps → d ≡ get_or ps (j - 1) d → cond same first (first + (j - 1)) < s.given → RowMatched known (drop j ps) same first j s vs s1 vs1 →
    AnswersPattern {X = X} known d (Var (var (cond same first (first + (j - 1))))) s1 vs1 s2 vs2 (Ok x) → RowMatched known (drop (j - 1) ps) same first (j - 1) s vs s2 vs2
row_back {X} known ps j d same first s vs s1 vs1 s2 vs2 x h l e g m n =
    let k : j ≡ suc (j - 1) = omega arith in
    subst (λ qs. RowMatched known qs same first (j - 1) s vs s2 vs2) (sym (one_back ps j d h l e))
    (row_step {X = X} known d (drop j ps) same first (j - 1) s vs s1 vs1 s2 vs2 x g (subst (λ i. RowMatched known (drop j ps) same first i s vs s1 vs1) k m) n)

pub row_refused : (known : Known) (ps : List Pattern) (j : ℕ) (d : Pattern) (same : Bool) (first : ℕ) (s : Solving) (vs : List Variable) (s1 : Solving) (vs1 : List Variable) (e : UnifyFault) →
    0 < j → j ≤ length ps → d ≡ get_or ps (j - 1) d → cond same first (first + (j - 1)) < s.given → RowMatched known (drop j ps) same first j s vs s1 vs1 →
    ((τ : Identifier → Monotype) → HaveTypes τ vs1 → RefusesMatch (Asks known d (Var (var (cond same first (first + (j - 1)))))) s1 vs1 τ e) →
    (τ : Identifier → Monotype) → HaveTypes τ vs → RefusesMatch (AsksAll known (patterns ps) same first 0) s vs τ e
row_refused known ps j d same first s vs s1 vs1 e h l i g m n τ a =
    let k : j ≡ suc (j - 1) = omega arith in
    let z : 0 + (j - 1) ≡ j - 1 = omega arith in
    refused_same (AsksAll known (patterns (drop (j - 1) ps)) same first (j - 1)) (AsksAll known (patterns ps) same first 0) s vs τ e
    (λ ρ r q. subst (MatchesAll ρ (patterns_of known (patterns (drop (j - 1) ps))) (λ y. put r (from_number same first y))) z (rest_asked known ps ρ (λ y. put r (from_number same first y)) 0 (j - 1) q))
    (subst (λ qs. RefusesMatch (AsksAll known (patterns qs) same first (j - 1)) s vs τ e) (sym (one_back ps j d h l i))
    (row_step_refused known d (drop j ps) same first (j - 1) s vs s1 vs1 e g (subst (λ y. RowMatched known (drop j ps) same first y s vs s1 vs1) k m) n τ a))

-- what is given after a type was taken apart
pub parts_given : (Q : (ℕ → Monotype) → Type 0) (s s1 : Solving) (k : ℕ) (vs : List Variable) → SolvedBy Q (given_more s k) s1 → AreGiven s.given vs → AreGiven s1.given vs
parts_given Q s s1 k vs i a = given_later s.given s1.given vs (let l = bound_le s s1 k i.grows in omega arith) a

pub numbers_given : (Q : (ℕ → Monotype) → Type 0) (s s1 : Solving) (k first : ℕ) → SolvedBy Q (given_more s k) s1 → first ≡ s.given → (j : ℕ) → j < k → cond false first (first + j) < s1.given
numbers_given Q s s1 k first i e j h = let l = bound_le s s1 k i.grows in omega (arith, e)

pub number_given : (Q : (ℕ → Monotype) → Type 0) (s s1 : Solving) (first n : ℕ) → SolvedBy Q (given_more s 1) s1 → first ≡ s.given → (j : ℕ) → j < n → cond true first (first + j) < s1.given
number_given Q s s1 first n i e j h = let l = bound_le s s1 1 i.grows in omega (arith, e)

pub later_given : (s s1 : Solving) (t : Mono) → s.given ≤ s1.given → IsWellFormed s.given t → IsWellFormed s1.given t
later_given s s1 t l w = Rattle.hm_unify.proofs.WellFormed.well_formed_more s.given s1.given t l w

-- In the states of the program

pub tuple_answers_at : {X : Type 0} (known : Known) (ps qs : List Pattern) (count first : ℕ) (t : Mono) (s : Solving) (vs : List Variable) (s1 s2 : Solving) (vs2 : List Variable) (outcome : Result X UnifyFault) →
    count ≡ length ps → qs ≡ ps → FactsBelow (bound s) (problem s) → AreGiven s.given vs → IsWellFormed s.given t → first ≡ s.given →
    SolvedBy (λ r. put r (monotype t) ≡ tuple count (new_at s.given r)) (given_more s count) s1 →
    Matched (AsksAll known (patterns qs) false first 0) (patterns_names (patterns_of known (patterns qs))) s1 vs s2 vs2 outcome → AnswersPattern known (tuple_pattern (patterns ps)) t s vs s2 vs2 outcome
tuple_answers_at known ps qs count first t s vs s1 s2 vs2 outcome f g b a w h i m =
    tuple_answers known ps first t s vs s1 s2 vs2 outcome b a w h
    (subst (λ c. SolvedBy (λ r. put r (monotype t) ≡ tuple c (new_at s.given r)) (given_more s c) s1) f i)
    (subst (λ k. Matched (AsksAll known (patterns k) false first 0) (patterns_names (patterns_of known (patterns k))) s1 vs s2 vs2 outcome) g m)

pub tuple_refused_at : (known : Known) (ps : List Pattern) (count : ℕ) (t : Mono) (s : Solving) (vs : List Variable) (k : UnifyFault) → count ≡ length ps →
    FactsBelow (bound s) (problem s) → AreGiven s.given vs → IsWellFormed s.given t → Refuses (λ r. put r (monotype t) ≡ tuple count (new_at s.given r)) (given_more s count) k →
    (τ : Identifier → Monotype) → HaveTypes τ vs → RefusesMatch (Asks known (tuple_pattern (patterns ps)) t) s vs τ k
tuple_refused_at known ps count t s vs k f b a w i = tuple_refused known ps t s vs k b a w (subst (λ c. Refuses (λ r. put r (monotype t) ≡ tuple c (new_at s.given r)) (given_more s c) k) f i)

pub list_answers_at : {X : Type 0} (known : Known) (ps qs : List Pattern) (first : ℕ) (t : Mono) (s : Solving) (vs : List Variable) (s1 s2 : Solving) (vs2 : List Variable) (outcome : Result X UnifyFault) → qs ≡ ps →
    FactsBelow (bound s) (problem s) → AreGiven s.given vs → IsWellFormed s.given t → first ≡ s.given → SolvedBy (λ r. put r (monotype t) ≡ list (new_at s.given r 0)) (given_more s 1) s1 →
    Matched (AsksAll known (patterns qs) true first 0) (patterns_names (patterns_of known (patterns qs))) s1 vs s2 vs2 outcome → AnswersPattern known (list_pattern (patterns ps)) t s vs s2 vs2 outcome
list_answers_at known ps qs first t s vs s1 s2 vs2 outcome g b a w h i m =
    list_answers known ps first t s vs s1 s2 vs2 outcome b a w h i (subst (λ k. Matched (AsksAll known (patterns k) true first 0) (patterns_names (patterns_of known (patterns k))) s1 vs s2 vs2 outcome) g m)

pub row_back_at : {X : Type 0} (known : Known) (ps : List Pattern) (j n : ℕ) (d : Pattern) (same : Bool) (first : ℕ) (s : Solving) (vs : List Variable) (s1 : Solving) (vs1 : List Variable) (s2 : Solving) (vs2 : List Variable) (x : X) → n ≡ cond same first (first + (j - 1)) →
    0 < j → j ≤ length ps → d ≡ get_or ps (j - 1) d → ((i : ℕ) → i < length ps → cond same first (first + i) < s.given) → RowMatched known (drop j ps) same first j s vs s1 vs1 →
    AnswersPattern {X = X} known d (Var (var n)) s1 vs1 s2 vs2 (Ok x) → RowMatched known (drop (j - 1) ps) same first (j - 1) s vs s2 vs2
row_back_at {X} known ps j n d same first s vs s1 vs1 s2 vs2 x e h l i g m a =
    row_back {X = X} known ps j d same first s vs s1 vs1 s2 vs2 x h l i (g (j - 1) (omega arith)) m (subst (λ k. AnswersPattern {X = X} known d (Var (var k)) s1 vs1 s2 vs2 (Ok x)) e a)

pub row_refused_at : (known : Known) (ps : List Pattern) (j n : ℕ) (d : Pattern) (same : Bool) (first : ℕ) (s : Solving) (vs : List Variable) (s1 : Solving) (vs1 : List Variable) (k : UnifyFault) → n ≡ cond same first (first + (j - 1)) →
    0 < j → j ≤ length ps → d ≡ get_or ps (j - 1) d → ((i : ℕ) → i < length ps → cond same first (first + i) < s.given) → RowMatched known (drop j ps) same first j s vs s1 vs1 →
    ((τ : Identifier → Monotype) → HaveTypes τ vs1 → RefusesMatch (Asks known d (Var (var n))) s1 vs1 τ k) →
    (τ : Identifier → Monotype) → HaveTypes τ vs → RefusesMatch (AsksAll known (patterns ps) same first 0) s vs τ k
row_refused_at known ps j n d same first s vs s1 vs1 k e h l i g m a =
    row_refused known ps j d same first s vs s1 vs1 k h l i (g (j - 1) (omega arith)) m (subst (λ z. (τ : Identifier → Monotype) → HaveTypes τ vs1 → RefusesMatch (Asks known d (Var (var z))) s1 vs1 τ k) e a)

pub row_whole : (known : Known) (ps : List Pattern) (j : ℕ) (same : Bool) (first : ℕ) (s : Solving) (vs : List Variable) (s1 : Solving) (vs1 : List Variable) → j ≡ 0 → RowMatched known (drop j ps) same first j s vs s1 vs1 → RowMatched known ps same first 0 s vs s1 vs1
row_whole known ps j same first s vs s1 vs1 e m = subst (λ k. RowMatched known (drop k ps) same first k s vs s1 vs1) e m

pub row_empty : (known : Known) (ps : List Pattern) (j : ℕ) (same : Bool) (first : ℕ) (s : Solving) (vs : List Variable) → j ≡ length ps → FactsBelow (bound s) (problem s) → AreGiven s.given vs → RowMatched known (drop j ps) same first j s vs s vs
row_empty known ps j same first s vs e b a = row_start known ps (drop j ps) same first j s vs (ap (λ k. drop k ps) e ∙ drop-length ps) b a

pub size_at : (ps : List Pattern) (i : ℕ) (d : Pattern) → i < length ps → d ≡ get_or ps i d → pattern_size d < patterns_size (patterns ps)
size_at ps i d h e = let k : pattern_size d ≡ pattern_size (get_or ps i d) = ap pattern_size e in let l = item ps i d h in omega arith
  where
    item : (ps : List Pattern) (i : ℕ) (d : Pattern) → i < length ps → pattern_size (get_or ps i d) < patterns_size (patterns ps)
    item [] i d h = absurd (omega arith)
    item (p ∷ ps) zero d h = omega arith
    item (p ∷ ps) (suc i) d h = let l : pattern_size (get_or ps i d) < patterns_size (patterns ps) = item ps i d (omega arith) in omega arith

pub later_number : (s s1 : Solving) (n : ℕ) (ps : List Pattern) (j : ℕ) (same : Bool) (first : ℕ) → s.given ≤ s1.given → n ≡ cond same first (first + (j - 1)) → 0 < j → j ≤ length ps → ((i : ℕ) → i < length ps → cond same first (first + i) < s.given) → n < s1.given
later_number s s1 n ps j same first l e h k g = let f = g (j - 1) (omega arith) in subst (λ z. z < s1.given) (sym e) (omega arith)
