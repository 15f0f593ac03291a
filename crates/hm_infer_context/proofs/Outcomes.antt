-- Steps of inference, one after the other.
use Rattle.std.proofs.Common.{◌≡◌, ℕ, ◌<◌, Result, Ok, Err, IsErrAnd, refl, sym, ◌∙◌, subst, arith}
use Rattle.hm_typing.specs.Schemes.{Monotype}
use Rattle.hm_typing.specs.Problems.{Unifies, FactsBelow, Solved, IsLocal}
use Rattle.hm_typing.proofs.Solve.{Solved-both}
use Rattle.hm_unify.specs.Solving.{Solving}
use Rattle.hm_unify.specs.declared.faults.UnifyFault.{UnifyFault}
use Rattle.hm_unify.specs.declared.faults.UnifyFault.TheVariants.{Clash, Memory}
use Rattle.hm_infer_context.specs.Problems.{problem, bound, Refuses, Answers, given_more, new_at}
use Rattle.hm_infer_context.proofs.States.{guess, guess_below, guess_new, guess_unifies, more_rest}

-- a state answers a question
abbrev pub SolvedBy : ((ℕ → Monotype) → Type 0) → Solving → Solving → Type 0
SolvedBy P s s' = Solved P (bound s) (problem s) (bound s') (problem s')

-- a unifier of the first problem with P gives one of the second with Q
abbrev pub Carries : ((ℕ → Monotype) → Type 0) → Solving → ((ℕ → Monotype) → Type 0) → Solving → Type 0
Carries P s Q s' = (r : ℕ → Monotype) → Unifies r (problem s) → P r → (q : ℕ → Monotype) × Unifies q (problem s') × Q q

-- a refusal is passed on
pub pass_on : {P Q : (ℕ → Monotype) → Type 0} (s s' : Solving) (e : UnifyFault) → Carries P s Q s' → Refuses Q s' e → Refuses P s e
pass_on s s' Clash f n = λ r u p. let h = f r u p in n h.0 h.1 h.2
pass_on s s' Memory f n = tt

-- the same at a `?`
pub passed_on : {X : Type 0} {P Q : (ℕ → Monotype) → Type 0} (s s' s1 : Solving) (outcome : Result X UnifyFault) (e : UnifyFault) → IsErrAnd outcome (λ y. y ≡ e) → Carries P s Q s' → Refuses Q s' e → Answers P s s1 outcome
passed_on s s' s1 (Ok x) e i f n = absurd i
passed_on {P = P} {Q = Q} s s' s1 (Err k) e i f n = pass_on {P = P} {Q = Q} s s' k f (subst (Refuses Q s') (sym i) n)

-- the same question in other words
pub solved_same : {P Q : (ℕ → Monotype) → Type 0} (s s' : Solving) → ((r : ℕ → Monotype) → P r → Q r) → ((r : ℕ → Monotype) → Q r → P r) → SolvedBy P s s' → SolvedBy Q s s'
solved_same s s' f g a = record { grows = a.grows; below = a.below; sound = λ r u. ((a.sound r u).0, f r (a.sound r u).1); complete = λ r u p. a.complete r u (g r p) }

pub solved_both : {P Q : (ℕ → Monotype) → Type 0} (s s1 s2 : Solving) → IsLocal (bound s) Q → SolvedBy P s s1 → SolvedBy Q s1 s2 → SolvedBy (λ r. P r × Q r) s s2
solved_both s s1 s2 l a b = Solved-both (bound s) (problem s) (bound s1) (problem s1) (bound s2) (problem s2) l a b

-- the second question is asked of the state that answers the first
pub carries_second : {P Q : (ℕ → Monotype) → Type 0} (s s1 : Solving) → ((r q : ℕ → Monotype) → ((x : ℕ) → x < bound s → q x ≡ r x) → Q r → Q q) → SolvedBy P s s1 → Carries (λ r. P r × Q r) s Q s1
carries_second s s1 l a r u p = let h = a.complete r u p.0 in (h.0, h.2, l r h.0 h.1 p.1)

pub carries_first : {P : (ℕ → Monotype) → Type 0} (Q : (ℕ → Monotype) → Type 0) (s : Solving) → Carries (λ r. P r × Q r) s P s
carries_first Q s r u p = (r, u, p.0)

-- nothing was asked, and nothing done
pub solved_nothing : (s : Solving) → FactsBelow (bound s) (problem s) → SolvedBy (λ r. Unit {0}) s s
solved_nothing s b = record { grows = omega arith; below = b; sound = λ r u. (u, tt); complete = λ r u p. (r, (λ x h. refl), u) }

-- new variables: k types are guessed

-- P asks of the variables below the bound and of k types
abbrev pub IsLocalIn : ℕ → ℕ → ((ℕ → Monotype) → (ℕ → Monotype) → Type 0) → Type 0
IsLocalIn n k P = (r q us vs : ℕ → Monotype) → ((x : ℕ) → x < n → q x ≡ r x) → ((i : ℕ) → i < k → vs i ≡ us i) → P r us → P q vs

pub carries_new : {P : (ℕ → Monotype) → (ℕ → Monotype) → Type 0} (s : Solving) (k : ℕ) → FactsBelow (bound s) (problem s) → IsLocalIn (bound s) k P →
    Carries (λ r. (us : ℕ → Monotype) × P r us) s (λ r. P r (new_at s.given r)) (given_more s k)
carries_new {P} s k b l r u p =
    let q = guess s.given r p.0 in
    (q, guess_unifies s k r p.0 b u, l r q p.0 (new_at s.given q) (λ x h. guess_below s.given r p.0 x h) (λ i h. guess_new s.given r p.0 i) p.1)

pub solved_new : {P : (ℕ → Monotype) → (ℕ → Monotype) → Type 0} (s s' : Solving) (k : ℕ) → FactsBelow (bound s) (problem s) → IsLocalIn (bound s) k P →
    SolvedBy (λ r. P r (new_at s.given r)) (given_more s k) s' → SolvedBy (λ r. (us : ℕ → Monotype) × P r us) s s'
solved_new {P} s s' k b l a = record {
  grows = (let h = a.grows in omega arith);
  below = a.below;
  sound = λ r u. (let h = a.sound r u in (more_rest s k r h.0, (new_at s.given r, h.1)));
  complete = λ r u p.
      let q = guess s.given r p.0 in
      let c = a.complete q (guess_unifies s k r p.0 b u) (l r q p.0 (new_at s.given q) (λ x h. guess_below s.given r p.0 x h) (λ i h. guess_new s.given r p.0 i) p.1) in
      (c.0, (λ x h. c.1 x (omega arith) ∙ guess_below s.given r p.0 x h), c.2);
}
