-- Types that are taken apart.
use Rattle.std.proofs.Common.{◌≡◌, ℕ, ◌+◌, ◌≤◌, false, Result, IsErrAnd, sym, ap, ◌∙◌, subst, arith}
use Rattle.hm_types.specs.declared.Head.TheVariants as head
use Rattle.hm_types.specs.Types.{Var, App, put}
use Rattle.hm_types.specs.Monotypes.{Mono, var}
use Rattle.hm_typing.specs.Schemes.{Monotype}
use Rattle.hm_typing.specs.Patterns.{Instantiates, arrows, tuple, list}
use Rattle.hm_typing.proofs.Put.{put-arrows, put-arguments}
use Rattle.hm_unify.specs.WellFormed.{IsWellFormed}
use Rattle.hm_unify.specs.Solving.{Solving}
use Rattle.hm_unify.specs.declared.faults.UnifyFault.{UnifyFault}
use Rattle.hm_infer_context.specs.Problems.{number, monotype, Answers, Refuses, given_more, new_at}
use Rattle.hm_infer_context.specs.Patterns.{from_number}
use Rattle.hm_infer_context.proofs.States.{Makes}
use Rattle.hm_infer_context.proofs.Outcomes.{SolvedBy, solved_same, passed_on}

-- another state, and other words
pub reworded : (P Q : (ℕ → Monotype) → Type 0) (s1 s2 s' : Solving) → s1 ≡ s2 → ((r : ℕ → Monotype) → P r → Q r) → ((r : ℕ → Monotype) → Q r → P r) → SolvedBy P s1 s' → SolvedBy Q s2 s'
reworded P Q s1 s2 s' e f g a = solved_same {P = P} {Q = Q} s2 s' f g (subst (λ z. SolvedBy P z s') e a)

pub reworded_refusal : {X : Type 0} (P Q : (ℕ → Monotype) → Type 0) (s1 s2 s' : Solving) (outcome : Result X UnifyFault) (k : UnifyFault) → s1 ≡ s2 → IsErrAnd outcome (λ y. y ≡ k) → ((r : ℕ → Monotype) → Q r → P r) → Refuses P s1 k → Answers Q s2 s' outcome
reworded_refusal P Q s1 s2 s' outcome k e i g n = passed_on {P = Q} {Q = P} s2 s2 s' outcome k i (λ r u p. (r, u, g r p)) (subst (λ z. Refuses P z k) e n)

-- the types with a substitution in them

pub function_taken : (g first count : ℕ) (t whole : Mono) (r : ℕ → Monotype) → first ≡ g → monotype whole ≡ arrows count (from_number false first) 0 (monotype t) → put r (monotype whole) ≡ arrows count (new_at g r) 0 (put r (monotype t))
function_taken g first count t whole r e f = ap (put r) f ∙ (put-arrows r count (from_number false first) 0 (monotype t) ∙ ap (λ k. arrows count (new_at k r) 0 (put r (monotype t))) e)

pub result_taken : (g first count : ℕ) (whole : Mono) (r : ℕ → Monotype) → first ≡ g → monotype whole ≡ arrows count (from_number false first) 0 (Var (number (var (first + count)))) → put r (monotype whole) ≡ arrows count (new_at g r) 0 (new_at g r count)
result_taken g first count whole r e f = ap (put r) f ∙ (put-arrows r count (from_number false first) 0 (Var (number (var (first + count)))) ∙ ap (λ k. arrows count (new_at k r) 0 (new_at k r count)) e)

pub tuple_taken : (g first count : ℕ) (whole : Mono) (r : ℕ → Monotype) → first ≡ g → monotype whole ≡ tuple count (from_number false first) → put r (monotype whole) ≡ tuple count (new_at g r)
tuple_taken g first count whole r e f = ap (put r) f ∙ (ap (App (head.Tuple count)) (put-arguments r count (from_number false first) 0) ∙ ap (λ k. tuple count (new_at k r)) e)

pub list_taken : (g first : ℕ) (whole : Mono) (r : ℕ → Monotype) → first ≡ g → monotype whole ≡ list (from_number false first 0) → put r (monotype whole) ≡ list (new_at g r 0)
list_taken g first whole r e f = ap (put r) f ∙ ap (λ k. list (new_at k r 0)) e

-- in the states of the program

pub constructor_turn : (s : Monotype) (g first count : ℕ) (t whole : Mono) → first ≡ g → monotype whole ≡ arrows count (from_number false first) 0 (monotype t) →
    ((r : ℕ → Monotype) → Instantiates s (put r (monotype whole)) → Instantiates s (arrows count (new_at g r) 0 (put r (monotype t)))) × ((r : ℕ → Monotype) → Instantiates s (arrows count (new_at g r) 0 (put r (monotype t))) → Instantiates s (put r (monotype whole)))
constructor_turn s g first count t whole e f = ((λ r i. (i.0, sym (function_taken g first count t whole r e f) ∙ i.1)), (λ r i. (i.0, function_taken g first count t whole r e f ∙ i.1)))

pub made_turn : (t whole : Mono) (made : (ℕ → Monotype) → Monotype) → ((r : ℕ → Monotype) → put r (monotype whole) ≡ made r) →
    ((r : ℕ → Monotype) → Makes t whole r → put r (monotype t) ≡ made r) × ((r : ℕ → Monotype) → put r (monotype t) ≡ made r → Makes t whole r)
made_turn t whole made f = ((λ r e. e ∙ f r), (λ r e. e ∙ sym (f r)))

pub whole_given : (s s1 : Solving) (first count k : ℕ) (whole : Mono) → s1 ≡ given_more s k → first ≡ s.given → count ≤ k → ((g : ℕ) → first + count ≤ g → IsWellFormed g whole) → IsWellFormed s1.given whole
whole_given s s1 first count k whole e f l w = w s1.given (omega (arith, f, ap (λ z. z.given) e))
