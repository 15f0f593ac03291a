-- Laws of the closure of a type under assumptions.
use Rattle.std.proofs.Common.{◌≡◌, ℕ, refl, sym, ap, ◌∙◌, subst, ◌<◌, ◌+◌}
use Rattle.hm_types.specs.Types.{Var, In, put}
use Rattle.hm_typing.specs.Schemes.{Monotype, Scheme, Free, fill, instance, IsAtMostAsGeneral}
use Rattle.hm_typing.specs.Assumptions.{FreeIn, Assumptions}
use Rattle.hm_typing.specs.Decisions.{is_free_in, number_or, IsFree}
use Rattle.hm_typing.specs.Generalisation.{quantified_unless, quantify}
use Rattle.hm_typing.proofs.Types.{put-agree, put-put, In-put}
use Rattle.hm_typing.proofs.SchemeLaws.{split, split_below, put_split, AssumptionsBelow, instance_quantify}

-- what a name has where the variables that are not free in A are open
abbrev pub opened : {P : Type 0} → Dec P → (ℕ → Monotype) → ℕ → Monotype
opened (yes p) us a = Var a
opened (no n) us a = us a

pub opened_free : {P : Type 0} (d : Dec P) (us : ℕ → Monotype) (a : ℕ) → P → opened d us a ≡ Var a
opened_free (yes p) us a q = refl
opened_free (no n) us a q = absurd (n q)

pub fill_slot : {P : Type 0} (d : Dec P) (us : ℕ → Monotype) (a : ℕ) → fill Var us (quantified_unless d a) ≡ opened d us a
fill_slot (yes p) us a = refl
fill_slot (no n) us a = refl

-- each type under A from which the scheme was made, with other types for what is quantified
pub quantified_instance : (A : Assumptions) (t : Monotype) (us : ℕ → Monotype) → put (λ a. opened (is_free_in a A) us a) t ≡ instance (quantify A t) us
quantified_instance A t us =
    sym (put-put (fill Var us) (λ a. Var (quantified_unless (is_free_in a A) a)) t ∙ put-agree _ _ t (λ a i. fill_slot (is_free_in a A) us a))

-- what is quantified last is no less general than a scheme all of whose instances are typed
pub general_quantify : (A : Assumptions) (σ : Scheme) (n : ℕ) → ((a : ℕ) → In (Free a) σ → a < n) → AssumptionsBelow n A → IsAtMostAsGeneral σ (quantify A (instance σ (λ i. Var (n + i))))
general_quantify A σ n s h t i = (
  split n Var i.0,
  i.1 ∙ (sym (put_split n Var i.0 σ s) ∙ sym (instance_quantify A (split n Var i.0) _ (λ a f. split_below n Var i.0 a (h a f)))),
)

pub free_slot : {P : Type 0} (a b : ℕ) (d : Dec P) → Free a ≡ quantified_unless d b → (a ≡ b) × P
free_slot a b (yes p) e = (ap (number_or 0) e, p)
free_slot a b (no n) e = absurd (subst IsFree e tt)

pub In_quantify : (A : Assumptions) (t : Monotype) (a : ℕ) → In (Free a) (quantify A t) → FreeIn a A
In_quantify A t a i =
    let h = In-put (λ b. Var (quantified_unless (is_free_in b A) b)) (Free a) t i in
    let s = free_slot a h.0 (is_free_in h.0 A) h.2 in
    subst (λ b. FreeIn b A) (sym s.0) s.1
