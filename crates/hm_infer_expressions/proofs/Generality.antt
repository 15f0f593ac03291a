-- A closure with other numbers has the same instances.
use Rattle.std.proofs.Common.{◌≡◌, ℕ, refl, sym, ap, ◌∙◌, subst}
use Rattle.hm_types.specs.Types.{Var, In, put}
use Rattle.hm_typing.specs.Schemes.{Monotype, Scheme, SchemeVariable, Free, Quantified, fill, IsAtMostAsGeneral}
use Rattle.hm_typing.specs.Assumptions.{Assumptions, FreeIn}
use Rattle.hm_typing.specs.Decisions.{is_free_in}
use Rattle.hm_typing.specs.Generalisation.{quantified_unless, quantify}
use Rattle.hm_typing.proofs.Types.{put-agree, put-put, In-put}
use Rattle.hm_infer_generalisation.specs.Generalisations.{IsGeneralisation, renumbered}

pub no_more_general : (A : Assumptions) (t : Monotype) (σ : Scheme) → IsGeneralisation A t σ → IsAtMostAsGeneral σ (quantify A t)
no_more_general A t σ g u (us, e) =
    (λ a. us (g.slots a), e ∙ (ap (put (fill Var us)) g.whole ∙ (put-put (fill Var us) (renumbered g.slots) (quantify A t) ∙ put-agree _ _ (quantify A t) (λ v i. at v))))
  where
    at : (v : SchemeVariable) → put (fill Var us) (renumbered g.slots v) ≡ fill Var (λ a. us (g.slots a)) v
    at (Free a) = refl
    at (Quantified a) = refl

number_in : SchemeVariable → ℕ
number_in (Free a) = a
number_in (Quantified a) = a

IsQuantified : SchemeVariable → Type 0
IsQuantified (Free a) = ⊥
IsQuantified (Quantified a) = Unit {0}

-- a variable that the closure quantifies is one of the type that isn't free
pub quantified_in : (A : Assumptions) (t : Monotype) (a : ℕ) → In (Quantified a) (quantify A t) → In a t × ¬ (FreeIn a A)
unfolding number_in IsQuantified
quantified_in A t a i =
    let h = In-put (λ x. Var (quantified_unless (is_free_in x A) x)) (Quantified a) t i in
    at h.0 h.1 (is_free_in h.0 A) h.2
  where
    at : (x : ℕ) → In x t → (d : Dec (FreeIn x A)) → Quantified a ≡ quantified_unless d x → In a t × ¬ (FreeIn a A)
    at x j (yes f) e = absurd (subst IsQuantified e tt)
    at x j (no n) e = let same : a ≡ x = ap number_in e in (subst (λ z. In z t) (sym same) j, subst (λ z. ¬ (FreeIn z A)) (sym same) n)

pub as_general : (A : Assumptions) (t : Monotype) (σ : Scheme) → IsGeneralisation A t σ → IsAtMostAsGeneral (quantify A t) σ
as_general A t σ g u (us, e) =
    (λ k. us (g.back k), e ∙ sym (ap (put (fill Var (λ k. us (g.back k)))) g.whole ∙ (put-put (fill Var (λ k. us (g.back k))) (renumbered g.slots) (quantify A t) ∙ put-agree _ _ (quantify A t) at)))
  where
    at : (v : SchemeVariable) → In v (quantify A t) → put (fill Var (λ k. us (g.back k))) (renumbered g.slots v) ≡ fill Var us v
    at (Free a) i = refl
    at (Quantified a) i = let h = quantified_in A t a i in ap us (g.undone a h.0 h.1)
