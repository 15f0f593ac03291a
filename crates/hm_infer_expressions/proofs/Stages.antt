-- A list is inferred group after group: what holds between two groups, and at the end.
use Rattle.std.proofs.Common.{◌≡◌, ℕ, List, Bool, true, false, ◌||◌, inl, inr, ⊎_elim, refl, sym, ap, ◌∙◌, subst, subst₂, ◌<◌, arith, true≢false}
use Rattle.hm_typing.specs.Names.{IsOneOf, Identifier}
use Rattle.hm_typing.specs.Schemes.{Monotype, Scheme, instance, closed, scheme_put, IsAtMostAsGeneral}
use Rattle.hm_typing.specs.Assumptions.{Assumptions, empty, assumptions_put, AreAtMostAsGeneral, bind_all}
use Rattle.hm_typing.specs.Syntax.{Bindings, no_binding, unsigned, signed, matched, names}
use Rattle.hm_typing.specs.Units.{IsUnsigned, IsSigned}
use Rattle.hm_typing.specs.SecondForm.{DerivedSchemes, DeriveClauses, seen_at}
use Rattle.hm_typing.specs.Problems.{FactsBelow, MostGeneralUnifier, IsLocal}
use Rattle.hm_typing.specs.Orders.{IsNext, SignedAre, Layout}
use Rattle.hm_typing.proofs.SchemeLaws.{scheme_put-agree, assumptions_put-agree, AssumptionsBelow, scheme_put_In}
use Rattle.hm_typing.proofs.Bind.{Has-Sees, Sees-Has, bind_all-agree, assumptions_put-bind_all, scheme_put_closed, instance_closed}
use Rattle.hm_typing.proofs.Groups.{over, GroupQ, Remaining, Stage, cond_false}
use Rattle.hm_typing.proofs.Bridge.{own_signed}
use Rattle.hm_typing.proofs.Matching.{own_name}
use Rattle.hm_typing.proofs.Lists.{SignedHas, stage_last, to_remaining, from_remaining, same_units}
use Rattle.hm_unify.specs.Solving.{Solving}
use Rattle.hm_unify.specs.declared.faults.UnifyFault.{UnifyFault}
use Rattle.hm_unify.specs.declared.faults.UnifyFault.TheVariants.{Clash, Memory}
use Rattle.hm_infer_context.specs.Problems.{problem, bound, Refuses, given_more}
use Rattle.hm_infer_context.specs.Environments.{Assumed, assumptions, AreAssumed}
use Rattle.hm_infer_expressions.specs.Lists.{IsListed, RefusesList}
use Rattle.hm_infer_expressions.specs.Stages.{Following, IsStage}
use Rattle.hm_infer_context.proofs.Outcomes.{SolvedBy}
use Rattle.hm_infer_context.proofs.States.{more_rest}
use Rattle.hm_infer_context.proofs.FoundNames.{assumed_below}
use Rattle.hm_infer_expressions.proofs.Steps.{variable_at, made, group_asked, step_guess, step_back, made_schemes}

following_more : (Γ : Assumptions) (r : ℕ → Monotype) (C C' : Assumptions) → AreAtMostAsGeneral C C' → Following Γ C r → Following Γ C' r
following_more Γ r C C' m f x t h = m x t (f x t h)

following_local : (n : ℕ) (Γ C : Assumptions) → IsLocal n (Following Γ C)
following_local n Γ C r q a f = f

pub stage_start : (ds : Bindings) (L : Layout ds) (A : Assumptions) (s : Solving) → FactsBelow (bound s) (problem s) → IsStage ds L A (λ x. false) L.declared s s
stage_start ds L A s b = record {
  grows = omega arith;
  below = b;
  schemes = record {
    below = λ y a i. absurd (L.are_closed y a i);
    inner = λ r u y a i. (let k = scheme_put_In r a (L.declared y) i in absurd (L.are_closed y k.0 k.1));
    declared = L.are_declared;
  };
  sound = λ r u. (u, λ B' p m. m);
  complete = λ r u Γ p. (r, (λ x h. refl), u, p);
}

-- a group is solved
module _ (ds : Bindings) (L : Layout ds) (A : Assumptions) (finished g : Identifier → Bool) (next : IsNext ds L.own finished g) (B : Identifier → Scheme) (s s0 : Solving) (low : AssumptionsBelow (bound s) A) (stage : IsStage ds L A finished B s s0)
    (k : ℕ) (place : Identifier → ℕ) (named : ℕ → Identifier) (placed : (x : Identifier) → g x ≡ true → (place x < k) × (named (place x) ≡ x)) where
  later : AssumptionsBelow (bound s0) A
  later a f = let h = low a f in let l = stage.grows in omega arith

  pub stage_group : (s1 : Solving) → SolvedBy (GroupQ g (names ds) A B (variable_at s0.given place) ds) (given_more s0 k) s1 → (m : MostGeneralUnifier (problem s1)) → IsStage ds L A (λ y. finished y || g y) (made g A s0.given place B s1 m) s s1
  stage_group s1 solved m = record {
    grows = (let l = stage.grows in let h = solved.grows in omega arith);
    below = solved.below;
    schemes = made_schemes ds L.own L.units finished g next A s0 k B place named placed stage.schemes later stage.below s1 solved (Following empty) (λ r C C' i f. following_more empty r C C' i f) (following_local (bound s0) empty) m;
    sound = λ r u.
        let a = solved.sound r u in
        let b = stage.sound r (more_rest s0 k r a.0) in
        (b.0, λ B' pinned p. let c = step_back ds L.own L.units finished g next A s0 k B place named placed stage.schemes later stage.below s1 solved (Following empty) (λ q C C' i f. following_more empty q C C' i f) (following_local (bound s0) empty) m r u B' pinned p in b.1 B' c.0 c.1);
    complete = λ r u Γ p.
        let b = stage.complete r u Γ p in
        let c = step_guess ds L.own L.units finished g next A s0 k B place named placed stage.schemes later stage.below s1 solved (Following Γ) (following_more Γ) (following_local (bound s0) Γ) b.0 b.2 b.3 in
        (c.0, (λ x h. c.1 x (let l = stage.grows in omega arith) ∙ b.1 x h), c.2, c.3 m);
  }

-- the typings of a list, as the first stage

pub to_stage : (ds : Bindings) (L : Layout ds) (A : Assumptions) (r : ℕ → Monotype) (B : Identifier → Scheme) → DerivedSchemes (assumptions_put r A) ds B → Stage L.own ds (Following (bind_all (names ds) B (assumptions_put r A))) A (λ x. false) L.declared r
to_stage ds L A r B d =
    (B, ((λ x e. absurd (true≢false (sym e))), (subst (λ own. Remaining own (names ds) (λ x. false) (assumptions_put r A) B ds) (same_units ds L.own d.own L.units d.units) (to_remaining ds d.own (names ds) (assumptions_put r A) B d.bindings), λ x t h. h)))

-- a group has no solution: nor has the list
pub stage_refused : (ds : Bindings) (L : Layout ds) (es : List Assumed) (finished g : Identifier → Bool) → IsNext ds L.own finished g → (B : Identifier → Scheme) (s s0 : Solving) → AreAssumed s.given es → IsStage ds L (assumptions es) finished B s s0 →
    (k : ℕ) (place : Identifier → ℕ) (named : ℕ → Identifier) → ((x : Identifier) → g x ≡ true → (place x < k) × (named (place x) ≡ x)) →
    (e : UnifyFault) → Refuses (GroupQ g (names ds) (assumptions es) B (variable_at s0.given place) ds) (given_more s0 k) e → RefusesList ds s es e
stage_refused ds L es finished g next B s s0 a stage k place named placed Memory n = tt
stage_refused ds L es finished g next B s s0 a stage k place named placed Clash n = λ r u B' d.
    let b = stage.complete r u (bind_all (names ds) B' (assumptions_put r (assumptions es))) (to_stage ds L (assumptions es) r B' d) in
    let low : AssumptionsBelow (bound s0) (assumptions es) = λ x f. (let h = assumed_below s.given es a x f in let l = stage.grows in omega arith) in
    let c = group_asked ds L.own L.units finished g next (assumptions es) s0 k B place named placed stage.schemes low stage.below (Following (bind_all (names ds) B' (assumptions_put r (assumptions es)))) b.0 b.2 b.3 in
    n c.0 c.1 c.2

-- the end: all groups are finished, and the signed bindings have their declared types

sees_last : (ds : Bindings) (L : Layout ds) (A : Assumptions) (B : Identifier → Scheme) (r us : ℕ → Monotype) (x : Identifier) → IsSigned x ds → bind_all (names ds) (seen_at L.own (over r B) us x) (assumptions_put r A) ≡ assumptions_put r (bind_all (names ds) B A)
sees_last ds L A B r us x i = bind_all-agree (names ds) _ (over r B) _ _ (λ y o. cond_false (L.own x y) _ _ (own_signed ds L.own L.units x y i)) refl ∙ sym (assumptions_put-bind_all r (names ds) B A)

-- nothing but the signed bindings is left
remains_signed : (ds : Bindings) (L : Layout ds) (A : Assumptions) (finished : Identifier → Bool) (B : Identifier → Scheme) → ((x : Identifier) → IsUnsigned x ds → finished x ≡ true) → (r : ℕ → Monotype) (D : Bindings) → ((y : Identifier) → IsSigned y D → IsSigned y ds) → ((y : Identifier) → IsUnsigned y D → IsUnsigned y ds) → SignedAre B D →
    SignedHas (assumptions_put r (bind_all (names ds) B A)) D → Remaining L.own (names ds) finished (assumptions_put r A) (over r B) D
remains_signed ds L A finished B done r no_binding sub sup d h = tt
remains_signed ds L A finished B done r (unsigned x cs D) sub sup d h = ((λ f. absurd (true≢false (sym (done x (sup x (inl refl))) ∙ f))), remains_signed ds L A finished B done r D sub (λ y i. sup y (inr i)) d h)
remains_signed ds L A finished B done r (signed x s cs D) sub sup d h =
    let declared : scheme_put r (B x) ≡ closed s = ap (scheme_put r) d.0 ∙ scheme_put_closed r s in (
      (declared, λ us. subst₂ (λ C v. DeriveClauses C cs v) (sym (sees_last ds L A B r us x (sub x (inl refl)))) (sym (ap (λ σ. instance σ us) declared ∙ instance_closed s us)) (h.0 us)),
      remains_signed ds L A finished B done r D (λ y i. sub y (inr i)) sup d.1 h.1,
    )
remains_signed ds L A finished B done r (matched k p cs D) sub sup d h = ((λ f. absurd (true≢false (sym (done k (sup k (inl (own_name k p)))) ∙ f))), remains_signed ds L A finished B done r D sub (λ y i. sup y (inr i)) d h)

each_name : (xs : List Identifier) (B C : Identifier → Scheme) (A : Assumptions) → AreAtMostAsGeneral (bind_all xs B A) (bind_all xs C A) → (x : Identifier) → IsOneOf x xs → IsAtMostAsGeneral (B x) (C x)
each_name xs B C A m x o t i = ⊎_elim (λ h. h.1) (λ h. absurd (h.0 o)) (Has-Sees xs C A x t (m x t (Sees-Has xs B A x t (inl (o, i)))))

pub stage_listed : (ds : Bindings) (L : Layout ds) (A : Assumptions) (finished : Identifier → Bool) (B : Identifier → Scheme) (s s1 s2 : Solving) → AssumptionsBelow (bound s) A → IsStage ds L A finished B s s1 → ((x : Identifier) → IsUnsigned x ds → finished x ≡ true) →
    SolvedBy (λ r. SignedHas (assumptions_put r (bind_all (names ds) B A)) ds) s1 s2 → IsListed A ds B s s2
stage_listed ds L A finished B s s1 s2 low stage done signeds = record {
  grows = (let l = stage.grows in let h = signeds.grows in omega arith);
  below = signeds.below;
  schemes_below = λ x o a i. (let h = stage.schemes.below x a i in let l = signeds.grows in omega arith);
  inner = λ r u x o a i. stage.schemes.inner r (signeds.sound r u).0 x a i;
  sound = λ r u.
      let a = signeds.sound r u in
      let b = stage.sound r a.0 in
      (b.0, record { own = L.own; units = L.units; bindings = from_remaining ds L.own (names ds) (assumptions_put r A) (over r B) (b.1 (over r B) (λ x f. refl) (remains r a.1)) });
  complete = λ r u B' d.
      let b = stage.complete r u (bind_all (names ds) B' (assumptions_put r A)) (to_stage ds L A r B' d) in
      let c = stage_last ds L.own L.units A (Following (bind_all (names ds) B' (assumptions_put r A))) finished B done stage.schemes.declared b.0 b.3 in
      let e = signeds.complete b.0 b.2 c.0 in
      let env : assumptions_put b.0 (bind_all (names ds) B A) ≡ bind_all (names ds) (over b.0 B) (assumptions_put r A) =
      assumptions_put-bind_all b.0 (names ds) B A ∙ ap (bind_all (names ds) (over b.0 B)) (assumptions_put-agree b.0 r A (λ x f. b.1 x (low x f))) in (
        e.0,
        (λ x h. e.1 x (let l = stage.grows in omega arith) ∙ b.1 x h),
        e.2,
        (λ x o. subst (IsAtMostAsGeneral (B' x)) (scheme_put-agree b.0 e.0 (B x) (λ a i. sym (e.1 a (stage.schemes.below x a i))))
            (each_name (names ds) B' (over b.0 B) (assumptions_put r A) (subst (AreAtMostAsGeneral (bind_all (names ds) B' (assumptions_put r A))) env c.1) x o)),
      );
}
  where
    remains : (r : ℕ → Monotype) → SignedHas (assumptions_put r (bind_all (names ds) B A)) ds → Remaining L.own (names ds) finished (assumptions_put r A) (over r B) ds
    remains r h = remains_signed ds L A finished B done r ds (λ y i. i) (λ y i. i) stage.schemes.declared h
