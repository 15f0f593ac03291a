-- Generality of schemes, as programs decide it, is that of the schemes here.
use Rattle.std.proofs.Common.{◌≡◌, ℕ, Bool, cond, List, [], ◌∷◌, ◌↔◌, refl, sym, ap, ap₂, ◌∙◌}
use Rattle.hm_types.specs.Types.{Args, Var, App, done, more, put, put_all}
use Rattle.hm_types.specs.Monotypes.{Leaf, Mono, var, rigid}
use Rattle.hm_types.specs.Substitution.{Substitution, substitute, substitute_all}
use Rattle.hm_types.specs.Schemes.{TypeScheme, IsAtLeastAsGeneral, HasNoRigid, AllHaveNoRigid}
use Rattle.hm_typing.specs.Schemes.{Monotype, IsAtMostAsGeneral}
use Rattle.hm_typing.specs.Programs.{variable_of, monotype_of, scheme_of, HasKinds, AllHaveKinds, program_type, EquationsHaveKinds, MakesEqual, problem_of, LeavesRigid}
use Rattle.hm_typing.specs.Problems.{Unifies}
use Rattle.hm_typing.proofs.Groups.{cond_true, cond_false}
use Rattle.hm_typing.proofs.Types.{put-put, put-Var}
use Rattle.hm_typing.proofs.Bind.{instance_closed}

-- back to a program's type
abbrev embed : Monotype → Mono
embed t = put (λ n. Var (var n)) t

mutual
  monotype_of-substitute : (f : Substitution) (t : Mono) → HasNoRigid t → monotype_of (substitute f t) ≡ put (λ n. monotype_of (f n)) (monotype_of t)
  monotype_of-substitute f (Var (var n)) h = refl
  monotype_of-substitute f (Var (rigid n)) h = absurd h
  monotype_of-substitute f (App k ts) h = ap (App k) (monotypes_of-substitute f ts h)

  monotypes_of-substitute : (f : Substitution) (ts : Args Leaf) → AllHaveNoRigid ts → put_all variable_of (Rattle.hm_types.specs.Substitution.substitute_all f ts) ≡ put_all (λ n. monotype_of (f n)) (put_all variable_of ts)
  monotypes_of-substitute f done h = refl
  monotypes_of-substitute f (more t ts) h = ap₂ more (monotype_of-substitute f t h.0) (monotypes_of-substitute f ts h.1)

mutual
  embed_back : (t : Mono) → HasNoRigid t → embed (monotype_of t) ≡ t
  embed_back (Var (var n)) h = refl
  embed_back (Var (rigid n)) h = absurd h
  embed_back (App k ts) h = ap (App k) (embed_all_back ts h)

  embed_all_back : (ts : Args Leaf) → AllHaveNoRigid ts → put_all (λ n. Var (var n)) (put_all variable_of ts) ≡ ts
  embed_all_back done h = refl
  embed_all_back (more t ts) h = ap₂ more (embed_back t h.0) (embed_all_back ts h.1)

embed_put : (us : ℕ → Monotype) (t : Monotype) → embed (put us t) ≡ substitute (λ n. embed (us n)) (embed t)
embed_put us t = put-put (λ n. Var (var n)) us t ∙ sym (put-put _ (λ n. Var (var n)) t)

substitute_twice : (g f : Substitution) (t : Monotype) → substitute g (substitute f (embed t)) ≡ substitute (λ n. substitute g (f n)) (embed t)
substitute_twice g f t =
    ap (substitute g) (put-put _ (λ n. Var (var n)) t) ∙ (put-put _ f t ∙ sym (put-put _ (λ n. Var (var n)) t))

substitute_nothing : (t : Mono) → HasNoRigid t → substitute (λ n. Var (var n)) t ≡ t
substitute_nothing t h = ap (substitute (λ n. Var (var n))) (sym (embed_back t h)) ∙ (again (monotype_of t) ∙ embed_back t h)
  where
    again : (u : Monotype) → substitute (λ n. Var (var n)) (embed u) ≡ embed u
    again u = put-put _ (λ n. Var (var n)) u

pub decided : (special general : TypeScheme) → HasNoRigid special.body → HasNoRigid general.body → IsAtLeastAsGeneral general special ↔ IsAtMostAsGeneral (scheme_of special) (scheme_of general)
decided special general ns ng = (forth, back)
  where
    forth : IsAtLeastAsGeneral general special → IsAtMostAsGeneral (scheme_of special) (scheme_of general)
    forth more_general t i =
        let own = more_general special.body ((λ n. Var (var n)), substitute_nothing special.body ns) in
        let f = own.0 in
        let body : monotype_of special.body ≡ put (λ n. monotype_of (f n)) (monotype_of general.body) = ap monotype_of (sym own.1) ∙ monotype_of-substitute f general.body ng in (
          (λ n. put i.0 (monotype_of (f n))),
          i.1 ∙ (instance_closed (monotype_of special.body) i.0 ∙ (ap (put i.0) body ∙ (put-put i.0 (λ n. monotype_of (f n)) (monotype_of general.body)
              ∙ sym (instance_closed (monotype_of general.body) (λ n. put i.0 (monotype_of (f n))))))),
        )

    back : IsAtMostAsGeneral (scheme_of special) (scheme_of general) → IsAtLeastAsGeneral general special
    back at_most t i =
        let own = at_most (monotype_of special.body) (Var, sym (instance_closed (monotype_of special.body) Var ∙ put-Var (monotype_of special.body))) in
        let us = own.0 in
        let body : monotype_of special.body ≡ put us (monotype_of general.body) = own.1 ∙ instance_closed (monotype_of general.body) us in
        let same : special.body ≡ substitute (λ n. embed (us n)) general.body =
        sym (embed_back special.body ns) ∙ (ap embed body ∙ (embed_put us (monotype_of general.body) ∙ ap (substitute (λ n. embed (us n))) (embed_back general.body ng))) in (
          (λ n. substitute i.0 (embed (us n))),
          sym (substitute_twice i.0 (λ n. embed (us n)) (monotype_of general.body)
              ∙ ap (substitute (λ n. substitute i.0 (embed (us n)))) (embed_back general.body ng))
              ∙ (ap (λ b. substitute i.0 (substitute (λ n. embed (us n)) b)) (embed_back general.body ng) ∙ (ap (substitute i.0) (sym same) ∙ i.1)),
        )

-- Equations

module _ (is_rigid : ℕ → Bool) where
  abbrev pub here : Substitution → ℕ → Monotype
  here f n = cond (is_rigid n) (Var n) (monotype_of (f n))

  abbrev pub there : (ℕ → Monotype) → Substitution
  there r n = program_type is_rigid (r n)

  mutual
    to_here : (f : Substitution) (t : Mono) → HasKinds is_rigid t → monotype_of (substitute f t) ≡ put (here f) (monotype_of t)
    to_here f (Var (var n)) h = sym (cond_false (is_rigid n) _ _ h)
    to_here f (Var (rigid n)) h = sym (cond_true (is_rigid n) _ _ h)
    to_here f (App k ts) h = ap (App k) (all_to_here f ts h)

    all_to_here : (f : Substitution) (ts : Args Leaf) → AllHaveKinds is_rigid ts → put_all variable_of (substitute_all f ts) ≡ put_all (here f) (put_all variable_of ts)
    all_to_here f done h = refl
    all_to_here f (more t ts) h = ap₂ more (to_here f t h.0) (all_to_here f ts h.1)

  mutual
    to_there : (r : ℕ → Monotype) → LeavesRigid is_rigid r → (t : Mono) → HasKinds is_rigid t → substitute (there r) t ≡ program_type is_rigid (put r (monotype_of t))
    to_there r k (Var (var n)) h = refl
    to_there r k (Var (rigid n)) h = sym (ap (program_type is_rigid) (k n h) ∙ ap Var (cond_true (is_rigid n) _ _ h))
    to_there r k (App c ts) h = ap (App c) (all_to_there r k ts h)

    all_to_there : (r : ℕ → Monotype) → LeavesRigid is_rigid r → (ts : Args Leaf) → AllHaveKinds is_rigid ts → substitute_all (there r) ts ≡ put_all (λ n. Var (cond (is_rigid n) (rigid n) (var n))) (put_all r (put_all variable_of ts))
    all_to_there r k done h = refl
    all_to_there r k (more t ts) h = ap₂ more (to_there r k t h.0) (all_to_there r k ts h.1)

  pub here_leaves : (f : Substitution) → LeavesRigid is_rigid (here f)
  here_leaves f n e = cond_true (is_rigid n) _ _ e

  pub here_unifies : (f : Substitution) (es : List (Mono × Mono)) → EquationsHaveKinds is_rigid es → MakesEqual f es → Unifies (here f) (problem_of es)
  here_unifies f [] k m = tt
  here_unifies f (e ∷ es) k m = (sym (to_here f e.0 k.0.0) ∙ (ap monotype_of m.0 ∙ to_here f e.1 k.0.1), here_unifies f es k.1 m.1)

  pub there_makes : (r : ℕ → Monotype) → LeavesRigid is_rigid r → (es : List (Mono × Mono)) → EquationsHaveKinds is_rigid es → Unifies r (problem_of es) → MakesEqual (there r) es
  there_makes r l [] k u = tt
  there_makes r l (e ∷ es) k u = (to_there r l e.0 k.0.0 ∙ (ap (program_type is_rigid) u.0 ∙ sym (to_there r l e.1 k.0.1)), there_makes r l es k.1 u.1)
