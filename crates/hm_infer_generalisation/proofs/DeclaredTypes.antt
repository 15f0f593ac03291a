-- Declared types, with their variables taken as rigid ones, and their instances.
use Rattle.std.proofs.Common.{◌≡◌, ℕ, ◌+◌, ◌-◌, ◌<◌, true, cond, nat_lt, Result, Ok, Err, refl, sym, ap, ap₂, ◌∙◌, subst, arith, inl, inr}
use Rattle.std.proofs.lemmas.Bool.Decides.{nat_tests}
use Rattle.hm_types.specs.Types.{Args, Var, App, done, more, InArgs, put, put_all}
use Rattle.hm_types.specs.Monotypes.{Mono, Monos, var, rigid}
use Rattle.hm_typing.specs.Schemes.{Monotype}
use Rattle.hm_typing.specs.Problems.{IsBelow}
use Rattle.hm_typing.specs.Programs.{monotype_of, variable_of}
use Rattle.hm_typing.specs.Patterns.{Instantiates}
use Rattle.hm_unify.specs.WellFormed.{IsWellFormed, AreWellFormed}
use Rattle.hm_unify.specs.Solving.{Solving}
use Rattle.hm_unify.specs.declared.faults.UnifyFault.{UnifyFault}
use Rattle.hm_unify.proofs.WellFormed.{well_formed_more}
use Rattle.hm_infer_context.specs.Problems.{number, monotype, Answers, given_more}
use Rattle.hm_infer_context.specs.Environments.{opened}
use Rattle.hm_infer_context.proofs.Opened.{HasInstance, closed_instance, instance_closed, opened_given}
use Rattle.hm_infer_context.proofs.Outcomes.{solved_same, pass_on}
use Rattle.hm_types.specs.Schemes.{HasArities, AllHaveArities}
use Rattle.hm_names.specs.Types.{program_of}
use Rattle.hm_typing.proofs.Types.{put-put, put-Var}

pub monotype_of-program : (s : Monotype) → monotype_of (program_of s) ≡ s
monotype_of-program s = put-put variable_of (λ v. Var (var v)) s ∙ put-Var s

mutual
  program_given : (k : ℕ) (s : Monotype) → IsBelow k s → HasArities (program_of s) → IsWellFormed k (program_of s)
  program_given k (Var v) b a = b v refl
  program_given k (App h ts) b a = (a.0, all_program_given k ts b a.1)

  all_program_given : (k : ℕ) (ts : Args ℕ) → ((v : ℕ) → InArgs v ts → v < k) → AllHaveArities (put_all (λ v. Var (var v)) ts) → AreWellFormed k (put_all (λ v. Var (var v)) ts)
  all_program_given k done b a = tt
  all_program_given k (more t ts) b a = (program_given k t (λ v i. b v (inl i)) a.0, all_program_given k ts (λ v i. b v (inr i)) a.1)

-- a declared type, as the program has it
pub declared_is : (t : Mono) (s : Monotype) → t ≡ program_of s → monotype_of t ≡ s
declared_is t s e = ap monotype_of e ∙ monotype_of-program s

pub declared_is_given : (k : ℕ) (t : Mono) (s : Monotype) → t ≡ program_of s → IsBelow k s → HasArities t → IsWellFormed k t
declared_is_given k t s e b a = subst (IsWellFormed k) (sym e) (program_given k s b (subst HasArities e a))

mutual
  -- each variable becomes the rigid one of its number
  pub opened_rigid : (k g : ℕ) (t : Mono) → IsWellFormed k t → monotype (put (opened true k g) t) ≡ put (λ i. Var (number (rigid (g + i)))) (monotype_of t)
  opened_rigid k g (Var (var n)) w = let h : n < k = w in let e : nat_lt n k ≡ true = grind (arith, nat_tests) in ap (λ c. monotype (Var (cond c (rigid (g + n)) (var (n - k))))) e
  opened_rigid k g (Var (rigid n)) w = let h : n < k = w in let e : nat_lt n k ≡ true = grind (arith, nat_tests) in ap (λ c. monotype (Var (cond c (rigid (g + n)) (rigid (n - k))))) e
  opened_rigid k g (App h ts) w = ap (App h) (all_opened_rigid k g ts w.1)

  all_opened_rigid : (k g : ℕ) (ts : Monos) → AreWellFormed k ts → put_all (λ l. Var (number l)) (put_all (opened true k g) ts) ≡ put_all (λ i. Var (number (rigid (g + i)))) (put_all variable_of ts)
  all_opened_rigid k g done w = refl
  all_opened_rigid k g (more t ts) w = ap₂ more (opened_rigid k g t w.0) (all_opened_rigid k g ts w.1)

mutual
  -- the variables of a well-formed type are below its bound
  pub declared_below : (k : ℕ) (t : Mono) → IsWellFormed k t → IsBelow k (monotype_of t)
  declared_below k (Var (var n)) w a i = subst (λ z. z < k) (sym i) w
  declared_below k (Var (rigid n)) w a i = subst (λ z. z < k) (sym i) w
  declared_below k (App h ts) w a i = all_declared_below k ts w.1 a i

  all_declared_below : (k : ℕ) (ts : Monos) → AreWellFormed k ts → (a : ℕ) → InArgs a (put_all variable_of ts) → a < k
  all_declared_below k done w a i = absurd i
  all_declared_below k (more t ts) w a (inl i) = declared_below k t w.0 a i
  all_declared_below k (more t ts) w a (inr i) = all_declared_below k ts w.1 a i

pub rigid_shape : (g k first : ℕ) (t u : Mono) → IsWellFormed k t → first ≡ g → u ≡ put (opened true k first) t → monotype u ≡ put (λ i. Var (number (rigid (g + i)))) (monotype_of t)
rigid_shape g k first t u w e f = ap monotype (f ∙ ap (λ j. put (opened true k j) t) e) ∙ opened_rigid k g t w

pub rigid_given : (s s1 : Solving) (k first : ℕ) (t u : Mono) → s1 ≡ given_more s k → first ≡ s.given → u ≡ put (opened true k first) t → IsWellFormed k t → IsWellFormed s1.given u
rigid_given s s1 k first t u e f g w =
    subst (λ z. IsWellFormed z.given u) (sym e) (subst (IsWellFormed (s.given + k)) (sym (g ∙ ap (λ j. put (opened true k j) t) f)) (opened_given true k s.given t (well_formed_more k (k + s.given) t (omega arith) w)))

pub declared_more : (s : Solving) (k : ℕ) (t : Mono) → IsWellFormed k t → IsWellFormed (k + s.given) t
declared_more s k t w = well_formed_more k (k + s.given) t (omega arith) w

pub instantiated : {X : Type 0} (s s' : Solving) (k : ℕ) (body t : Mono) (outcome : Result X UnifyFault) → IsWellFormed k body → Answers (HasInstance k body t) s s' outcome → Answers (λ r. Instantiates (monotype_of body) (put r (monotype t))) s s' outcome
instantiated s s' k body t (Ok x) w a = solved_same s s' (λ r p. closed_instance k r body _ w p) (λ r p. instance_closed k r body _ w p) a
instantiated s s' k body t (Err e) w a = pass_on {P = λ r. Instantiates (monotype_of body) (put r (monotype t))} {Q = HasInstance k body t} s s e (λ r u p. (r, u, instance_closed k r body _ w p)) a
