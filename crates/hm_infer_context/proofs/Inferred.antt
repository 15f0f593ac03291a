-- Steps that find the most general type with a property.
use Rattle.std.proofs.Common.{◌≡◌, ℕ, zero, suc, ◌+◌, ◌≤◌, ◌++◌, ◌∷◌, [], false, length, List, Result, Ok, Err, IfOk, IfErr, IsErrAnd, refl, sym, ap, ap₂, ◌∙◌, subst, arith}
use Rattle.std.proofs.lemmas.List.{map-append}
use Rattle.hm_types.specs.declared.Head.{Head}
use Rattle.hm_types.specs.declared.Head.TheVariants as head
use Rattle.hm_types.specs.declared.monotypes.Ty.{Ty}
use Rattle.hm_types.specs.Shape.{type_of, types_of}
use Rattle.hm_types.specs.Types.{Var, App, done, more, put}
use Rattle.hm_types.specs.Monotypes.{Mono, Monos, var, arguments_of, list_of}
use Rattle.hm_typing.specs.Assumptions.{assumptions_put, Has}
use Rattle.hm_typing.specs.Names.{Identifier}
use Rattle.hm_typing.specs.Schemes.{Monotype, arrow, fill}
use Rattle.hm_typing.specs.Patterns.{Instantiates}
use Rattle.hm_typing.specs.Problems.{Unifies, FactsBelow}
use Rattle.hm_typing.specs.Programs.{monotype_of}
use Rattle.hm_typing.proofs.Check.{fill-agree-below}
use Rattle.hm_typing.proofs.Solve.{put-below}
use Rattle.hm_types.specs.Schemes.{TypeScheme, IsScheme}
use Rattle.hm_unify.specs.WellFormed.{IsWellFormed, EquationsAreWellFormed}
use Rattle.hm_unify.specs.Solving.{Solving}
use Rattle.hm_unify.specs.declared.faults.UnifyFault.{UnifyFault}
use Rattle.hm_infer_context.specs.Problems.{number, monotype, problem, bound, Refuses, given_more, new_at}
use Rattle.hm_infer_context.specs.Environments.{Assumed, IsSchemeOf, assumptions, scheme_in, opened, IsInstanceUnder}
use Rattle.hm_infer_context.specs.Inferred.{IsFound, IsInferred, AreParts, IsSomeFunction}
use Rattle.hm_infer_context.proofs.FoundNames.{found_has, has_found}
use Rattle.hm_infer_context.proofs.Leaves.{monotype-below}
use Rattle.hm_infer_context.proofs.Opened.{opened_filled, free_below, quantified_below, scheme_given, closed_instance, instance_closed}
use Rattle.hm_infer_context.proofs.Outcomes.{SolvedBy, pass_on}
use Rattle.hm_infer_context.proofs.States.{Makes, guess, guess_below, guess_new, guess_unifies, more_rest, problem_below}

-- the same property in other words
pub found_same : {X : Type 0} {P Q : (ℕ → Monotype) → X → Type 0} (s s' : Solving) (found : (ℕ → Monotype) → X) → ((r : ℕ → Monotype) (x : X) → P r x → Q r x) → ((r : ℕ → Monotype) (x : X) → Q r x → P r x) → IsFound P s s' found → IsFound Q s s' found
found_same s s' found f g a = record {
  grows = a.grows;
  below = a.below;
  sound = λ r u. (let h = a.sound r u in (h.0, f r (found r) h.1));
  complete = λ r x u p. a.complete r x u (g r x p);
}

-- An instance of a scheme

pub instance_inferred : (s s1 : Solving) (q base : ℕ) (body u : Mono) → IsWellFormed (q + s.given) body → FactsBelow (bound s) (problem s) → EquationsAreWellFormed s1.given s1.equations →
    s1 ≡ given_more s q → base ≡ s.given → u ≡ put (opened false q base) body → IsInferred (IsInstanceUnder (record { quantified = q; body = body })) s s1 u
instance_inferred s s1 q base body u w b k e f g = record {
  grows = (let h = ap (λ z. z.given) e in omega (arith, h));
  below = problem_below s1 k;
  sound = λ r v. (more_rest s q r (subst (λ z. Unifies r (problem z)) e v), (new_at s.given r, turn r));
  complete = λ r x v p.
      let j = guess s.given r p.0 in (
        j,
        (λ n h. guess_below s.given r p.0 n h),
        subst (λ z. Unifies j (problem z)) (sym e) (guess_unifies s q r p.0 b v),
        turn j ∙ (sym (fill-agree-below (bound s) q r j p.0 (new_at s.given j) (scheme_in (record { quantified = q; body = body })) (free_below q s.given body w) (quantified_below q s.given body w) (λ n h. guess_below s.given r p.0 n h) (λ i h. guess_new s.given r p.0 i)) ∙ sym p.1),
      );
}
  where
    turn : (r : ℕ → Monotype) → put r (monotype u) ≡ put (fill r (new_at s.given r)) (scheme_in (record { quantified = q; body = body }))
    turn r = ap (λ v. put r (monotype v)) (g ∙ ap (λ n. put (opened false q n) body) f) ∙ opened_filled q s.given r body

pub declared_inferred : (s s' : Solving) (scheme : TypeScheme) (q : ℕ) (body u : Mono) → IsScheme scheme → q ≡ scheme.vars → body ≡ scheme.body → IsInferred (IsInstanceUnder (record { quantified = q; body = body })) s s' u →
    IsInferred (λ r t. Instantiates (monotype_of scheme.body) t) s s' u
declared_inferred s s' scheme q body u v e f a =
    found_same {P = IsInstanceUnder (record { quantified = scheme.vars; body = scheme.body })} {Q = λ r t. Instantiates (monotype_of scheme.body) t} s s' (λ r. put r (monotype u))
    (λ r t p. closed_instance scheme.vars r scheme.body t (scheme_given scheme v) p) (λ r t p. instance_closed scheme.vars r scheme.body t (scheme_given scheme v) p)
    (subst (λ k. IsInferred (IsInstanceUnder (record { quantified = k; body = scheme.body })) s s' u) e (subst (λ k. IsInferred (IsInstanceUnder (record { quantified = q; body = k })) s s' u) f a))

pub constructor_inferred : {X : Type 0} (mono : X → Mono) (s s' : Solving) (known scheme : TypeScheme) (q : ℕ) (body : Mono) (outcome : Result X UnifyFault) → scheme ≡ known → IsScheme scheme → q ≡ scheme.vars → body ≡ scheme.body →
    IfOk outcome (λ t. IsInferred (IsInstanceUnder (record { quantified = q; body = body })) s s' (mono t)) → IfOk outcome (λ t. IsInferred (λ r u. Instantiates (monotype_of known.body) u) s s' (mono t))
constructor_inferred mono s s' known scheme q body (Ok t) i v e f a = subst (λ k. IsInferred (λ r u. Instantiates (monotype_of k.body) u) s s' (mono t)) i (declared_inferred s s' scheme q body (mono t) v e f a)
constructor_inferred mono s s' known scheme q body (Err e) i v d f a = tt

pub name_inferred : {X : Type 0} (mono : X → Mono) (s s' : Solving) (es : List Assumed) (x : Identifier) (q : ℕ) (body : Mono) (outcome : Result X UnifyFault) → IsSchemeOf x (record { quantified = q; body = body }) es →
    IfOk outcome (λ t. IsInferred (IsInstanceUnder (record { quantified = q; body = body })) s s' (mono t)) → IfOk outcome (λ t. IsInferred (λ r u. Has (assumptions_put r (assumptions es)) x u) s s' (mono t))
name_inferred mono s s' es x q body (Ok t) h a =
    found_same {P = IsInstanceUnder (record { quantified = q; body = body })} {Q = λ r u. Has (assumptions_put r (assumptions es)) x u} s s' (λ r. put r (monotype (mono t)))
    (λ r u p. found_has x (record { quantified = q; body = body }) es r u h p) (λ r u p. has_found x (record { quantified = q; body = body }) es r u h p) a
name_inferred mono s s' es x q body (Err e) h a = tt

-- a refusal that a `?` passes on
pub refusal_passed : {X : Type 0} (P : (ℕ → Monotype) → Type 0) (s : Solving) (outcome : Result X UnifyFault) (k : UnifyFault) → IsErrAnd outcome (λ y. y ≡ k) → Refuses P s k → IfErr outcome (Refuses P s)
refusal_passed P s (Ok x) k i n = absurd i
refusal_passed P s (Err e) k i n = subst (Refuses P s) (sym i) n

-- The parts of a function's type

first_argument : Monotype → Monotype
first_argument (Var n) = Var n
first_argument (App h done) = App h done
first_argument (App h (more t ts)) = t

second_argument : Monotype → Monotype
second_argument (Var n) = Var n
second_argument (App h done) = App h done
second_argument (App h (more t done)) = t
second_argument (App h (more t (more u ts))) = u

pub same_argument : (t u v w : Monotype) → arrow t u ≡ arrow v w → t ≡ v
unfolding first_argument
same_argument t u v w e = ap first_argument e

pub same_outcome : (t u v w : Monotype) → arrow t u ≡ arrow v w → u ≡ w
unfolding second_argument
same_outcome t u v w e = ap second_argument e

-- a type that is one of functions is taken apart
pub parts_taken : (s : Solving) (t argument outcome : Mono) → FactsBelow (bound s) (problem s) → t ≡ App head.Arrow (more argument (more outcome done)) → AreParts t s s argument outcome
parts_taken s t argument outcome b e = record {
  grows = omega arith;
  below = b;
  sound = λ r u. (u, ap (λ z. put r (monotype z)) e);
  complete = λ r x u p.
      let k = sym (ap (λ z. put r (monotype z)) e) ∙ p in
      (r, (λ n h. refl), u, ap₂ (λ v w. (v, w)) (same_argument _ _ _ _ k) (same_outcome _ _ _ _ k));
}

-- the arguments of a type of functions are two

arguments_in : Mono → Monos
arguments_in (Var l) = done
arguments_in (App h ts) = ts

two_or_more : (argument outcome : Mono) (ts : List Mono) → 2 ≤ length (list_of (arguments_of ((ts ++ argument ∷ []) ++ outcome ∷ [])))
two_or_more argument outcome [] = omega arith
two_or_more argument outcome (t ∷ ts) = let h = two_or_more argument outcome ts in omega (arith, h)

two_arguments : (value rest : List Mono) (argument outcome : Mono) → value ≡ (rest ++ argument ∷ []) ++ outcome ∷ [] → length (list_of (arguments_of value)) ≡ 2 → arguments_of value ≡ more argument (more outcome done)
two_arguments value [] argument outcome e f = ap arguments_of e
two_arguments value (t ∷ ts) argument outcome e f =
    let h = two_or_more argument outcome ts in
    let k : suc (length (list_of (arguments_of ((ts ++ argument ∷ []) ++ outcome ∷ [])))) ≡ 2 = sym (ap (λ z. length (list_of (arguments_of z))) e) ∙ f in
    absurd (omega (arith, h, k))

pub taken_apart : (g : ℕ) (t : Mono) (h : Head) (value : List Mono) (row rest before : List Ty) (argument outcome : Ty) → IsWellFormed g t → (ts : Monos) × (t ≡ App head.Arrow ts) → t ≡ App h (arguments_of value) → types_of row ≡ value →
    row ≡ rest ++ outcome ∷ [] → rest ≡ before ++ argument ∷ [] → t ≡ App head.Arrow (more (type_of argument) (more (type_of outcome) done))
unfolding arguments_in
taken_apart g t h value row rest before argument outcome w function is made last first =
    let same : arguments_of value ≡ function.0 = ap arguments_in (sym is ∙ function.1) in
    let whole : t ≡ App head.Arrow (arguments_of value) = function.1 ∙ ap (App head.Arrow) (sym same) in
    let two : value ≡ (types_of before ++ type_of argument ∷ []) ++ type_of outcome ∷ [] = sym made ∙ (ap types_of last ∙ (map-append type_of rest (outcome ∷ []) ∙ ap (λ z. z ++ type_of outcome ∷ []) (ap types_of first ∙ map-append type_of before (argument ∷ [])))) in
    whole ∙ ap (App head.Arrow) (two_arguments value (types_of before) (type_of argument) (type_of outcome) two (subst (IsWellFormed g) whole w).0)

pub parts_given : (g : ℕ) (t argument outcome : Mono) → IsWellFormed g t → t ≡ App head.Arrow (more argument (more outcome done)) → IsWellFormed g argument × IsWellFormed g outcome
parts_given g t argument outcome w e = let h = subst (IsWellFormed g) e w in (h.1.0, h.1.1.0)

-- two types, at the first two places
two : Monotype → Monotype → ℕ → Monotype
two t u zero = t
two t u (suc n) = u

whole_at : (first : ℕ) (whole : Mono) (r : ℕ → Monotype) → whole ≡ App head.Arrow (more (Var (var first)) (more (Var (var (first + 1))) done)) → put r (monotype whole) ≡ arrow (r (number (var first))) (r (number (var (first + 1))))
whole_at first whole r e = ap (λ z. put r (monotype z)) e

-- a type is made equal to one of functions from a new variable to another one
pub parts_made : (s s1 s2 : Solving) (t whole : Mono) (first : ℕ) → IsWellFormed s.given t → FactsBelow (bound s) (problem s) → s1 ≡ given_more s 2 → first ≡ s.given →
    whole ≡ App head.Arrow (more (Var (var first)) (more (Var (var (first + 1))) done)) → SolvedBy (Makes t whole) s1 s2 → AreParts t s s2 (Var (var first)) (Var (var (first + 1)))
unfolding two
parts_made s s1 s2 t whole first w b e f g a = record {
  grows = (let h = a.grows in let k = ap (λ z. z.given) e in omega (arith, h, k));
  below = a.below;
  sound = λ r u. (let h = a.sound r u in (more_rest s 2 r (subst (λ z. Unifies r (problem z)) e h.0), h.1 ∙ whole_at first whole r g));
  complete = λ r x u p.
      let j = guess s.given r (two x.0 x.1) in
      let at0 : j (number (var first)) ≡ x.0 = ap (λ n. j (number (var n))) (let z : first ≡ s.given + 0 = omega (arith, f) in z) ∙ guess_new s.given r (two x.0 x.1) 0 in
      let at1 : j (number (var (first + 1))) ≡ x.1 = ap (λ n. j (number (var (n + 1)))) f ∙ guess_new s.given r (two x.0 x.1) 1 in
      let makes : Makes t whole j = sym (put-below (bound s) r j (monotype t) (λ n h. guess_below s.given r (two x.0 x.1) n h) (monotype-below s.given t w)) ∙ (p ∙ (ap₂ arrow (sym at0) (sym at1) ∙ sym (whole_at first whole j g))) in
      let c = a.complete j (subst (λ z. Unifies j (problem z)) (sym e) (guess_unifies s 2 r (two x.0 x.1) b u)) makes in
      let k = ap (λ z. z.given) e in (
        c.0,
        (λ n h. c.1 n (omega (arith, h, k)) ∙ guess_below s.given r (two x.0 x.1) n h),
        c.2,
        ap₂ (λ v z. (v, z)) (c.1 (number (var first)) (omega (arith, k, f)) ∙ at0) (c.1 (number (var (first + 1))) (omega (arith, k, f)) ∙ at1),
      );
}

pub parts_refused : (s s1 : Solving) (t whole : Mono) (first : ℕ) → IsWellFormed s.given t → FactsBelow (bound s) (problem s) → s1 ≡ given_more s 2 → first ≡ s.given →
    whole ≡ App head.Arrow (more (Var (var first)) (more (Var (var (first + 1))) done)) → (e : UnifyFault) → Refuses (Makes t whole) s1 e → Refuses (IsSomeFunction t) s e
unfolding two
parts_refused s s1 t whole first w b e f g fault n =
    pass_on {P = IsSomeFunction t} {Q = Makes t whole} s s1 fault (λ r u p.
    let j = guess s.given r (two p.0.0 p.0.1) in
    let at0 : j (number (var first)) ≡ p.0.0 = ap (λ n. j (number (var n))) (let z : first ≡ s.given + 0 = omega (arith, f) in z) ∙ guess_new s.given r (two p.0.0 p.0.1) 0 in
    let at1 : j (number (var (first + 1))) ≡ p.0.1 = ap (λ n. j (number (var (n + 1)))) f ∙ guess_new s.given r (two p.0.0 p.0.1) 1 in
    (j, subst (λ z. Unifies j (problem z)) (sym e) (guess_unifies s 2 r (two p.0.0 p.0.1) b u), sym (put-below (bound s) r j (monotype t) (λ n h. guess_below s.given r (two p.0.0 p.0.1) n h) (monotype-below s.given t w)) ∙ (p.1 ∙ (ap₂ arrow (sym at0) (sym at1) ∙ sym (whole_at first whole j g)))))
    n
