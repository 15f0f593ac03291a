-- A constructor's declared type is taken apart, and its arguments are matched.
use Rattle.std.proofs.Common.{◌≡◌, ℕ, zero, suc, ◌+◌, ◌-◌, ◌<◌, ◌≤◌, List, [], ◌∷◌, ◌++◌, take, length, drop, get_or, Result, Ok, Err, refl, sym, ap, ap₂, ◌∙◌, subst, arith}
use Rattle.std.proofs.Math.Seq.{drop-length}
use Rattle.hm_types.specs.declared.monotypes.Ty.{Ty}
use Rattle.hm_types.specs.Shape.{type_of}
use Rattle.hm_types.specs.Types.{put}
use Rattle.hm_types.specs.Monotypes.{Mono}
use Rattle.hm_syntax.specs.Names.{Identifier as Name}
use Rattle.hm_syntax.specs.Trees.{Pattern, constructor_pattern}
use Rattle.hm_syntax.specs.Lists.{patterns}
use Rattle.hm_types.specs.Schemes.{TypeScheme}
use Rattle.hm_typing.specs.Names.{Identifier}
use Rattle.hm_typing.specs.Schemes.{Monotype, arrow}
use Rattle.hm_typing.specs.Syntax.{pattern_names, patterns_names}
use Rattle.hm_typing.specs.Patterns.{Matches, MatchesAll, Instantiates, arrows}
use Rattle.hm_typing.specs.Programs.{monotype_of}
use Rattle.hm_typing.specs.Problems.{FactsBelow}
use Rattle.hm_typing.proofs.Solve.{put-below}
use Rattle.hm_typing.proofs.Local.{MatchesAll-agree}
use Rattle.hm_unify.specs.Solving.{Solving}
use Rattle.hm_unify.specs.WellFormed.{IsWellFormed}
use Rattle.hm_unify.proofs.WellFormed.{well_formed_more}
use Rattle.hm_unify.specs.declared.faults.UnifyFault.{UnifyFault}
use Rattle.hm_unify.specs.declared.faults.UnifyFault.TheVariants.{Clash, Memory}
use Rattle.hm_names.specs.Syntax.{Known, pattern_of, patterns_of, constructor_type_of}
use Rattle.hm_infer_context.specs.ConstructorParts.{functions, IsFrontFound, HasArguments, IsConstructed, put_types, type_among, AreGivenTypes}
use Rattle.hm_infer_context.specs.Inferred.{IsFound, IsInferred, AreParts, IsSomeFunction}
use Rattle.hm_infer_context.specs.Patterns.{Variable, HaveTypes, AreGiven, IsMatched, RefusesMatch, Matched}
use Rattle.hm_infer_context.specs.Problems.{monotype, problem, bound, Refuses}
use Rattle.hm_infer_context.proofs.Leaves.{monotype-below}
use Rattle.hm_infer_context.proofs.MatchedForms.{Asks, AnswersPattern, answers_same, count_is, one_back, rest_asked}
use Rattle.hm_infer_context.proofs.Matching.{matched_nothing, matched_same, matched_then, refused_then, refused_same, continues_on}
use Rattle.hm_infer_context.proofs.Outcomes.{SolvedBy, pass_on}
use Rattle.hm_infer_context.proofs.States.{Makes}

-- Types of functions

functions_append : (ts : List Monotype) (t u : Monotype) → functions (ts ++ t ∷ []) u ≡ functions ts (arrow t u)
functions_append [] t u = refl
functions_append (v ∷ ts) t u = ap (arrow v) (functions_append ts t u)

functions_split : (i : ℕ) (ts : List Monotype) (u : Monotype) → functions ts u ≡ functions (take i ts) (functions (drop i ts) u)
functions_split zero ts u = refl
functions_split (suc i) [] u = refl
functions_split (suc i) (t ∷ ts) u = ap (arrow t) (functions_split i ts u)

arrows_of : (ts : List Monotype) (us : ℕ → Monotype) (i : ℕ) (u : Monotype) → ((j : ℕ) → j < length ts → us (i + j) ≡ type_among ts j) → arrows (length ts) us i u ≡ functions ts u
arrows_of [] us i u f = refl
arrows_of (t ∷ ts) us i u f =
    let z : i ≡ i + 0 = omega arith in
    ap₂ arrow (ap us z ∙ f 0 (omega arith)) (arrows_of ts us (suc i) u (λ j h. let y : suc i + j ≡ i + suc j = omega arith in ap us y ∙ f (suc j) (omega arith)))

front : ℕ → (ℕ → Monotype) → ℕ → List Monotype
front zero us i = []
front (suc k) us i = us i ∷ front k us (suc i)

front_length : (k : ℕ) (us : ℕ → Monotype) (i : ℕ) → length (front k us i) ≡ k
unfolding front
front_length zero us i = refl
front_length (suc k) us i = ap suc (front_length k us (suc i))

front_at : (k : ℕ) (us : ℕ → Monotype) (i j : ℕ) → j < k → type_among (front k us i) j ≡ us (i + j)
unfolding front
front_at zero us i j h = absurd (omega arith)
front_at (suc k) us i zero h = ap us (let z : i ≡ i + 0 = omega arith in z)
front_at (suc k) us i (suc j) h = front_at k us (suc i) j (omega arith) ∙ ap us (let z : suc i + j ≡ i + suc j = omega arith in z)

front_functions : (k : ℕ) (us : ℕ → Monotype) (i : ℕ) (u : Monotype) → functions (front k us i) u ≡ arrows k us i u
unfolding front
front_functions zero us i u = refl
front_functions (suc k) us i u = ap (arrow (us i)) (front_functions k us (suc i) u)

-- a list that isn't empty has a last element
last_of : (i : ℕ) (ts : List Monotype) → length ts ≡ suc i → (us : List Monotype) × (t : Monotype) × (ts ≡ us ++ t ∷ []) × (length us ≡ i)
last_of i [] e = absurd (omega (arith, e))
last_of zero (t ∷ []) e = ([], t, refl, refl)
last_of zero (t ∷ u ∷ ts) e = absurd (omega (arith, e))
last_of (suc i) (t ∷ ts) e = let k = last_of i ts (omega (arith, e)) in (t ∷ k.0, k.1, ap (λ z. t ∷ z) k.2, ap suc k.3)

-- a list that is longer than i has an element there
more_of : (i : ℕ) (ts : List Monotype) → i < length ts → (t : Monotype) × (us : List Monotype) × (drop i ts ≡ t ∷ us)
more_of i [] h = absurd (omega arith)
more_of zero (t ∷ ts) h = (t, ts, refl)
more_of (suc i) (t ∷ ts) h = more_of i ts (omega arith)

take_length : (i : ℕ) (ts : List Monotype) → i ≤ length ts → length (take i ts) ≡ i
take_length zero ts h = refl
take_length (suc i) [] h = absurd (omega arith)
take_length (suc i) (t ∷ ts) h = ap suc (take_length i ts (omega arith))

-- Types of the program

pub all_given_later : (g h : ℕ) (ts : List Ty) → g ≤ h → AreGivenTypes g ts → AreGivenTypes h ts
all_given_later g h [] l a = tt
all_given_later g h (t ∷ ts) l a = (well_formed_more g h (type_of t) l a.0, all_given_later g h ts l a.1)

pub all_given_more : (g : ℕ) (ts : List Ty) (t : Ty) → AreGivenTypes g ts → IsWellFormed g (type_of t) → AreGivenTypes g (ts ++ t ∷ [])
all_given_more g [] t a w = (w, tt)
all_given_more g (u ∷ ts) t a w = (a.0, all_given_more g ts t a.1 w)

pub all_given_pushed : (g : ℕ) (ts us : List Ty) (t : Ty) → us ≡ ts ++ t ∷ [] → AreGivenTypes g ts → IsWellFormed g (type_of t) → AreGivenTypes g us
all_given_pushed g ts us t e a w = subst (AreGivenTypes g) (sym e) (all_given_more g ts t a w)

pub given_at : (g : ℕ) (ts : List Ty) (j : ℕ) (u : Ty) → j < length ts → u ≡ get_or ts j u → AreGivenTypes g ts → IsWellFormed g (type_of u)
given_at g [] j u h e a = absurd (omega arith)
given_at g (t ∷ ts) zero u h e a = subst (λ z. IsWellFormed g (type_of z)) (sym e) a.0
given_at g (t ∷ ts) (suc j) u h e a = given_at g ts j u (omega arith) e a.1

put_at : (r : ℕ → Monotype) (ts : List Ty) (j : ℕ) (u : Ty) → j < length ts → u ≡ get_or ts j u → type_among (put_types r ts) j ≡ put r (monotype (type_of u))
put_at r [] j u h e = absurd (omega arith)
put_at r (t ∷ ts) zero u h e = ap (λ z. put r (monotype (type_of z))) (sym e)
put_at r (t ∷ ts) (suc j) u h e = put_at r ts j u (omega arith) e

put_more : (r : ℕ → Monotype) (ts : List Ty) (t : Ty) → put_types r (ts ++ t ∷ []) ≡ put_types r ts ++ put r (monotype (type_of t)) ∷ []
put_more r [] t = refl
put_more r (u ∷ ts) t = ap (λ z. put r (monotype (type_of u)) ∷ z) (put_more r ts t)

type_stays : (s : Solving) (t : Mono) (r q : ℕ → Monotype) → IsWellFormed s.given t → ((x : ℕ) → x < bound s → q x ≡ r x) → put q (monotype t) ≡ put r (monotype t)
type_stays s t r q w f = sym (put-below (bound s) r q (monotype t) f (monotype-below s.given t w))

types_stay : (s : Solving) (ts : List Ty) (r q : ℕ → Monotype) → AreGivenTypes s.given ts → ((x : ℕ) → x < bound s → q x ≡ r x) → put_types q ts ≡ put_types r ts
types_stay s [] r q a f = refl
types_stay s (t ∷ ts) r q a f = ap₂ (λ x y. x ∷ y) (type_stays s (type_of t) r q a.0 f) (types_stay s ts r q a.1 f)

pub one_longer : {A : Type 0} (xs ys : List A) (x : A) (n : ℕ) → ys ≡ xs ++ x ∷ [] → length xs ≡ n → length ys ≡ n + 1
one_longer xs ys x n e f = ap length e ∙ (counted xs ∙ let z : suc (length xs) ≡ n + 1 = omega (arith, f) in z)
  where
    counted : (us : List _) → length (us ++ x ∷ []) ≡ suc (length us)
    counted [] = refl
    counted (v ∷ us) = ap suc (counted us)

-- Steps of taking apart

no_front : (s : Monotype) (ts : List Monotype) (u : Monotype) → length ts ≡ 0 → Instantiates s (functions ts u) → (ts ≡ []) × Instantiates s u
no_front s [] u e p = (refl, p)
no_front s (t ∷ ts) u e p = absurd (omega (arith, e))

pub front_none : (s : Monotype) (s0 s1 : Solving) (ts : List Ty) (rest : Mono) → ts ≡ [] → IsInferred (λ r u. Instantiates s u) s0 s1 rest → IsFrontFound s 0 s0 s1 ts rest
front_none s s0 s1 ts rest n a = subst (λ z. IsFrontFound s 0 s0 s1 z rest) (sym n) (record {
  grows = a.grows;
  below = a.below;
  sound = λ r u. (let h = a.sound r u in (h.0, (refl, h.1)));
  complete = λ r x u p.
      let k = no_front s x.0 x.1 p.0 p.1 in
      let h = a.complete r x.1 u k.1 in
      (h.0, h.1, h.2, ap₂ (λ y z. (y, z)) (sym k.0) h.3);
})

pub front_more : (s : Monotype) (i : ℕ) (s0 s1 s2 : Solving) (ts : List Ty) (rest : Mono) (argument : Ty) (outcome : Mono) → AreGivenTypes s1.given ts → IsFrontFound s i s0 s1 ts rest → AreParts rest s1 s2 (type_of argument) outcome →
    IsFrontFound s (suc i) s0 s2 (ts ++ argument ∷ []) outcome
front_more s i s0 s1 s2 ts rest argument outcome w a b = record {
  grows = (let g = a.grows in let h = b.grows in omega (arith, g, h));
  below = b.below;
  sound = λ r u. (let h = b.sound r u in let k = a.sound r h.0 in (k.0, (long r k.1.0, turn r h.1 k.1.1)));
  complete = λ r x u p.
      let l = last_of i x.0 p.0 in
      let k = a.complete r (l.0, arrow l.1 x.1) u (l.3, subst (Instantiates s) (ap (λ z. functions z x.1) l.2 ∙ functions_append l.0 l.1 x.1) p.1) in
      let h = b.complete k.0 (l.1, x.1) k.2 (ap (λ z. z.1) k.3) in (
        h.0,
        (λ n d. h.1 n (let g = a.grows in omega (arith, d, g)) ∙ k.1 n d),
        h.2,
        ap₂ (λ y z. (y, z)) (put_more h.0 ts argument ∙ (ap₂ (λ y z. y ++ z ∷ []) (types_stay s1 ts k.0 h.0 w h.1 ∙ ap (λ z. z.0) k.3) (ap (λ z. z.0) h.3) ∙ sym l.2)) (ap (λ z. z.1) h.3),
      );
}
  where
    counted : (us : List Monotype) (u : Monotype) → length (us ++ u ∷ []) ≡ suc (length us)
    counted [] u = refl
    counted (v ∷ us) u = ap suc (counted us u)

    long : (r : ℕ → Monotype) → length (put_types r ts) ≡ i → length (put_types r (ts ++ argument ∷ [])) ≡ suc i
    long r e = ap length (put_more r ts argument) ∙ (counted (put_types r ts) (put r (monotype (type_of argument))) ∙ ap suc e)

    turn : (r : ℕ → Monotype) → put r (monotype rest) ≡ arrow (put r (monotype (type_of argument))) (put r (monotype outcome)) → Instantiates s (functions (put_types r ts) (put r (monotype rest))) → Instantiates s (functions (put_types r (ts ++ argument ∷ [])) (put r (monotype outcome)))
    turn r e p = subst (Instantiates s) (ap (functions (put_types r ts)) e ∙ (sym (functions_append (put_types r ts) (put r (monotype (type_of argument))) (put r (monotype outcome))) ∙ ap (λ z. functions z (put r (monotype outcome))) (sym (put_more r ts argument)))) p

pub front_pushed : (s : Monotype) (i j : ℕ) (s0 s1 s2 : Solving) (ts us : List Ty) (rest : Mono) (argument : Ty) (outcome : Mono) → us ≡ ts ++ argument ∷ [] → j ≡ suc i → AreGivenTypes s1.given ts → IsFrontFound s i s0 s1 ts rest → AreParts rest s1 s2 (type_of argument) outcome →
    IsFrontFound s j s0 s2 us outcome
front_pushed s i j s0 s1 s2 ts us rest argument outcome e f w a b =
    subst (λ k. IsFrontFound s k s0 s2 us outcome) (sym f) (subst (λ z. IsFrontFound s (suc i) s0 s2 z outcome) (sym e) (front_more s i s0 s1 s2 ts rest argument outcome w a b))

pub front_closed : (s : Monotype) (k : ℕ) (s0 s1 s2 : Solving) (ts : List Ty) (rest t : Mono) → IsWellFormed s0.given t → AreGivenTypes s1.given ts → IsFrontFound s k s0 s1 ts rest → SolvedBy (Makes t rest) s1 s2 →
    IsFound (HasArguments s k t) s0 s2 (λ r. put_types r ts)
front_closed s k s0 s1 s2 ts rest t w v a b = record {
  grows = (let g = a.grows in let h = b.grows in omega (arith, g, h));
  below = b.below;
  sound = λ r u.
      let h = b.sound r u in
      let j = a.sound r h.0 in
      (j.0, (j.1.0, subst (λ z. Instantiates s (functions (put_types r ts) z)) (sym h.1) j.1.1));
  complete = λ r x u p.
      let j = a.complete r (x, put r (monotype t)) u p in
      let c = b.complete j.0 j.2 (type_stays s0 t r j.0 w j.1 ∙ sym (ap (λ z. z.1) j.3)) in (
        c.0,
        (λ n d. c.1 n (let g = a.grows in omega (arith, d, g)) ∙ j.1 n d),
        c.2,
        types_stay s1 ts j.0 c.0 v c.1 ∙ ap (λ z. z.0) j.3,
      );
}

pub front_refused : (s : Monotype) (i k : ℕ) (s0 s1 : Solving) (ts : List Ty) (rest t : Mono) (e : UnifyFault) → i < k → IsFrontFound s i s0 s1 ts rest → Refuses (IsSomeFunction rest) s1 e → Refuses (IsConstructed s k t) s0 e
front_refused s i k s0 s1 ts rest t e h a n =
    pass_on {P = IsConstructed s k t} {Q = IsSomeFunction rest} s0 s1 e (λ r u p.
    let m = more_of i p.0 (let l = p.1.0 in omega (arith, h, l)) in
    let c = a.complete r (take i p.0, functions (drop i p.0) (put r (monotype t))) u (take_length i p.0 (let l = p.1.0 in omega (arith, h, l)), subst (Instantiates s) (functions_split i p.0 (put r (monotype t))) p.1.1) in
    (c.0, c.2, ((m.0, functions m.1 (put r (monotype t))), ap (λ z. z.1) c.3 ∙ ap (λ z. functions z (put r (monotype t))) m.2)))
    n

pub closed_refused : (s : Monotype) (k : ℕ) (s0 s1 : Solving) (ts : List Ty) (rest t : Mono) (e : UnifyFault) → IsWellFormed s0.given t → IsFrontFound s k s0 s1 ts rest → Refuses (Makes t rest) s1 e → Refuses (IsConstructed s k t) s0 e
closed_refused s k s0 s1 ts rest t e w a n =
    pass_on {P = IsConstructed s k t} {Q = Makes t rest} s0 s1 e (λ r u p.
    let c = a.complete r (p.0, put r (monotype t)) u p.1 in
    (c.0, c.2, type_stays s0 t r c.0 w c.1 ∙ sym (ap (λ z. z.1) c.3)))
    n

-- Patterns and their types, the last first

abbrev pub AsksTypes : Known → List Pattern → List Ty → ℕ → (Identifier → Monotype) → (ℕ → Monotype) → Type 0
AsksTypes known ps ts i ρ r = MatchesAll ρ (patterns_of known (patterns ps)) (type_among (put_types r ts)) i

abbrev pub TypesMatched : Known → List Pattern → List Ty → ℕ → Solving → List Variable → Solving → List Variable → Type 0
TypesMatched known ps ts i s vs s' vs' = (τ : Identifier → Monotype) → HaveTypes τ vs → (τ' : Identifier → Monotype) × IsMatched (AsksTypes known ps ts i) (patterns_names (patterns_of known (patterns ps))) s vs τ s' vs' τ'

types_step : {X : Type 0} (known : Known) (p : Pattern) (rest : List Pattern) (ts : List Ty) (u : Ty) (i : ℕ) (s : Solving) (vs : List Variable) (s1 : Solving) (vs1 : List Variable) (s2 : Solving) (vs2 : List Variable) (x : X) → i < length ts → u ≡ get_or ts i u → AreGivenTypes s.given ts →
    TypesMatched known rest ts (suc i) s vs s1 vs1 → AnswersPattern {X = X} known p (type_of u) s1 vs1 s2 vs2 (Ok x) → TypesMatched known (p ∷ rest) ts i s vs s2 vs2
types_step known p rest ts u i s vs s1 vs1 s2 vs2 x l e w m n = λ τ h.
    let j = m τ h in
    let k = n j.0 j.1.typed in
    let A = AsksTypes known rest ts (suc i) in (
      k.0,
      matched_same (λ ρ r. A ρ r × Asks known p (type_of u) ρ r) (AsksTypes known (p ∷ rest) ts i) _ s vs τ s2 vs2 k.0 (λ ρ r q. (subst (Matches ρ (pattern_of known p)) (sym (put_at r ts i u l e)) q.1, q.0)) (λ ρ r q. (q.1, subst (Matches ρ (pattern_of known p)) (put_at r ts i u l e) q.0))
          (matched_then A (Asks known p (type_of u)) (patterns_names (patterns_of known (patterns rest))) (pattern_names (pattern_of known p)) s vs τ s1 vs1 j.0 s2 vs2 k.0
          (λ r q ρ f d. subst (Matches ρ (pattern_of known p)) (sym (type_stays s (type_of u) r q (given_at s.given ts i u l e w) f)) d)
          (λ r ρ σ f d. MatchesAll-agree (patterns_of known (patterns rest)) ρ σ _ _ (suc i) f (λ y a b. refl) d) j.1 k.1),
    )

types_step_refused : (known : Known) (p : Pattern) (rest : List Pattern) (ts : List Ty) (u : Ty) (i : ℕ) (s : Solving) (vs : List Variable) (s1 : Solving) (vs1 : List Variable) (k : UnifyFault) → i < length ts → u ≡ get_or ts i u → AreGivenTypes s.given ts →
    TypesMatched known rest ts (suc i) s vs s1 vs1 → ((τ : Identifier → Monotype) → HaveTypes τ vs1 → RefusesMatch (Asks known p (type_of u)) s1 vs1 τ k) →
    (τ : Identifier → Monotype) → HaveTypes τ vs → RefusesMatch (AsksTypes known (p ∷ rest) ts i) s vs τ k
types_step_refused known p rest ts u i s vs s1 vs1 k l e w m n τ h =
    let j = m τ h in
    let A = AsksTypes known rest ts (suc i) in
    refused_same (λ ρ r. A ρ r × Asks known p (type_of u) ρ r) (AsksTypes known (p ∷ rest) ts i) s vs τ k (λ ρ r q. (q.1, subst (Matches ρ (pattern_of known p)) (put_at r ts i u l e) q.0))
    (refused_then A (Asks known p (type_of u)) (patterns_names (patterns_of known (patterns rest))) s vs τ s1 vs1 j.0 k (λ r q ρ f d. subst (Matches ρ (pattern_of known p)) (sym (type_stays s (type_of u) r q (given_at s.given ts i u l e w) f)) d) j.1 (n j.0 j.1.typed))

pub types_empty : (known : Known) (ps : List Pattern) (ts : List Ty) (j : ℕ) (s : Solving) (vs : List Variable) → j ≡ length ps → FactsBelow (bound s) (problem s) → AreGiven s.given vs → TypesMatched known (drop j ps) ts j s vs s vs
types_empty known ps ts j s vs e b a = subst (λ qs. TypesMatched known qs ts j s vs s vs) (sym (ap (λ k. drop k ps) e ∙ drop-length ps)) (λ τ h. (τ, matched_nothing s vs τ b h a))

pub types_back : {X : Type 0} (known : Known) (ps : List Pattern) (ts : List Ty) (j : ℕ) (d : Pattern) (u : Ty) (s : Solving) (vs : List Variable) (s1 : Solving) (vs1 : List Variable) (s2 : Solving) (vs2 : List Variable) (x : X) → length ts ≡ length ps →
    0 < j → j ≤ length ps → d ≡ get_or ps (j - 1) d → u ≡ get_or ts (j - 1) u → AreGivenTypes s.given ts → TypesMatched known (drop j ps) ts j s vs s1 vs1 →
    AnswersPattern {X = X} known d (type_of u) s1 vs1 s2 vs2 (Ok x) → TypesMatched known (drop (j - 1) ps) ts (j - 1) s vs s2 vs2
types_back {X} known ps ts j d u s vs s1 vs1 s2 vs2 x c h l e f w m n =
    let k : j ≡ suc (j - 1) = omega arith in
    subst (λ qs. TypesMatched known qs ts (j - 1) s vs s2 vs2) (sym (one_back ps j d h l e))
    (types_step {X = X} known d (drop j ps) ts u (j - 1) s vs s1 vs1 s2 vs2 x (omega (arith, c, h, l)) f w (subst (λ i. TypesMatched known (drop j ps) ts i s vs s1 vs1) k m) n)

pub types_refused : (known : Known) (ps : List Pattern) (ts : List Ty) (j : ℕ) (d : Pattern) (u : Ty) (s : Solving) (vs : List Variable) (s1 : Solving) (vs1 : List Variable) (k : UnifyFault) → length ts ≡ length ps →
    0 < j → j ≤ length ps → d ≡ get_or ps (j - 1) d → u ≡ get_or ts (j - 1) u → AreGivenTypes s.given ts → TypesMatched known (drop j ps) ts j s vs s1 vs1 →
    ((τ : Identifier → Monotype) → HaveTypes τ vs1 → RefusesMatch (Asks known d (type_of u)) s1 vs1 τ k) →
    (τ : Identifier → Monotype) → HaveTypes τ vs → RefusesMatch (AsksTypes known ps ts 0) s vs τ k
types_refused known ps ts j d u s vs s1 vs1 k c h l e f w m n τ a =
    let y : j ≡ suc (j - 1) = omega arith in
    let z : 0 + (j - 1) ≡ j - 1 = omega arith in
    refused_same (AsksTypes known (drop (j - 1) ps) ts (j - 1)) (AsksTypes known ps ts 0) s vs τ k
    (λ ρ r q. subst (MatchesAll ρ (patterns_of known (patterns (drop (j - 1) ps))) (type_among (put_types r ts))) z (rest_asked known ps ρ (type_among (put_types r ts)) 0 (j - 1) q))
    (subst (λ qs. RefusesMatch (AsksTypes known qs ts (j - 1)) s vs τ k) (sym (one_back ps j d h l e))
    (types_step_refused known d (drop j ps) ts u (j - 1) s vs s1 vs1 k (omega (arith, c, h, l)) f w (subst (λ i. TypesMatched known (drop j ps) ts i s vs s1 vs1) y m) n τ a))

pub types_whole : (known : Known) (ps : List Pattern) (ts : List Ty) (j : ℕ) (s : Solving) (vs : List Variable) (s1 : Solving) (vs1 : List Variable) → j ≡ 0 → TypesMatched known (drop j ps) ts j s vs s1 vs1 → TypesMatched known ps ts 0 s vs s1 vs1
types_whole known ps ts j s vs s1 vs1 e m = subst (λ k. TypesMatched known (drop k ps) ts k s vs s1 vs1) e m

-- A constructor pattern

abbrev Listed : Known → Name → List Pattern → Mono → (Identifier → Monotype) → (ℕ → Monotype) → Type 0
Listed known n ps t ρ r = (us : List Monotype) × (HasArguments (constructor_type_of known n) (length ps) t r us × MatchesAll ρ (patterns_of known (patterns ps)) (type_among us) 0)

listed_asked : (known : Known) (n : Name) (ps : List Pattern) (t : Mono) (ρ : Identifier → Monotype) (r : ℕ → Monotype) → Listed known n ps t ρ r → Asks known (constructor_pattern n (patterns ps)) t ρ r
listed_asked known n ps t ρ r p =
    let s = constructor_type_of known n in
    let us = p.0 in
    let u = put r (monotype t) in
    let instance = subst (λ j. Instantiates s (arrows j (type_among us) 0 u)) (p.1.0.0 ∙ sym (count_is known ps)) (subst (Instantiates s) (sym (arrows_of us (type_among us) 0 u (λ j h. ap (type_among us) (let z : 0 + j ≡ j = omega arith in z)))) p.1.0.1) in
    (type_among us, (instance, p.1.1))

asked_listed : (known : Known) (n : Name) (ps : List Pattern) (t : Mono) (ρ : Identifier → Monotype) (r : ℕ → Monotype) → Asks known (constructor_pattern n (patterns ps)) t ρ r → Listed known n ps t ρ r
asked_listed known n ps t ρ r p =
    let s = constructor_type_of known n in
    let k = length ps in
    let c = count_is known ps in
    let u = put r (monotype t) in
    let instance = subst (Instantiates s) (sym (front_functions k p.0 0 u)) (subst (λ j. Instantiates s (arrows j p.0 0 u)) c p.1.0) in
    let all = MatchesAll-agree (patterns_of known (patterns ps)) ρ ρ p.0 (type_among (front k p.0 0)) 0 (λ x o. refl) (λ j l h. sym (front_at k p.0 0 j (omega (arith, h, c)) ∙ ap p.0 (let z : 0 + j ≡ j = omega arith in z))) p.1.1 in
    (front k p.0 0, ((front_length k p.0 0, instance), all))

found_matched : (known : Known) (n : Name) (ps : List Pattern) (ts : List Ty) (t : Mono) (xs : List Identifier) (s : Solving) (vs : List Variable) (τ : Identifier → Monotype) (s1 s2 : Solving) (vs2 : List Variable) (τ2 : Identifier → Monotype) → HaveTypes τ vs → AreGiven s.given vs →
    IsFound (HasArguments (constructor_type_of known n) (length ps) t) s s1 (λ r. put_types r ts) → IsMatched (AsksTypes known ps ts 0) xs s1 vs τ s2 vs2 τ2 → IsMatched (Listed known n ps t) xs s vs τ s2 vs2 τ2
found_matched known n ps ts t xs s vs τ s1 s2 vs2 τ2 h w a m = record {
  grows = (let f = a.grows in let g = m.grows in omega (arith, f, g));
  below = m.below;
  names = m.names;
  typed = m.typed;
  given = m.given;
  stay = m.stay;
  sound = λ r u. (let b = m.sound r u in let c = a.sound r b.0 in (c.0, (put_types r ts, (c.1, b.1))));
  complete = λ r ρ u c p.
      let k = a.complete r p.0 u p.1.0 in
      let d = m.complete k.0 ρ k.2 (continues_on s vs τ ρ r k.0 h w k.1 c) (subst (λ z. MatchesAll ρ (patterns_of known (patterns ps)) (type_among z) 0) (sym k.3) p.1.1) in
      (d.0, (λ x l. d.1 x (let f = a.grows in omega (arith, f, l)) ∙ k.1 x l), d.2, d.3);
}

found_refused : (known : Known) (n : Name) (ps : List Pattern) (ts : List Ty) (t : Mono) (s : Solving) (vs : List Variable) (τ : Identifier → Monotype) (s1 : Solving) (e : UnifyFault) → HaveTypes τ vs → AreGiven s.given vs →
    IsFound (HasArguments (constructor_type_of known n) (length ps) t) s s1 (λ r. put_types r ts) → RefusesMatch (AsksTypes known ps ts 0) s1 vs τ e → RefusesMatch (Listed known n ps t) s vs τ e
found_refused known n ps ts t s vs τ s1 Clash h w a m = λ r ρ u c p.
    let k = a.complete r p.0 u p.1.0 in
    m k.0 ρ k.2 (continues_on s vs τ ρ r k.0 h w k.1 c) (subst (λ z. MatchesAll ρ (patterns_of known (patterns ps)) (type_among z) 0) (sym k.3) p.1.1)
found_refused known n ps ts t s vs τ s1 Memory h w a m = tt

listed_answers : {X : Type 0} (known : Known) (n : Name) (ps : List Pattern) (ts : List Ty) (t : Mono) (xs : List Identifier) (s : Solving) (vs : List Variable) (s1 s2 : Solving) (vs2 : List Variable) (outcome : Result X UnifyFault) → AreGiven s.given vs →
    IsFound (HasArguments (constructor_type_of known n) (length ps) t) s s1 (λ r. put_types r ts) → Matched (AsksTypes known ps ts 0) xs s1 vs s2 vs2 outcome → Matched (Listed known n ps t) xs s vs s2 vs2 outcome
listed_answers known n ps ts t xs s vs s1 s2 vs2 (Ok x) w a m = λ τ h. (let j = m τ h in (j.0, found_matched known n ps ts t xs s vs τ s1 s2 vs2 j.0 h w a j.1))
listed_answers known n ps ts t xs s vs s1 s2 vs2 (Err e) w a m = λ τ h. found_refused known n ps ts t s vs τ s1 e h w a (m τ h)

pub constructor_answers : {X : Type 0} (known : Known) (n : Name) (ps qs : List Pattern) (scheme : TypeScheme) (count : ℕ) (ts : List Ty) (t : Mono) (s : Solving) (vs : List Variable) (s1 s2 : Solving) (vs2 : List Variable) (outcome : Result X UnifyFault) →
    scheme ≡ known.scheme n → count ≡ length ps → qs ≡ ps → AreGiven s.given vs → IsFound (HasArguments (monotype_of scheme.body) count t) s s1 (λ r. put_types r ts) →
    Matched (AsksTypes known qs ts 0) (patterns_names (patterns_of known (patterns qs))) s1 vs s2 vs2 outcome → AnswersPattern known (constructor_pattern n (patterns ps)) t s vs s2 vs2 outcome
constructor_answers known n ps qs scheme count ts t s vs s1 s2 vs2 outcome e f g w a m =
    answers_same (Listed known n ps t) (Asks known (constructor_pattern n (patterns ps)) t) _ s vs s2 vs2 outcome (listed_asked known n ps t) (asked_listed known n ps t)
    (listed_answers known n ps ts t _ s vs s1 s2 vs2 outcome w
    (subst (λ c. IsFound (HasArguments (constructor_type_of known n) c t) s s1 (λ r. put_types r ts)) f (subst (λ z. IsFound (HasArguments (monotype_of z.body) count t) s s1 (λ r. put_types r ts)) e a))
    (subst (λ k. Matched (AsksTypes known k ts 0) (patterns_names (patterns_of known (patterns k))) s1 vs s2 vs2 outcome) g m))

pub constructor_refused : (known : Known) (n : Name) (ps : List Pattern) (scheme : TypeScheme) (count : ℕ) (t : Mono) (s : Solving) (vs : List Variable) (e : UnifyFault) → scheme ≡ known.scheme n → count ≡ length ps →
    Refuses (IsConstructed (monotype_of scheme.body) count t) s e → (τ : Identifier → Monotype) → HaveTypes τ vs → RefusesMatch (Asks known (constructor_pattern n (patterns ps)) t) s vs τ e
constructor_refused known n ps scheme count t s vs Clash i f n' τ h = λ r ρ u c p.
    let k = asked_listed known n ps t ρ r p in
    n' r u (k.0, subst (λ z. HasArguments (monotype_of z.body) count t r k.0) (sym i) (subst (λ c. HasArguments (constructor_type_of known n) c t r k.0) (sym f) k.1.0))
constructor_refused known n ps scheme count t s vs Memory i f n' τ h = tt
