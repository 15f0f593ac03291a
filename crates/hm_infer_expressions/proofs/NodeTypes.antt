-- The variables of a pattern binding have the types of their nodes.
use Rattle.std.proofs.Common.{◌≡◌, ℕ, zero, suc, ◌+◌, ◌-◌, ◌<◌, ◌≤◌, ◌⊎◌, ⊎_elim, inl, inr, List, [], ◌∷◌, length, get_or, Option, Some, None, Result, Ok, Err, refl, sym, ap, ◌∙◌, subst, arith}
use Rattle.std.specs.List.{slice_get}
use Rattle.std.proofs.lemmas.Option.{slice_get_within, slice_get-get_or}
use Rattle.hm_types.specs.Types.{Var, put}
use Rattle.hm_types.specs.Shape.{type_of}
use Rattle.hm_types.specs.Monotypes.{var}
use Rattle.hm_typing.specs.Names.{Identifier, IsOneOf}
use Rattle.hm_typing.specs.Schemes.{Monotype}
use Rattle.hm_typing.specs.Syntax.{Pattern, pattern_names, bool}
use Rattle.hm_typing.specs.Patterns.{Matches}
use Rattle.hm_typing.specs.Problems.{Unifies, FactsBelow, IsLocal}
use Rattle.hm_typing.proofs.Solve.{put-below}
use Rattle.hm_typing.proofs.Local.{Matches-agree}
use Rattle.hm_unify.specs.Solving.{Solving}
use Rattle.hm_unify.specs.WellFormed.{IsWellFormed}
use Rattle.hm_unify.specs.declared.faults.UnifyFault.{UnifyFault}
use Rattle.hm_unify.specs.declared.faults.UnifyFault.TheVariants.{Clash, Memory}
use Rattle.hm_infer_context.specs.declared.variables.Variable.{Variable as KeptVariable}
use Rattle.hm_infer_context.specs.Problems.{number, monotype, problem, bound, Refuses}
use Rattle.hm_infer_context.specs.Patterns.{Variable, names_of, HaveTypes, AreGiven, put_each, IsMatched, RefusesMatch}
use Rattle.hm_infer_context.specs.Kept.{stack, variable_of, variables_of}
use Rattle.hm_infer_expressions.specs.GroupQuestions.{type_at, AreGivenTypes, HaveTypesBefore, HaveNodeTypes}
use Rattle.hm_infer_context.proofs.OpenedFunctions.{append_nothing}
use Rattle.hm_infer_context.proofs.Tables.{stack_length}
use Rattle.hm_infer_context.proofs.Leaves.{monotype-below}
use Rattle.hm_infer_context.proofs.Outcomes.{SolvedBy, solved_nothing, solved_same, solved_both, carries_second, pass_on}

absurd_none : {X Y : Type 0} {a : X} → None ≡ Some a → Y
absurd_none h = cc

some_one : {X : Type 0} {a b : X} → Some a ≡ Some b → a ≡ b
some_one h = cc

-- places in a reversed row

stack_get : {A B : Type 0} (f : A → B) (xs : List A) (ys : List B) (k : ℕ) (v : B) → slice_get (stack f xs ys) k ≡ Some v →
    ((j : ℕ) × (d : A) × (j + (k + 1) ≡ length xs) × (slice_get xs j ≡ Some d) × (v ≡ f d)) ⊎ ((length xs ≤ k) × (slice_get ys (k - length xs) ≡ Some v))
stack_get f [] ys k v e = inr (omega arith, subst (λ i. slice_get ys i ≡ Some v) (omega arith) e)
stack_get f (x ∷ xs) ys k v e = ⊎_elim
    (λ h. inl (suc h.0, h.1, (let p = h.2 in omega arith), h.3, h.4))
    (λ h. at (k - length xs) refl h.0 h.1)
    (stack_get f xs (f x ∷ ys) k v e)
  where
    at : (i : ℕ) → k - length xs ≡ i → length xs ≤ k → slice_get (f x ∷ ys) (k - length xs) ≡ Some v →
        ((j : ℕ) × (d : _) × (j + (k + 1) ≡ length (x ∷ xs)) × (slice_get (x ∷ xs) j ≡ Some d) × (v ≡ f d)) ⊎ ((length (x ∷ xs) ≤ k) × (slice_get ys (k - length (x ∷ xs)) ≡ Some v))
    at zero i l g = inl (zero, x, omega arith, refl, sym (some_one (subst (λ z. slice_get (f x ∷ ys) z ≡ Some v) i g)))
    at (suc n) i l g = inr ((omega arith), subst (λ z. slice_get ys z ≡ Some v) (omega arith) (subst (λ z. slice_get (f x ∷ ys) z ≡ Some v) i g))

stack_past : {A B : Type 0} (f : A → B) (xs : List A) (ys : List B) (i : ℕ) → slice_get (stack f xs ys) (length xs + i) ≡ slice_get ys i
stack_past f [] ys i = ap (slice_get ys) (omega arith)
stack_past f (x ∷ xs) ys i = ap (slice_get (stack f xs (f x ∷ ys))) (omega arith) ∙ stack_past f xs (f x ∷ ys) (suc i)

stack_at : {A B : Type 0} (f : A → B) (xs : List A) (ys : List B) (j : ℕ) (d : A) → slice_get xs j ≡ Some d → slice_get (stack f xs ys) (length xs - 1 - j) ≡ Some (f d)
stack_at f [] ys j d e = absurd_none e
stack_at f (x ∷ xs) ys zero d e = ap (slice_get (stack f xs (f x ∷ ys))) (omega arith) ∙ (stack_past f xs (f x ∷ ys) 0 ∙ ap (λ z. Some (f z)) (some_one e))
stack_at f (x ∷ xs) ys (suc j) d e = ap (slice_get (stack f xs (f x ∷ ys))) (omega arith) ∙ stack_at f xs (f x ∷ ys) j d e

-- equations, one after the other

abbrev pub Rows : List ℕ → ℕ → List KeptVariable → ℕ → (ℕ → Monotype) → Type 0
Rows types own xs i r = (j : ℕ) (v : KeptVariable) → j < i → slice_get xs j ≡ Some v → put r (monotype (type_of v.ty)) ≡ put r (type_at types (own - 1 - j))

pub rows_none : (types : List ℕ) (own : ℕ) (xs : List KeptVariable) (s : Solving) → FactsBelow (bound s) (problem s) → SolvedBy (Rows types own xs 0) s s
rows_none types own xs s b = solved_same {P = λ r. Unit {0}} {Q = Rows types own xs 0} s s (λ r p j v h e. absurd (omega arith)) (λ r p. tt) (solved_nothing s b)

given_at : (g : ℕ) (xs : List KeptVariable) (vs : List Variable) (j : ℕ) (d : KeptVariable) → AreGiven g (stack variable_of xs vs) → slice_get xs j ≡ Some d → IsWellFormed g (type_of d.ty)
given_at g [] vs j d a e = absurd_none e
given_at g (x ∷ xs) vs zero d a e = subst (λ z. IsWellFormed g (type_of z.ty)) (some_one e) (under xs (variable_of x ∷ vs) a).0
  where
    under : (ys : List KeptVariable) (us : List Variable) → AreGiven g (stack variable_of ys us) → AreGiven g us
    under [] us h = h
    under (y ∷ ys) us h = (under ys (variable_of y ∷ us) h).1
given_at g (x ∷ xs) vs (suc j) d a e = given_at g xs (variable_of x ∷ vs) j d a e

pub item_given : (g : ℕ) (xs : List KeptVariable) (j : ℕ) (d : KeptVariable) → AreGiven g (variables_of xs) → j < length xs → d ≡ get_or xs j d → IsWellFormed g (type_of d.ty)
item_given g xs j d a h e = given_at g xs [] j d a (slice_get-get_or xs j d h ∙ ap Some (sym e))

one_local : (t : Rattle.hm_types.specs.Monotypes.Mono) (n : ℕ) (s : Solving) → IsWellFormed s.given t → n < s.given → IsLocal (bound s) (λ r. put r (monotype t) ≡ put r (Var (number (var n))))
one_local t n s w h r q f e = sym (put-below (bound s) r q (monotype t) f (monotype-below s.given t w)) ∙ (e ∙ sym (f (number (var n)) (omega arith)))

pub rows_more : (types : List ℕ) (own n : ℕ) (xs : List KeptVariable) (i : ℕ) (d : KeptVariable) (s s1 s2 : Solving) → s1.given ≡ s.given → AreGiven s.given (variables_of xs) → AreGivenTypes s.given types → own - 1 - i < length types → n ≡ get_or types (own - 1 - i) 0 → i < length xs → d ≡ get_or xs i d →
    SolvedBy (Rows types own xs i) s s1 → SolvedBy (λ r. put r (monotype (type_of d.ty)) ≡ put r (Var (number (var n)))) s1 s2 → SolvedBy (Rows types own xs (i + 1)) s s2
rows_more types own n xs i d s s1 s2 g a t b e h k m o =
    solved_same {P = λ r. Rows types own xs i r × (put r (monotype (type_of d.ty)) ≡ put r (Var (number (var n))))} {Q = Rows types own xs (i + 1)} s s2
    (λ r p j v l f. ⊎_elim
    (λ q. ap (λ z. put r (monotype (type_of z.ty))) (some_one (sym f ∙ (ap (slice_get xs) q ∙ at))) ∙ (p.1 ∙ ap (λ z. r (number (var z))) (e ∙ ap (λ z. get_or types (own - 1 - z) 0) (sym q))))
    (λ q. p.0 j v q f)
    (Rattle.std.proofs.Common.eq-or-lt_of_le (le j l)))
    (λ r p. ((λ j v l f. p j v (omega arith) f), p i d (omega arith) at ∙ ap (λ z. r (number (var z))) (sym e)))
    (solved_both s s1 s2 (one_local (type_of d.ty) n s (item_given s.given xs i d a h k) (subst (λ z. z < s.given) (sym e) (t (own - 1 - i) b))) m o)
  where
    at : slice_get xs i ≡ Some d
    at = slice_get-get_or xs i d h ∙ ap Some (sym k)

    le : (j : ℕ) → j < i + 1 → j ≤ i
    le j l = omega arith

pub rows_refused : (types : List ℕ) (own n : ℕ) (xs : List KeptVariable) (i : ℕ) (d : KeptVariable) (s s1 : Solving) (x : UnifyFault) → s1.given ≡ s.given → AreGiven s.given (variables_of xs) → AreGivenTypes s.given types → own - 1 - i < length types → n ≡ get_or types (own - 1 - i) 0 → i < length xs → d ≡ get_or xs i d →
    SolvedBy (Rows types own xs i) s s1 → Refuses (λ r. put r (monotype (type_of d.ty)) ≡ put r (Var (number (var n)))) s1 x → Refuses (HaveNodeTypes types own xs) s x
rows_refused types own n xs i d s s1 x g a t b e h k m o =
    pass_on {P = HaveNodeTypes types own xs} {Q = λ r. put r (monotype (type_of d.ty)) ≡ put r (Var (number (var n)))} s s1 x
    (λ r u p. carries_second {P = Rows types own xs i} {Q = λ r. put r (monotype (type_of d.ty)) ≡ put r (Var (number (var n)))} s s1
    (one_local (type_of d.ty) n s (item_given s.given xs i d a h k) (subst (λ z. z < s.given) (sym e) (t (own - 1 - i) b))) m r u ((λ j v l f. p j v f), p i d at ∙ ap (λ z. r (number (var z))) (sym e)))
    o
  where
    at : slice_get xs i ≡ Some d
    at = slice_get-get_or xs i d h ∙ ap Some (sym k)

pub rows_all : (types : List ℕ) (own : ℕ) (xs : List KeptVariable) (i : ℕ) (s s1 : Solving) → length xs ≤ i → SolvedBy (Rows types own xs i) s s1 → SolvedBy (HaveNodeTypes types own xs) s s1
rows_all types own xs i s s1 l m = solved_same {P = Rows types own xs i} {Q = HaveNodeTypes types own xs} s s1 (λ r p j v f. p j v (let h = slice_get_within xs j v f in omega arith) f) (λ r p j v h f. p j v f) m

-- a pattern, and the types of its variables

-- the type of the k-th name
name_type : (xs : List KeptVariable) (τ' : Identifier → Monotype) (k : ℕ) (x : Identifier) → HaveTypes τ' (variables_of xs) → slice_get (names_of (variables_of xs)) k ≡ Some x →
    (j : ℕ) × (d : KeptVariable) × (j + (k + 1) ≡ length xs) × (slice_get xs j ≡ Some d) × (τ' x ≡ monotype (type_of d.ty))
name_type xs τ' k x t e =
    let n = named (variables_of xs) k x e in
    let h = stack_get variable_of xs [] k n.0 n.1 in
    ⊎_elim
    (λ g. (g.0, g.1, g.2, g.3, ap τ' (sym n.2) ∙ (sym (typed (variables_of xs) k n.0 t n.1) ∙ ap (λ v. monotype v.ty) g.4)))
    (λ g. absurd_none g.1) h
  where
    named : (vs : List Variable) (i : ℕ) (y : Identifier) → slice_get (names_of vs) i ≡ Some y → (v : Variable) × (slice_get vs i ≡ Some v) × (v.name ≡ y)
    named [] i y f = absurd_none f
    named (v ∷ vs) zero y f = (v, refl, some_one f)
    named (v ∷ vs) (suc i) y f = named vs i y f

    typed : (vs : List Variable) (i : ℕ) (v : Variable) → HaveTypes τ' vs → slice_get vs i ≡ Some v → monotype v.ty ≡ τ' (v.name)
    typed [] i v h f = absurd_none f
    typed (w ∷ vs) zero v h f = subst (λ z. monotype z.ty ≡ τ' (z.name)) (some_one f) h.0
    typed (w ∷ vs) (suc i) v h f = typed vs i v h.1 f

place_of : (x : Identifier) (zs : List Identifier) → IsOneOf x zs → (k : ℕ) × (slice_get zs k ≡ Some x)
place_of x [] o = absurd o
place_of x (z ∷ zs) (inl e) = (zero, ap Some (sym e))
place_of x (z ∷ zs) (inr o) = let h = place_of x zs o in (suc h.0, h.1)

-- the place of a name among the nodes
node_place : (own k j n : ℕ) → n ≤ own → j + (k + 1) ≡ n → own - n + k ≡ own - 1 - j
node_place own k j n l e = omega arith

abbrev pub AsksBinding : Pattern → List ℕ → ℕ → (Identifier → Monotype) → (ℕ → Monotype) → Type 0
AsksBinding p types own τ r = Matches (put_each r τ) p (put r (type_at types own))

-- what matching the pattern of a binding against its type answers
abbrev pub PatternMatched : Pattern → List ℕ → ℕ → Solving → Solving → List Variable → Type 0
PatternMatched p types own s s1 vs = (σ : Identifier → Monotype) → HaveTypes σ [] → (τ' : Identifier → Monotype) × IsMatched (λ ρ r. Matches ρ p (put r (type_at types own))) (pattern_names p) s [] σ s1 vs τ'

module _ (p : Pattern) (types : List ℕ) (own : ℕ) (τ : Identifier → Monotype) (before : HaveTypesBefore τ (pattern_names p) types own) (xs : List KeptVariable) (s s1 : Solving) (given : AreGivenTypes s.given types) (low : own < length types) (few : length (pattern_names p) ≤ own) (m : PatternMatched p types own s s1 (variables_of xs)) where
  M : (τ' : Identifier → Monotype) × IsMatched (λ ρ r. Matches ρ p (put r (type_at types own))) (pattern_names p) s [] (λ x. bool) s1 (variables_of xs) τ'
  M = m (λ x. bool) tt

  names_are : names_of (variables_of xs) ≡ pattern_names p
  names_are = M.1.names ∙ append_nothing (pattern_names p)

  counted : length xs ≡ length (pattern_names p)
  counted = let a = named_length (variables_of xs) in let b = ap length names_are in let c = stack_length variable_of xs [] in omega arith
    where
      named_length : (vs : List Variable) → length (names_of vs) ≡ length vs
      named_length [] = refl
      named_length (v ∷ vs) = ap suc (named_length vs)

  -- the type of a name, and that of its node
  both : (x : Identifier) → IsOneOf x (pattern_names p) → (j : ℕ) × (d : KeptVariable) × (slice_get xs j ≡ Some d) × (M.0 x ≡ monotype (type_of d.ty)) × (τ x ≡ type_at types (own - 1 - j))
  both x o =
      let k = place_of x (pattern_names p) o in
      let h = name_type xs M.0 k.0 x M.1.typed (subst (λ zs. slice_get zs k.0 ≡ Some x) (sym names_are) k.1) in
      let many : length xs ≡ length (pattern_names p) = counted in
      (h.0, h.1, h.3, h.4, before k.0 x k.1 ∙ ap (type_at types) (node_place own k.0 h.0 (length (pattern_names p)) few (h.2 ∙ many)))

  -- the variables have the types of their nodes where the question of the rows is answered
  same_types : (r : ℕ → Monotype) → HaveNodeTypes types own xs r → (x : Identifier) → IsOneOf x (pattern_names p) → put r (M.0 x) ≡ put r (τ x)
  same_types r h x o = let b = both x o in ap (put r) b.3 ∙ (h b.0 b.1 b.2 ∙ sym (ap (put r) b.4))

  guess : (r : ℕ → Monotype) → Unifies r (problem s) → AsksBinding p types own τ r → (q : ℕ → Monotype) × ((x : ℕ) → x < bound s → q x ≡ r x) × Unifies q (problem s1) × HaveNodeTypes types own xs q
  guess r u a =
      let c = M.1.complete r (put_each r τ) u (λ x o. absurd o) a in (
        c.0,
        c.1,
        c.2,
        λ j d f.
            let n = back j d f in
            sym (ap (put c.0) n.1.1.0) ∙ (c.3 n.0 (subst (λ zs. IsOneOf n.0 zs) (sym names_are) n.1.0) ∙ (ap (put r) n.1.1.1 ∙ sym (c.1 (number (var (get_or types (own - 1 - j) 0))) (under j d f)))),
      )
    where
      under : (j : ℕ) (d : KeptVariable) → slice_get xs j ≡ Some d → number (var (get_or types (own - 1 - j) 0)) < bound s
      under j d f = let h = given (own - 1 - j) (omega arith) in omega arith

      back : (j : ℕ) (d : KeptVariable) → slice_get xs j ≡ Some d → (x : Identifier) × (IsOneOf x (pattern_names p) × ((M.0 x ≡ monotype (type_of d.ty)) × (τ x ≡ type_at types (own - 1 - j))))
      back j d f =
          let k = length xs - 1 - j in
          let v : slice_get (variables_of xs) k ≡ Some (variable_of d) = stack_at variable_of xs [] j d f in
          let x = slice_name (variables_of xs) k (variable_of d) v in
          let o = among (names_of (variables_of xs)) k (variable_of d).name x in
          let l = slice_get_within xs j d f in
          let many : length xs ≡ length (pattern_names p) = counted in
          ((variable_of d).name, (subst (IsOneOf (variable_of d).name) names_are o, (sym (kept (variables_of xs) k (variable_of d) M.1.typed v), before k (variable_of d).name (subst (λ zs. slice_get zs k ≡ Some ((variable_of d).name)) names_are x) ∙ ap (type_at types) (omega (arith, l, many)))))
        where
          slice_name : (vs : List Variable) (i : ℕ) (w : Variable) → slice_get vs i ≡ Some w → slice_get (names_of vs) i ≡ Some (w.name)
          slice_name [] i w g = absurd_none g
          slice_name (u ∷ vs) zero w g = ap (λ z. Some (z.name)) (some_one g)
          slice_name (u ∷ vs) (suc i) w g = slice_name vs i w g

          among : (zs : List Identifier) (i : ℕ) (x : Identifier) → slice_get zs i ≡ Some x → IsOneOf x zs
          among [] i x g = absurd_none g
          among (z ∷ zs) zero x g = inl (sym (some_one g))
          among (z ∷ zs) (suc i) x g = inr (among zs i x g)

          kept : (vs : List Variable) (i : ℕ) (w : Variable) → HaveTypes M.0 vs → slice_get vs i ≡ Some w → monotype w.ty ≡ M.0 (w.name)
          kept [] i w h g = absurd_none g
          kept (u ∷ vs) zero w h g = subst (λ z. monotype z.ty ≡ M.0 (z.name)) (some_one g) h.0
          kept (u ∷ vs) (suc i) w h g = kept vs i w h.1 g

  pub binding_solved : (s2 : Solving) → SolvedBy (HaveNodeTypes types own xs) s1 s2 → SolvedBy (AsksBinding p types own τ) s s2
  binding_solved s2 a = record {
    grows = (let g = M.1.grows in let h = a.grows in omega arith);
    below = a.below;
    sound = λ r u.
        let b = a.sound r u in
        let c = M.1.sound r b.0 in
        (c.0, Matches-agree p (put_each r M.0) (put_each r τ) (put r (type_at types own)) (λ x o. same_types r b.1 x o) c.1);
    complete = λ r u q.
        let c = guess r u q in
        let d = a.complete c.0 c.2 c.3 in
        (d.0, (λ x h. d.1 x (let g = M.1.grows in omega arith) ∙ c.1 x h), d.2);
  }

  pub binding_refused : (e : UnifyFault) → Refuses (HaveNodeTypes types own xs) s1 e → Refuses (AsksBinding p types own τ) s e
  binding_refused e n = pass_on {P = AsksBinding p types own τ} {Q = HaveNodeTypes types own xs} s s1 e (λ r u q. let c = guess r u q in (c.0, c.2, c.3)) n

pub pattern_refused : (p : Pattern) (types : List ℕ) (own : ℕ) (τ : Identifier → Monotype) (s : Solving) (e : UnifyFault) → ((σ : Identifier → Monotype) → HaveTypes σ [] → RefusesMatch (λ ρ r. Matches ρ p (put r (type_at types own))) s [] σ e) → Refuses (AsksBinding p types own τ) s e
pattern_refused p types own τ s Clash n = λ r u a. n (λ x. bool) tt r (put_each r τ) u (λ x o. absurd o) a
pattern_refused p types own τ s Memory n = tt

pub from_none : (p : Pattern) (types : List ℕ) (own : ℕ) (s s1 : Solving) (vs0 vs1 vs : List Variable) → vs0 ≡ [] → vs ≡ vs1 → ((σ : Identifier → Monotype) → HaveTypes σ vs0 → (τ' : Identifier → Monotype) × IsMatched (λ ρ r. Matches ρ p (put r (type_at types own))) (pattern_names p) s vs0 σ s1 vs1 τ') → PatternMatched p types own s s1 vs
from_none p types own s s1 vs0 vs1 vs e f m =
    subst (λ z. PatternMatched p types own s s1 z) (sym f)
    (subst (λ z. (σ : Identifier → Monotype) → HaveTypes σ z → (τ' : Identifier → Monotype) × IsMatched (λ ρ r. Matches ρ p (put r (type_at types own))) (pattern_names p) s z σ s1 vs1 τ') e m)

pub refused_none : (p : Pattern) (types : List ℕ) (own : ℕ) (s : Solving) (vs0 : List Variable) (x : UnifyFault) → vs0 ≡ [] → ((σ : Identifier → Monotype) → HaveTypes σ vs0 → RefusesMatch (λ ρ r. Matches ρ p (put r (type_at types own))) s vs0 σ x) → (σ : Identifier → Monotype) → HaveTypes σ [] → RefusesMatch (λ ρ r. Matches ρ p (put r (type_at types own))) s [] σ x
refused_none p types own s vs0 x e m = subst (λ z. (σ : Identifier → Monotype) → HaveTypes σ z → RefusesMatch (λ ρ r. Matches ρ p (put r (type_at types own))) s z σ x) e m

-- what the variables are known to be
pub pattern_grows : (p : Pattern) (types : List ℕ) (own : ℕ) (s s1 : Solving) (vs : List Variable) → PatternMatched p types own s s1 vs → s.given ≤ s1.given
pattern_grows p types own s s1 vs m = let k = m (λ x. bool) tt in k.1.grows

pub pattern_given : (p : Pattern) (types : List ℕ) (own : ℕ) (s s1 : Solving) (vs : List Variable) → PatternMatched p types own s s1 vs → AreGiven s1.given vs
pattern_given p types own s s1 vs m = let k = m (λ x. bool) tt in k.1.given

pub pattern_many : (p : Pattern) (types : List ℕ) (own : ℕ) (s s1 : Solving) (xs : List KeptVariable) → PatternMatched p types own s s1 (variables_of xs) → length xs ≡ length (pattern_names p)
pattern_many p types own s s1 xs m =
    let k = m (λ x. bool) tt in
    let a = named_length (variables_of xs) in let b = ap length (k.1.names ∙ append_nothing (pattern_names p)) in let c = stack_length variable_of xs [] in omega arith
  where
    named_length : (vs : List Variable) → length (names_of vs) ≡ length vs
    named_length [] = refl
    named_length (v ∷ vs) = ap suc (named_length vs)

pub types_later : (g h : ℕ) (types : List ℕ) → g ≤ h → AreGivenTypes g types → AreGivenTypes h types
types_later g h types l a j b = let k = a j b in omega arith
