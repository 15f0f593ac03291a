-- Steps of matching, one after the other.
use Rattle.std.proofs.Common.{◌≡◌, ℕ, ◌+◌, ◌<◌, ◌≤◌, ⊎_elim, inl, inr, List, [], ◌∷◌, ◌++◌, Result, Ok, Err, IsErrAnd, refl, sym, ap, ◌∙◌, subst, arith, append_assoc}
use Rattle.hm_types.specs.Types.{put}
use Rattle.hm_types.specs.Monotypes.{Mono}
use Rattle.hm_typing.specs.Names.{Identifier, IsOneOf}
use Rattle.hm_typing.specs.Schemes.{Monotype}
use Rattle.hm_typing.specs.Problems.{IsBelow, FactsBelow}
use Rattle.hm_typing.proofs.Solve.{put-below}
use Rattle.hm_typing.proofs.Local.{IsOneOf-left, IsOneOf-right}
use Rattle.hm_typing.proofs.Names.{name_discrete}
use Rattle.hm_unify.specs.Solving.{Solving}
use Rattle.hm_unify.specs.WellFormed.{IsWellFormed, EquationsAreWellFormed}
use Rattle.hm_unify.specs.declared.faults.UnifyFault.{UnifyFault}
use Rattle.hm_unify.specs.declared.faults.UnifyFault.TheVariants.{Clash, Memory}
use Rattle.hm_unify.proofs.WellFormed.{well_formed_more}
use Rattle.hm_infer_context.specs.Problems.{monotype, problem, bound, Answers, Refuses, given_more, new_at}
use Rattle.hm_infer_context.specs.Patterns.{Variable, names_of, HaveTypes, AreGiven, IsTypeOf, put_each, Continues, IsMatched, RefusesMatch, Matched}
use Rattle.hm_infer_context.proofs.Leaves.{monotype-below}
use Rattle.hm_infer_context.proofs.States.{guess, guess_below, guess_new, guess_unifies, more_rest, Makes, problem_below}
use Rattle.hm_infer_context.proofs.Outcomes.{SolvedBy, solved_nothing}

-- Variables

pub given_later : (g h : ℕ) (vs : List Variable) → g ≤ h → AreGiven g vs → AreGiven h vs
given_later g h [] l a = tt
given_later g h (v ∷ vs) l a = (well_formed_more g h v.ty l a.0, given_later g h vs l a.1)

pub type_given : (g : ℕ) (x : Identifier) (t : Mono) (vs : List Variable) → AreGiven g vs → IsTypeOf x t vs → IsWellFormed g t
type_given g x t [] a h = absurd h
type_given g x t (v ∷ vs) a (inl h) = subst (IsWellFormed g) h.1 a.0
type_given g x t (v ∷ vs) a (inr h) = type_given g x t vs a.1 h

pub type_typed : (τ : Identifier → Monotype) (x : Identifier) (t : Mono) (vs : List Variable) → HaveTypes τ vs → IsTypeOf x t vs → monotype t ≡ τ x
type_typed τ x t [] a h = absurd h
type_typed τ x t (v ∷ vs) a (inl h) = ap monotype (sym h.1) ∙ (a.0 ∙ ap τ h.0)
type_typed τ x t (v ∷ vs) a (inr h) = type_typed τ x t vs a.1 h

pub type_named : (x : Identifier) (t : Mono) (vs : List Variable) → IsTypeOf x t vs → IsOneOf x (names_of vs)
type_named x t [] h = h
type_named x t (v ∷ vs) (inl h) = inl (sym h.0)
type_named x t (v ∷ vs) (inr h) = inr (type_named x t vs h)

typed_below : (g : ℕ) (τ : Identifier → Monotype) (vs : List Variable) → HaveTypes τ vs → AreGiven g vs → (x : Identifier) → IsOneOf x (names_of vs) → IsBelow (g + g) (τ x)
typed_below g τ [] h a x o = absurd o
typed_below g τ (v ∷ vs) h a x (inl e) = subst (IsBelow (g + g)) (h.0 ∙ ap τ (sym e)) (monotype-below g v.ty a.0)
typed_below g τ (v ∷ vs) h a x (inr o) = typed_below g τ vs h.1 a.1 x o

-- what continues r continues what agrees with it
pub continues_on : (s : Solving) (vs : List Variable) (τ ρ : Identifier → Monotype) (r q : ℕ → Monotype) → HaveTypes τ vs → AreGiven s.given vs → ((x : ℕ) → x < bound s → q x ≡ r x) → Continues (names_of vs) r τ ρ → Continues (names_of vs) q τ ρ
continues_on s vs τ ρ r q h a f c x o = sym (put-below (bound s) r q (τ x) f (typed_below s.given τ vs h a x o)) ∙ c x o

-- Questions without variables

pub matched_plain : {P : (ℕ → Monotype) → Type 0} (s s' : Solving) (vs : List Variable) (τ : Identifier → Monotype) → s.given ≤ s'.given → HaveTypes τ vs → AreGiven s.given vs → SolvedBy P s s' → IsMatched (λ ρ r. P r) [] s vs τ s' vs τ
matched_plain s s' vs τ l h a m = record {
  grows = l;
  below = m.below;
  names = refl;
  typed = h;
  given = given_later s.given s'.given vs l a;
  stay = λ x o. refl;
  sound = λ r u. m.sound r u;
  complete = λ r ρ u c p. (let k = m.complete r u p in (k.0, k.1, k.2, continues_on s vs τ ρ r k.0 h a k.1 c));
}

pub matched_nothing : (s : Solving) (vs : List Variable) (τ : Identifier → Monotype) → FactsBelow (bound s) (problem s) → HaveTypes τ vs → AreGiven s.given vs → IsMatched (λ ρ r. Unit {0}) [] s vs τ s vs τ
matched_nothing s vs τ b h a = matched_plain {P = λ r. Unit {0}} s s vs τ (omega arith) h a (solved_nothing s b)

-- In other words

pub matched_same : (P Q : (Identifier → Monotype) → (ℕ → Monotype) → Type 0) (xs : List Identifier) (s : Solving) (vs : List Variable) (τ : Identifier → Monotype) (s' : Solving) (vs' : List Variable) (τ' : Identifier → Monotype) →
    ((ρ : Identifier → Monotype) (r : ℕ → Monotype) → P ρ r → Q ρ r) → ((ρ : Identifier → Monotype) (r : ℕ → Monotype) → Q ρ r → P ρ r) → IsMatched P xs s vs τ s' vs' τ' → IsMatched Q xs s vs τ s' vs' τ'
matched_same P Q xs s vs τ s' vs' τ' f g m = record {
  grows = m.grows;
  below = m.below;
  names = m.names;
  typed = m.typed;
  given = m.given;
  stay = m.stay;
  sound = λ r u. (let k = m.sound r u in (k.0, f (put_each r τ') r k.1));
  complete = λ r ρ u c p. m.complete r ρ u c (g ρ r p);
}

-- One after the other

pub matched_then : (P Q : (Identifier → Monotype) → (ℕ → Monotype) → Type 0) (xs ys : List Identifier) (s : Solving) (vs : List Variable) (τ : Identifier → Monotype) (s1 : Solving) (vs1 : List Variable) (τ1 : Identifier → Monotype) (s2 : Solving) (vs2 : List Variable) (τ2 : Identifier → Monotype) →
    ((r q : ℕ → Monotype) (ρ : Identifier → Monotype) → ((x : ℕ) → x < bound s → q x ≡ r x) → Q ρ r → Q ρ q) →
    ((r : ℕ → Monotype) (ρ σ : Identifier → Monotype) → ((x : Identifier) → IsOneOf x xs → ρ x ≡ σ x) → P ρ r → P σ r) →
    IsMatched P xs s vs τ s1 vs1 τ1 → IsMatched Q ys s1 vs1 τ1 s2 vs2 τ2 → IsMatched (λ ρ r. P ρ r × Q ρ r) (ys ++ xs) s vs τ s2 vs2 τ2
matched_then P Q xs ys s vs τ s1 vs1 τ1 s2 vs2 τ2 local named m n = record {
  grows = (let a = m.grows in let b = n.grows in omega arith);
  below = n.below;
  names = n.names ∙ (ap (λ zs. ys ++ zs) m.names ∙ sym (append_assoc ys xs (names_of vs)));
  typed = n.typed;
  given = n.given;
  stay = λ x o. n.stay x (subst (IsOneOf x) (sym m.names) (IsOneOf-right x xs (names_of vs) o)) ∙ m.stay x o;
  sound = λ r u.
      let b = n.sound r u in
      let a = m.sound r b.0 in
      (a.0, (named r (put_each r τ1) (put_each r τ2) (λ x o. ap (put r) (sym (n.stay x (subst (IsOneOf x) (sym m.names) (IsOneOf-left x xs (names_of vs) o))))) a.1, b.1));
  complete = λ r ρ u c p.
      let a = m.complete r ρ u c p.0 in
      let b = n.complete a.0 ρ a.2 a.3 (local r a.0 ρ a.1 p.1) in
      (b.0, (λ x h. b.1 x (let g = m.grows in omega arith) ∙ a.1 x h), b.2, b.3);
}

pub refused_then : (P Q : (Identifier → Monotype) → (ℕ → Monotype) → Type 0) (xs : List Identifier) (s : Solving) (vs : List Variable) (τ : Identifier → Monotype) (s1 : Solving) (vs1 : List Variable) (τ1 : Identifier → Monotype) (e : UnifyFault) →
    ((r q : ℕ → Monotype) (ρ : Identifier → Monotype) → ((x : ℕ) → x < bound s → q x ≡ r x) → Q ρ r → Q ρ q) →
    IsMatched P xs s vs τ s1 vs1 τ1 → RefusesMatch Q s1 vs1 τ1 e → RefusesMatch (λ ρ r. P ρ r × Q ρ r) s vs τ e
refused_then P Q xs s vs τ s1 vs1 τ1 Clash local m n = λ r ρ u c p. (let a = m.complete r ρ u c p.0 in n a.0 ρ a.2 a.3 (local r a.0 ρ a.1 p.1))
refused_then P Q xs s vs τ s1 vs1 τ1 Memory local m n = tt

pub refused_same : (P Q : (Identifier → Monotype) → (ℕ → Monotype) → Type 0) (s : Solving) (vs : List Variable) (τ : Identifier → Monotype) (e : UnifyFault) →
    ((ρ : Identifier → Monotype) (r : ℕ → Monotype) → Q ρ r → P ρ r) → RefusesMatch P s vs τ e → RefusesMatch Q s vs τ e
refused_same P Q s vs τ Clash g n = λ r ρ u c p. n r ρ u c (g ρ r p)
refused_same P Q s vs τ Memory g n = tt

pub refused_plain : (P : (ℕ → Monotype) → Type 0) (s : Solving) (vs : List Variable) (τ : Identifier → Monotype) (e : UnifyFault) → Refuses P s e → RefusesMatch (λ ρ r. P r) s vs τ e
refused_plain P s vs τ Clash n = λ r ρ u c p. n r u p
refused_plain P s vs τ Memory n = tt

-- A variable that is new

abbrev pub chosen_type : {P : Type 0} → Dec P → Monotype → Monotype → Monotype
chosen_type (yes p) t u = t
chosen_type (no n) t u = u

abbrev pub with_type : Identifier → Monotype → (Identifier → Monotype) → Identifier → Monotype
with_type x t τ y = chosen_type (name_discrete y x) t (τ y)

with_here : (x : Identifier) (t : Monotype) (τ : Identifier → Monotype) → with_type x t τ x ≡ t
with_here x t τ = at (name_discrete x x)
  where
    at : (d : Dec (x ≡ x)) → chosen_type d t (τ x) ≡ t
    at (yes e) = refl
    at (no n) = absurd (n refl)

with_other : (x : Identifier) (t : Monotype) (τ : Identifier → Monotype) (y : Identifier) → (y ≡ x → ⊥) → with_type x t τ y ≡ τ y
with_other x t τ y m = at (name_discrete y x)
  where
    at : (d : Dec (y ≡ x)) → chosen_type d t (τ y) ≡ τ y
    at (yes e) = absurd (m e)
    at (no n) = refl

other_types : (x : Identifier) (t : Monotype) (τ : Identifier → Monotype) (vs : List Variable) → (IsOneOf x (names_of vs) → ⊥) → HaveTypes τ vs → HaveTypes (with_type x t τ) vs
other_types x t τ [] n h = tt
other_types x t τ (v ∷ vs) n h = (h.0 ∙ sym (with_other x t τ v.name (λ e. n (inl (sym e)))), other_types x t τ vs (λ o. n (inr o)) h.1)

abbrev pub added : Identifier → Mono → List Variable → List Variable
added x t vs = record { name = x; ty = t } ∷ vs

abbrev pub IsOf : Mono → Identifier → (Identifier → Monotype) → (ℕ → Monotype) → Type 0
IsOf t x ρ r = put r (monotype t) ≡ ρ x

pub matched_new : (s : Solving) (vs : List Variable) (τ : Identifier → Monotype) (x : Identifier) (t : Mono) → FactsBelow (bound s) (problem s) → (IsOneOf x (names_of vs) → ⊥) → IsWellFormed s.given t → HaveTypes τ vs → AreGiven s.given vs →
    IsMatched (IsOf t x) (x ∷ []) s vs τ s (added x t vs) (with_type x (monotype t) τ)
matched_new s vs τ x t b n w h a = record {
  grows = omega arith;
  below = b;
  names = refl;
  typed = (sym (with_here x (monotype t) τ), other_types x (monotype t) τ vs n h);
  given = (w, a);
  stay = λ y o. with_other x (monotype t) τ y (λ e. n (subst (λ z. IsOneOf z (names_of vs)) e o));
  sound = λ r u. (u, ap (put r) (sym (with_here x (monotype t) τ)));
  complete = λ r ρ u c p. (r, (λ y k. refl), u, λ y o. ⊎_elim (λ e. subst (λ z. put r (with_type x (monotype t) τ z) ≡ ρ z) (sym e) (ap (put r) (with_here x (monotype t) τ) ∙ p)) (λ k. ap (put r) (with_other x (monotype t) τ y (λ e. n (subst (λ z. IsOneOf z (names_of vs)) e k))) ∙ c y k) o);
}

-- A variable that is there

pub matched_again : (s s' : Solving) (vs : List Variable) (τ : Identifier → Monotype) (x : Identifier) (t u : Mono) → s.given ≤ s'.given → IsTypeOf x u vs → HaveTypes τ vs → AreGiven s.given vs → SolvedBy (Makes t u) s s' →
    IsMatched (IsOf t x) (x ∷ []) s vs τ s' (added x u vs) τ
matched_again s s' vs τ x t u l i h a m = record {
  grows = l;
  below = m.below;
  names = refl;
  typed = (type_typed τ x u vs h i, h);
  given = (well_formed_more s.given s'.given u l (type_given s.given x u vs a i), given_later s.given s'.given vs l a);
  stay = λ y o. refl;
  sound = λ r v. (let k = m.sound r v in (k.0, k.1 ∙ ap (put r) (type_typed τ x u vs h i)));
  complete = λ r ρ v c p.
      let k = m.complete r v (p ∙ (sym (c x (type_named x u vs i)) ∙ ap (put r) (sym (type_typed τ x u vs h i)))) in
      let d = continues_on s vs τ ρ r k.0 h a k.1 c in
      (k.0, k.1, k.2, λ y o. ⊎_elim (λ e. d y (subst (λ z. IsOneOf z (names_of vs)) (sym e) (type_named x u vs i))) (λ j. d y j) o);
}

pub refused_again : (s : Solving) (vs : List Variable) (τ : Identifier → Monotype) (x : Identifier) (t u : Mono) (e : UnifyFault) → IsTypeOf x u vs → HaveTypes τ vs → Refuses (Makes t u) s e → RefusesMatch (IsOf t x) s vs τ e
refused_again s vs τ x t u Clash i h n = λ r ρ v c p. n r v (p ∙ (sym (c x (type_named x u vs i)) ∙ ap (put r) (sym (type_typed τ x u vs h i))))
refused_again s vs τ x t u Memory i h n = tt

-- New variables of the solver

abbrev pub IsLocalMatch : ℕ → ℕ → ((Identifier → Monotype) → (ℕ → Monotype) → (ℕ → Monotype) → Type 0) → Type 0
IsLocalMatch n k P = (r q us ws : ℕ → Monotype) (ρ : Identifier → Monotype) → ((x : ℕ) → x < n → q x ≡ r x) → ((i : ℕ) → i < k → ws i ≡ us i) → P ρ r us → P ρ q ws

pub matched_guess : (P : (Identifier → Monotype) → (ℕ → Monotype) → (ℕ → Monotype) → Type 0) (xs : List Identifier) (s : Solving) (k : ℕ) (vs : List Variable) (τ : Identifier → Monotype) (s' : Solving) (vs' : List Variable) (τ' : Identifier → Monotype) →
    FactsBelow (bound s) (problem s) → HaveTypes τ vs → AreGiven s.given vs → IsLocalMatch (bound s) k P → IsMatched (λ ρ r. P ρ r (new_at s.given r)) xs (given_more s k) vs τ s' vs' τ' → IsMatched (λ ρ r. (us : ℕ → Monotype) × P ρ r us) xs s vs τ s' vs' τ'
matched_guess P xs s k vs τ s' vs' τ' b h a l m = record {
  grows = (let g = m.grows in omega arith);
  below = m.below;
  names = m.names;
  typed = m.typed;
  given = m.given;
  stay = m.stay;
  sound = λ r u. (let j = m.sound r u in (more_rest s k r j.0, (new_at s.given r, j.1)));
  complete = λ r ρ u c p.
      let q = guess s.given r p.0 in
      let j = m.complete q ρ (guess_unifies s k r p.0 b u) (continues_on s vs τ ρ r q h a (λ x d. guess_below s.given r p.0 x d) c) (l r q p.0 (new_at s.given q) ρ (λ x d. guess_below s.given r p.0 x d) (λ i d. guess_new s.given r p.0 i) p.1) in
      (j.0, (λ x d. j.1 x (omega arith) ∙ guess_below s.given r p.0 x d), j.2, j.3);
}

pub refused_guess : (P : (Identifier → Monotype) → (ℕ → Monotype) → (ℕ → Monotype) → Type 0) (s : Solving) (k : ℕ) (vs : List Variable) (τ : Identifier → Monotype) (e : UnifyFault) →
    FactsBelow (bound s) (problem s) → HaveTypes τ vs → AreGiven s.given vs → IsLocalMatch (bound s) k P → RefusesMatch (λ ρ r. P ρ r (new_at s.given r)) (given_more s k) vs τ e → RefusesMatch (λ ρ r. (us : ℕ → Monotype) × P ρ r us) s vs τ e
refused_guess P s k vs τ Clash b h a l n = λ r ρ u c p.
    let q = guess s.given r p.0 in
    n q ρ (guess_unifies s k r p.0 b u) (continues_on s vs τ ρ r q h a (λ x d. guess_below s.given r p.0 x d) c) (l r q p.0 (new_at s.given q) ρ (λ x d. guess_below s.given r p.0 x d) (λ i d. guess_new s.given r p.0 i) p.1)
refused_guess P s k vs τ Memory b h a l n = tt

-- In the states of the program

added_is : (vs vs' : List Variable) (x key : Identifier) (t u : Mono) → vs' ≡ added key u vs → key ≡ x → u ≡ t → vs' ≡ added x t vs
added_is vs vs' x key t u e k f = e ∙ (ap (λ y. added y u vs) k ∙ ap (λ v. added x v vs) f)

pub new_answers : {X : Type 0} (s : Solving) (vs vs' : List Variable) (x key : Identifier) (t u : Mono) (z : X) → vs' ≡ added key u vs → key ≡ x → u ≡ t →
    EquationsAreWellFormed s.given s.equations → (IsOneOf x (names_of vs) → ⊥) → IsWellFormed s.given t → AreGiven s.given vs → Matched (IsOf t x) (x ∷ []) s vs s vs' (Ok z)
new_answers s vs vs' x key t u z e k f b n w a τ h =
    (with_type x (monotype t) τ, subst (λ ws. IsMatched (IsOf t x) (x ∷ []) s vs τ s ws (with_type x (monotype t) τ)) (sym (added_is vs vs' x key t u e k f)) (matched_new s vs τ x t (problem_below s b) n w h a))

pub again_answers : {X Y : Type 0} (s s' : Solving) (vs vs' : List Variable) (x key : Identifier) (t u v : Mono) (z : X) (y : Y) → vs' ≡ added key v vs → key ≡ x → v ≡ u →
    s'.given ≡ s.given → IsTypeOf x u vs → AreGiven s.given vs → Answers (Makes t v) s s' (Ok y) → Matched (IsOf t x) (x ∷ []) s vs s' vs' (Ok z)
again_answers s s' vs vs' x key t u v z y e k f g i a m τ h =
    (τ, subst (λ ws. IsMatched (IsOf t x) (x ∷ []) s vs τ s' ws τ) (sym (added_is vs vs' x key u v e k f)) (matched_again s s' vs τ x t u (omega (arith, g)) i h a (subst (λ j. SolvedBy (Makes t j) s s') f m)))

pub again_refused : (s : Solving) (vs : List Variable) (x : Identifier) (t u v : Mono) (e : UnifyFault) → v ≡ u → IsTypeOf x u vs → Refuses (Makes t v) s e → (τ : Identifier → Monotype) → HaveTypes τ vs → RefusesMatch (IsOf t x) s vs τ e
again_refused s vs x t u v e f i n τ h = refused_again s vs τ x t u e i h (subst (λ j. Refuses (Makes t j) s e) f n)

-- a refusal that `?` passes on
pub match_passed : {X : Type 0} (Q : (Identifier → Monotype) → (ℕ → Monotype) → Type 0) (xs : List Identifier) (s : Solving) (vs : List Variable) (s' : Solving) (vs' : List Variable) (outcome : Result X UnifyFault) (e : UnifyFault) → IsErrAnd outcome (λ y. y ≡ e) →
    ((τ : Identifier → Monotype) → HaveTypes τ vs → RefusesMatch Q s vs τ e) → Matched Q xs s vs s' vs' outcome
match_passed Q xs s vs s' vs' (Ok x) e i n = absurd i
match_passed Q xs s vs s' vs' (Err k) e i n = λ τ h. subst (RefusesMatch Q s vs τ) (sym i) (n τ h)
