-- Worked sources have the typings that they should, and no others.
use Rattle.hm_types.specs.declared.Head.TheVariants as head
use Rattle.std.proofs.Common.{◌≡◌, ℕ, zero, suc, List, [], ◌∷◌, Bool, true, false, ◌&&◌, ◌||◌, inl, inr, ◌⊎◌, ⊎_elim, refl, sym, ap, ap₂, ◌∙◌, subst, subst₂, ◌+◌, arith, true≢false}
use Rattle.hm_types.specs.Types.{Args, Var, App, done, more, In, put}
use Rattle.hm_typing.specs.Names.{Identifier, local, global, binding, IsOneOf, IsDistinct}
use Rattle.hm_typing.specs.Schemes.{Monotype, Scheme, Free, Quantified, arrow, instance, monomorphic, closed, IsInstance}
use Rattle.hm_typing.specs.Assumptions.{Assumptions, empty, bind, bind_all, Has}
use Rattle.hm_typing.specs.Syntax.{Expression, Variable, Literal, Apply, Let, Integer, Character, Clauses, Bindings, no_binding, unsigned, signed, names}
use Rattle.hm_typing.specs.Units.{IsUnsigned, Reaches, directly, SameUnit, AreUnits}
use Rattle.hm_typing.specs.Typing.{HasType, HasClauses}
use Rattle.hm_typing.specs.SecondForm.{Derives, DeriveClauses, DerivedSchemes, seen_at}
use Rattle.hm_typing.specs.Sources.{f, g, x, y, const, as_type_of, int, char, pair_type, identity, anything, maps, pair, used_twice, with_const, with_as_type_of, with_narrow, polymorphic_let, polymorphic_lambda, self_application, through_signature, mutual_recursion, partly_polymorphic, narrow_signature, too_general_signature, escaping_signature, IsTypedWith, HasNoType, HasNoSchemes, HasNoTypesAsOneGroup, partly_type, misuse, same_type, first_of_two}
use Rattle.hm_typing.proofs.Names.{name_discrete}
use Rattle.hm_typing.proofs.SchemeLaws.{instance_mono}
use Rattle.hm_typing.proofs.Bind.{instance_closed}
use Rattle.hm_typing.proofs.Bridge.{HasType-Derives, own_unsigned, own_signed, not_true}
use Rattle.hm_typing.proofs.Groups.{cond_true, cond_false}
use Rattle.hm_typing.proofs.Principal.{Has-DerivedUnits}

-- Names

abbrev pub first_code : Identifier → ℕ
first_code (local []) = 0
first_code (local (c ∷ cs)) = c
first_code (global a) = 0
first_code (binding m n) = n

pub differ : (v w : Identifier) → ¬ (first_code v ≡ first_code w) → ¬ (v ≡ w)
differ v w n e = n (ap first_code e)

pub f≢g : ¬ (f ≡ g)
f≢g = differ f g (λ e. omega arith)

pub g≢f : ¬ (g ≡ f)
g≢f e = f≢g (sym e)

pub x≢g : ¬ (x ≡ g)
x≢g = differ x g (λ e. omega arith)

pub x≢y : ¬ (x ≡ y)
x≢y = differ x y (λ e. omega arith)

g≢x : ¬ (g ≡ x)
g≢x e = x≢g (sym e)

pub f≢x : ¬ (f ≡ x)
f≢x = differ f x (λ e. omega arith)

f≢y : ¬ (f ≡ y)
f≢y = differ f y (λ e. omega arith)

const≢x : ¬ (const ≡ x)
const≢x = differ const x (λ e. omega arith)

const≢f : ¬ (const ≡ f)
const≢f = differ const f (λ e. omega arith)

const≢g : ¬ (const ≡ g)
const≢g = differ const g (λ e. omega arith)

as≢x : ¬ (as_type_of ≡ x)
as≢x = differ as_type_of x (λ e. omega arith)

as≢y : ¬ (as_type_of ≡ y)
as≢y = differ as_type_of y (λ e. omega arith)

as≢f : ¬ (as_type_of ≡ f)
as≢f = differ as_type_of f (λ e. omega arith)

as≢g : ¬ (as_type_of ≡ g)
as≢g = differ as_type_of g (λ e. omega arith)

-- What a name has

pub its_type : (t : Monotype) → IsInstance t (monomorphic t)
its_type t = (Var, sym (instance_mono t Var))

pub at_type : (s : Monotype) (us : ℕ → Monotype) → IsInstance (put us s) (closed s)
at_type s us = (us, sym (instance_closed s us))

pub found : {v : Identifier} {P X : Type 0} → ((v ≡ v) × P) ⊎ (¬ (v ≡ v) × X) → P
found (inl p) = p.1
found (inr p) = absurd (p.0 refl)

pub behind : {v w : Identifier} {P X : Type 0} → ¬ (v ≡ w) → ((v ≡ w) × P) ⊎ (¬ (v ≡ w) × X) → X
behind n (inl p) = absurd (n p.0)
behind n (inr p) = p.1

pub only : (t u : Monotype) → IsInstance u (monomorphic t) → u ≡ t
only t u i = i.1 ∙ instance_mono t i.0

pub only_at : (s u : Monotype) → IsInstance u (closed s) → (us : ℕ → Monotype) × (u ≡ put us s)
only_at s u i = (i.0, i.1 ∙ instance_closed s i.0)

-- Units

is_name : Identifier → Identifier → Bool
is_name v w = elim (name_discrete w v) [ yes e ↦ true | no n ↦ false ]

is_name-true : (v w : Identifier) → is_name v w ≡ true → w ≡ v
unfolding is_name
is_name-true v w e = go (name_discrete w v) e
  where
    go : (d : Dec (w ≡ v)) → elim d [ yes e ↦ true | no n ↦ false ] ≡ true → w ≡ v
    go (yes p) k = p
    go (no n) k = absurd (true≢false (sym k))

true-is_name : (v w : Identifier) → w ≡ v → is_name v w ≡ true
unfolding is_name
true-is_name v w e = go (name_discrete w v)
  where
    go : (d : Dec (w ≡ v)) → elim d [ yes e ↦ true | no n ↦ false ] ≡ true
    go (yes p) = refl
    go (no n) = absurd (n e)

both_true : (a b : Bool) → (a && b) ≡ true → (a ≡ true) × (b ≡ true)
both_true true true e = (refl, refl)
both_true true false e = absurd (true≢false (sym e))
both_true false b e = absurd (true≢false (sym e))

-- the units where v is the one unsigned name
abbrev one : Identifier → Identifier → Identifier → Bool
one v a b = is_name v a && is_name v b

units_one : (ds : Bindings) (v : Identifier) → IsDistinct (names ds) → ((a : Identifier) → IsUnsigned a ds → a ≡ v) → IsUnsigned v ds → AreUnits ds (one v)
units_one ds v d f u = (
  d,
  λ a b. (
    (λ e. let p = both_true _ _ e in
        let pa = is_name-true v a p.0 in
        let pb = is_name-true v b p.1 in
        (subst (λ z. IsUnsigned z ds) (sym pa) u, subst (λ z. IsUnsigned z ds) (sym pb) u, inl (pa ∙ sym pb))),
    (λ h. ap₂ ◌&&◌ (true-is_name v a (f a h.0)) (true-is_name v b (f b h.1))),
  ),
)

no_units : AreUnits no_binding (λ a b. false)
no_units = (tt, λ a b. ((λ e. absurd (true≢false (sym e))), (λ h. absurd h.0)))

-- Lists of one binding

pub nothing_listed : (A : Assumptions) (B : Identifier → Scheme) → DerivedSchemes A no_binding B
nothing_listed A B = record { own = λ a b. false; units = no_units; bindings = tt }

-- v alone, unsigned
pub alone : (v : Identifier) (cs : Clauses) (A : Assumptions) (B : Identifier → Scheme) →
    ((us : ℕ → Monotype) → DeriveClauses (bind v (monomorphic (instance (B v) us)) A) cs (instance (B v) us)) → DerivedSchemes A (unsigned v cs no_binding) B
alone v cs A B d =
    let units = units_one (unsigned v cs no_binding) v ((λ o. o), tt) (λ a u. ⊎_elim (λ e. e) (λ o. absurd o) u) (inl refl) in
    record {
      own = one v;
      units = units;
      bindings = ((λ us. subst (λ σ. DeriveClauses (bind v σ A) cs (instance (B v) us)) (sym (cond_true (one v v v) _ _ (own_unsigned _ (one v) units v (inl refl)))) (d us)), tt);
    }

-- v alone, signed
pub signed_alone : (v : Identifier) (s : Monotype) (cs : Clauses) (A : Assumptions) →
    ((us : ℕ → Monotype) → DeriveClauses (bind v (closed s) A) cs (put us s)) → DerivedSchemes A (signed v s cs no_binding) (λ w. closed s)
signed_alone v s cs A d = record {
  own = λ a b. false;
  units = (((λ o. o), tt), λ a b. ((λ e. absurd (true≢false (sym e))), (λ h. absurd h.0)));
  bindings = ((refl, λ us. subst (DeriveClauses (bind v (closed s) A) cs) (sym (instance_closed s us)) (d us)), tt);
}

-- .. v = e
maps_derived : (v : Identifier) (e : Expression) (A : Assumptions) (t u : Monotype) → Derives (bind v (monomorphic t) A) e u → DeriveClauses A (maps v e) (arrow t u)
maps_derived v e A t u d = (
  record {
    variables = λ w. t;
    parameters = λ j. t;
    result = u;
    function = refl;
    matched = (refl, tt);
    body = record { schemes = λ w. monomorphic t; listed = nothing_listed (bind v (monomorphic t) A) (λ w. monomorphic t); body = (d, tt) };
  },
  tt,
)

pub maps_typed : (v : Identifier) (e : Expression) (A : Assumptions) (w : Monotype) → HasClauses A (maps v e) w → (t : Monotype) × (u : Monotype) × (w ≡ arrow t u) × HasType (bind v (monomorphic t) A) e u
maps_typed v e A w d = (d.0.variables v, d.0.result, d.0.function ∙ ap (λ z. arrow z d.0.result) d.0.matched.0, d.0.body.body.0)

abbrev pub always : Monotype → ℕ → Monotype
always t i = t

abbrev pub two : Monotype → Monotype → ℕ → Monotype
two t u zero = t
two t u (suc i) = u

pub pair_derived : (A : Assumptions) (a b : Expression) (t u : Monotype) → Derives A a t → Derives A b u → Derives A (pair a b) (pair_type t u)
pair_derived A a b t u p q = (two t u, (refl, (p, (q, tt))))

-- (h 1, h 'c') where h has what it needs
twice_derived : (A : Assumptions) (h : Identifier) (t u : Monotype) → Has A h (arrow int t) → Has A h (arrow char u) → Derives A (used_twice h) (pair_type t u)
twice_derived A h t u p q = pair_derived A (Apply (Variable h) (Literal Integer)) (Apply (Variable h) (Literal Character)) t u (int, (p, refl)) (char, (q, refl))

-- Typed ones

-- let { g x = x } in (g 1, g 'c')
pub polymorphic_let_typed : HasType empty polymorphic_let (pair_type int char)
polymorphic_let_typed = HasType-Derives polymorphic_let empty empty _ (λ v t h. h) (record {
  schemes = λ v. closed identity;
  listed = alone g (maps x (Variable x)) empty (λ v. closed identity) (λ us. maps_derived x (Variable x) (bind g (monomorphic (instance (closed identity) us)) empty) (us 0) (us 0) (inl (refl, its_type (us 0))));
  body = twice_derived (bind g (closed identity) empty) g int char (inl (refl, at_type identity (always int))) (inl (refl, at_type identity (always char)));
})

-- from the second form
pub typed_with : (A : Assumptions) (ds : Bindings) (B : Identifier → Scheme) (v : Identifier) → IsOneOf v (names ds) → DerivedSchemes A ds B → IsTypedWith A ds v (B v)
typed_with A ds B v o d = let k = Has-DerivedUnits ds A B d in (k.0, k.1, k.2 v o)

-- g :: Int -> Int ; g x = x
pub narrow_signature_typed : IsTypedWith empty narrow_signature g (closed (arrow int int))
narrow_signature_typed = typed_with empty narrow_signature (λ v. closed (arrow int int)) g (inl refl)
    (signed_alone g (arrow int int) (maps x (Variable x)) empty (λ us. maps_derived x (Variable x) (bind g (closed (arrow int int)) empty) int int (inl (refl, its_type int))))

-- f x = g x ; g :: a -> a ; g x = const x (f 1, f 'c')
through_units : AreUnits through_signature (one f)
through_units = units_one through_signature f ((λ o. ⊎_elim f≢g (λ k. k) o), ((λ o. o), tt)) (λ a u. ⊎_elim (λ e. e) (λ k. absurd k) u) (inl refl)

own_of_signed : (v : Identifier) → one f v g ≡ false
own_of_signed v = not_true (one f v g) (λ e. g≢f (is_name-true f g (both_true (is_name f v) (is_name f g) e).1))

seen_other : (v w : Identifier) → one f v w ≡ false → (us : ℕ → Monotype) (t : Monotype) → IsInstance (arrow t t) (seen_at (one f) (λ z. closed identity) us v w)
seen_other v w e us t = subst (IsInstance (arrow t t)) (sym (cond_false (one f v w) _ _ e)) (always t, sym (instance_closed identity (always t)))

through_derived : DerivedSchemes with_const through_signature (λ v. closed identity)
through_derived = record {
  own = one f;
  units = through_units;
  bindings = (
    (λ us. maps_derived x (Apply (Variable g) (Variable x)) (bind_all (names through_signature) (seen_at (one f) (λ w. closed identity) us f) with_const) (us 0) (us 0)
        (us 0, (inr (g≢x, inr (g≢f, inl (refl, seen_other f g (own_of_signed f) us (us 0)))), inl (refl, its_type (us 0))))),
    (
      (
        refl,
        λ us. maps_derived x (Apply (Apply (Variable const) (Variable x)) (used_twice f)) (bind_all (names through_signature) (seen_at (one f) (λ w. closed identity) us g) with_const) (us 0) (us 0) (
          pair_type int char,
          (
            (us 0, (inr (const≢x, inr (const≢f, inr (const≢g, inl (refl, at_type first_of_two (two (us 0) (pair_type int char)))))), inl (refl, its_type (us 0)))),
            twice_derived (bind x (monomorphic (us 0)) (bind_all (names through_signature) (seen_at (one f) (λ w. closed identity) us g) with_const)) f int char (inr (f≢x, inl (refl, seen_other g f (own_signed through_signature (one f) through_units g f (inl refl)) us int)))
                (inr (f≢x, inl (refl, seen_other g f (own_signed through_signature (one f) through_units g f (inl refl)) us char))),
          ),
        ),
      ),
      tt,
    ),
  );
}

pub through_signature_typed : IsTypedWith with_const through_signature f (closed identity)
through_signature_typed = typed_with with_const through_signature (λ v. closed identity) f (inl refl) through_derived

-- f x = g x ; g y = f y
abbrev either_name : Identifier → Bool
either_name v = is_name f v || is_name g v

abbrev both_names : Identifier → Identifier → Bool
both_names v w = either_name v && either_name w

either_true : (a b : Bool) → (a || b) ≡ true → (a ≡ true) ⊎ (b ≡ true)
either_true true b e = inl refl
either_true false b e = inr e

true_right : (a b : Bool) → b ≡ true → (a || b) ≡ true
true_right true b e = refl
true_right false b e = e

f_g : Reaches mutual_recursion f g
f_g = directly (inl (refl, inl ((λ o. ⊎_elim g≢x (λ k. k) o), ((λ o. o), inl (inl (inl refl))))), inr (inl refl))

g_f : Reaches mutual_recursion g f
g_f = directly (inr (inl (refl, inl ((λ o. ⊎_elim f≢y (λ k. k) o), ((λ o. o), inl (inl (inl refl)))))), inl refl)

f_or_g : (v : Identifier) → either_name v ≡ true → (v ≡ f) ⊎ (v ≡ g)
f_or_g v e = ⊎_elim (λ k. inl (is_name-true f v k)) (λ k. inr (is_name-true g v k)) (either_true _ _ e)

same_pair : (v w : Identifier) → (v ≡ f) ⊎ (v ≡ g) → (w ≡ f) ⊎ (w ≡ g) → SameUnit mutual_recursion v w
same_pair v w (inl p) (inl q) = inl (p ∙ sym q)
same_pair v w (inl p) (inr q) = inr (subst₂ (Reaches mutual_recursion) (sym p) (sym q) f_g, subst₂ (Reaches mutual_recursion) (sym q) (sym p) g_f)
same_pair v w (inr p) (inl q) = inr (subst₂ (Reaches mutual_recursion) (sym p) (sym q) g_f, subst₂ (Reaches mutual_recursion) (sym q) (sym p) f_g)
same_pair v w (inr p) (inr q) = inl (p ∙ sym q)

unsigned_pair : (v : Identifier) → (v ≡ f) ⊎ (v ≡ g) → IsUnsigned v mutual_recursion
unsigned_pair v (inl p) = inl p
unsigned_pair v (inr p) = inr (inl p)

either_pair : (v : Identifier) → IsUnsigned v mutual_recursion → either_name v ≡ true
either_pair v (inl p) = ap (λ b. b || is_name g v) (true-is_name f v p)
either_pair v (inr (inl p)) = true_right (is_name f v) (is_name g v) (true-is_name g v p)
either_pair v (inr (inr p)) = absurd p

pair_units : AreUnits mutual_recursion both_names
pair_units = (
  ((λ o. ⊎_elim f≢g (λ k. k) o), ((λ o. o), tt)),
  λ v w. (
    (λ e. let h = both_true (either_name v) (either_name w) e in
        (unsigned_pair v (f_or_g v h.0), unsigned_pair w (f_or_g w h.1), same_pair v w (f_or_g v h.0) (f_or_g w h.1))),
    (λ h. ap₂ ◌&&◌ (either_pair v h.0) (either_pair w h.1)),
  ),
)

seen_same : (v w : Identifier) → both_names v w ≡ true → (us : ℕ → Monotype) → IsInstance (arrow (us 0) (us 1)) (seen_at both_names (λ z. closed anything) us v w)
seen_same v w e us = subst (IsInstance (arrow (us 0) (us 1))) (sym (cond_true (both_names v w) _ _ e))
    (Var, sym (instance_mono (instance (closed anything) us) Var ∙ instance_closed anything us))

mutual_derived : DerivedSchemes empty mutual_recursion (λ v. closed anything)
mutual_derived = record {
  own = both_names;
  units = pair_units;
  bindings = (
    (λ us. maps_derived x (Apply (Variable g) (Variable x)) (bind_all (names mutual_recursion) (seen_at both_names (λ w. closed anything) us f) empty) (us 0) (us 1)
        (us 0, (inr (g≢x, inr (g≢f, inl (refl, seen_same f g (ap₂ ◌&&◌ (either_pair f (inl refl)) (either_pair g (inr (inl refl)))) us))), inl (refl, its_type (us 0))))),
    (
      (λ us. maps_derived y (Apply (Variable f) (Variable y)) (bind_all (names mutual_recursion) (seen_at both_names (λ w. closed anything) us g) empty) (us 0) (us 1)
          (us 0, (inr (f≢y, inl (refl, seen_same g f (ap₂ ◌&&◌ (either_pair g (inr (inl refl))) (either_pair f (inl refl))) us)), inl (refl, its_type (us 0))))),
      tt,
    ),
  );
}

pub mutual_recursion_typed : IsTypedWith empty mutual_recursion f (closed anything) × IsTypedWith empty mutual_recursion g (closed anything)
mutual_recursion_typed = (typed_with empty mutual_recursion (λ v. closed anything) f (inl refl) mutual_derived, typed_with empty mutual_recursion (λ v. closed anything) g (inr (inl refl)) mutual_derived)

-- f x = let { g y = (x, y) } in (g 1, g 'c')
-- with a for the type of x: g :: b -> (a, b), where b alone is quantified
abbrev inner_scheme : Monotype → Scheme
inner_scheme a = App head.Arrow (more (Var (Quantified 0)) (more (App (head.Tuple 2) (more (monomorphic a) (more (Var (Quantified 0)) done))) done))

inner_instance : (a : Monotype) (vs : ℕ → Monotype) → instance (inner_scheme a) vs ≡ arrow (vs 0) (pair_type a (vs 0))
inner_instance a vs = ap (λ w. arrow (vs 0) (pair_type w (vs 0))) (instance_mono a vs)

partly_let : (a : Monotype) (A : Assumptions) → Derives (bind x (monomorphic a) A) (Let (unsigned g (maps y (pair (Variable x) (Variable y))) no_binding) (used_twice g)) (pair_type (pair_type a int) (pair_type a char))
partly_let a A = record {
  schemes = λ v. inner_scheme a;
  listed = alone g (maps y (pair (Variable x) (Variable y))) (bind x (monomorphic a) A) (λ v. inner_scheme a)
      (λ vs. subst (DeriveClauses (bind g (monomorphic (instance (inner_scheme a) vs)) (bind x (monomorphic a) A)) (maps y (pair (Variable x) (Variable y)))) (sym (inner_instance a vs))
      (maps_derived y (pair (Variable x) (Variable y)) (bind g (monomorphic (instance (inner_scheme a) vs)) (bind x (monomorphic a) A)) (vs 0) (pair_type a (vs 0))
      (pair_derived (bind y (monomorphic (vs 0)) (bind g (monomorphic (instance (inner_scheme a) vs)) (bind x (monomorphic a) A))) (Variable x) (Variable y) a (vs 0) (inr (x≢y, inr (x≢g, inl (refl, its_type a)))) (inl (refl, its_type (vs 0))))));
  body = twice_derived (bind g (inner_scheme a) (bind x (monomorphic a) A)) g (pair_type a int) (pair_type a char) (inl (refl, (always int, sym (inner_instance a (always int))))) (inl (refl, (always char, sym (inner_instance a (always char)))));
}

partly_derived : DerivedSchemes empty partly_polymorphic (λ v. closed partly_type)
partly_derived = alone f (maps x (Let (unsigned g (maps y (pair (Variable x) (Variable y))) no_binding) (used_twice g))) empty (λ v. closed partly_type)
    (λ us. maps_derived x (Let (unsigned g (maps y (pair (Variable x) (Variable y))) no_binding) (used_twice g)) (bind f (monomorphic (instance (closed partly_type) us)) empty) (us 0) (pair_type (pair_type (us 0) int) (pair_type (us 0) char)) (partly_let (us 0) (bind f (monomorphic (instance (closed partly_type) us)) empty)))

pub partly_polymorphic_typed : IsTypedWith empty partly_polymorphic f (closed partly_type)
partly_polymorphic_typed = typed_with empty partly_polymorphic (λ v. closed partly_type) f (inl refl) partly_derived

-- No typings

mutual
  pub size : Monotype → ℕ
  size (Var a) = 0
  size (App h ts) = suc (sizes ts)

  pub sizes : Args ℕ → ℕ
  sizes done = 0
  sizes (more t ts) = size t + sizes ts

pub no_self_arrow : (t u : Monotype) → ¬ (arrow t u ≡ t)
unfolding size
no_self_arrow t u e = let h : suc (size t + (size u + 0)) ≡ size t = ap size e in omega arith

pub not_own_pair : (t : Monotype) → ¬ (t ≡ pair_type t t)
unfolding size
not_own_pair t e = let h : size t ≡ suc (size t + (size t + 0)) = ap size e in omega arith

abbrev pub argument : Monotype → Monotype
argument (Var a) = Var a
argument (App h done) = App h done
argument (App h (more t ts)) = t

abbrev pub result_of : Monotype → Monotype
result_of (Var a) = Var a
result_of (App h done) = App h done
result_of (App h (more t done)) = t
result_of (App h (more t (more u ts))) = u

abbrev number : Monotype → ℕ
number (Var a) = a
number (App h ts) = 0

abbrev pub first_letter : List ℕ → ℕ
first_letter [] = 0
first_letter (c ∷ cs) = c

abbrev pub type_letter : Monotype → ℕ
type_letter (Var a) = 0
type_letter (App (head.Named e) ts) = first_letter e.name
type_letter (App head.Arrow ts) = 0
type_letter (App head.List ts) = 0
type_letter (App head.Unit ts) = 0
type_letter (App (head.Tuple n) ts) = 0

pub int≢char : ¬ (int ≡ char)
int≢char e = let h : type_letter int ≡ type_letter char = ap type_letter e in absurd (omega arith)

-- h isn't used at two types where it has one
not_twice : (A : Assumptions) (h : Identifier) (s t : Monotype) → ((u : Monotype) → Has A h u → u ≡ s) → ¬ (HasType A (used_twice h) t)
not_twice A h s t one_type d =
    let p = d.1.1.0 in
    let q = d.1.1.1.0 in
    int≢char (sym p.1.1 ∙ (ap argument (one_type _ p.1.0 ∙ sym (one_type _ q.1.0)) ∙ q.1.1))

-- \g -> (g 1, g 'c')
pub polymorphic_lambda_untyped : (A : Assumptions) → HasNoType A polymorphic_lambda
polymorphic_lambda_untyped A t d = not_twice (bind g (monomorphic (d.variables g)) A) g (d.variables g) d.result (λ u h. only (d.variables g) u (found h)) d.body

-- f x = x x
pub self_application_untyped : (A : Assumptions) → HasNoSchemes A self_application
self_application_untyped A B l =
    let m = maps_typed x (Apply (Variable x) (Variable x)) _ _ l.bindings.0.1 in
    let p = m.3 in
    no_self_arrow p.0 m.1 (only m.0 (arrow p.0 m.1) (found p.1.0) ∙ sym (only m.0 p.0 (found p.1.1)))

pub zero≢one : (a b : ℕ) → a ≡ 0 → b ≡ 1 → ¬ (a ≡ b)
zero≢one a b p q e = absurd (omega arith)

-- f :: a -> b ; f x = x
pub too_general_signature_untyped : (A : Assumptions) → HasNoSchemes A too_general_signature
too_general_signature_untyped A B l =
    let b = l.bindings.0.1 in
    let m = maps_typed x (Variable x) _ _ b.typed in
    let same : b.variables 0 ≡ b.variables 1 = ap number (ap argument m.2 ∙ (sym (only m.0 m.1 (found m.3)) ∙ sym (ap result_of m.2))) in
    zero≢one _ _ refl refl (b.are_new.distinct 0 1 (inl refl) (inr (inl refl)) same)

-- f x = let { g :: a -> a ; g y = asTypeOf y x } in g
abbrev compared : Expression
compared = Apply (Apply (Variable as_type_of) (Variable y)) (Variable x)

pub escaping_signature_untyped : HasNoSchemes with_as_type_of escaping_signature
escaping_signature_untyped B l =
    let m = maps_typed x (Let (signed g identity (maps y compared) no_binding) (Variable g)) _ _ l.bindings.0.1 in
    let b = m.3.listed.bindings.0.1 in
    let k = maps_typed y compared _ _ b.typed in
    let q = k.3 in
    let used = only_at same_type _ (found (behind as≢f (behind as≢x (behind as≢g (behind as≢y q.1.0.1.0))))) in
    let y_type : q.1.0.0 ≡ k.0 = only k.0 q.1.0.0 (found q.1.0.1.1) in
    let x_type : q.0 ≡ m.0 = only m.0 q.0 (found (behind x≢g (behind x≢y q.1.1))) in
    let same : Var (b.variables 0) ≡ m.0 = ap argument k.2 ∙ (sym y_type ∙ (ap argument used.1 ∙ (sym (ap argument (ap result_of used.1)) ∙ x_type))) in
    b.are_new.new 0 (inl refl) (inl (subst (λ t. In (Free (b.variables 0)) (monomorphic t)) same refl))

-- g 'c' where g :: Int -> Int
pub misuse_untyped : HasNoType with_narrow misuse
misuse_untyped t d = let k = only_at (arrow int int) (arrow d.0 t) (found d.1.0) in int≢char (sym (ap argument k.1) ∙ d.1.1)

-- f x = g x ; g :: a -> a ; g x = const x (f 1, f 'c'), where f and g are of one group
pub one_group_untyped : HasNoTypesAsOneGroup with_const through_signature
one_group_untyped ts d =
    let m = maps_typed x (Apply (Apply (Variable const) (Variable x)) (used_twice f)) _ _ d.1.0 in
    not_twice (bind x (monomorphic m.0) (bind f (monomorphic (ts f)) (bind g (monomorphic (ts g)) with_const))) f (ts f) m.3.0 (λ u h. only (ts f) u (found (behind f≢x h))) m.3.1.1
