-- A list under closed assumptions has a principal typing, or none.
use Rattle.std.proofs.Common.{◌≡◌, ℕ, List, [], ◌∷◌, inl, inr, ◌⊎◌, ⊎_elim, refl, sym, ap, ◌∙◌, subst, ◌+◌, ◌<◌, ◌≤◌, arith}
use Rattle.hm_types.specs.Types.{Var, In, put}
use Rattle.hm_typing.specs.Names.{IsOneOf, IsDistinct, Identifier}
use Rattle.hm_typing.specs.Schemes.{Monotype, Scheme, Free, instance, IsInstance, scheme_put, IsAtMostAsGeneral}
use Rattle.hm_typing.specs.Assumptions.{IsClosed, Assumptions, assumptions_put, Has, FreeIn, AreAtMostAsGeneral, bind_all}
use Rattle.hm_typing.specs.Decisions.{is_free_in}
use Rattle.hm_typing.specs.Generalisation.{quantify}
use Rattle.hm_typing.specs.Syntax.{Expression, Bindings, names}
use Rattle.hm_typing.specs.Typing.{HasLocal, HasType}
use Rattle.hm_typing.specs.BindingLists.{HasSchemes, HasPrincipalSchemes}
use Rattle.hm_typing.specs.SecondForm.{DerivedSchemes}
use Rattle.hm_typing.specs.Problems.{Fact, Unifies, IsBelow, FactsBelow, MostGeneralUnifier, Solved, Answer, solved, unsolvable, IsLocal}
use Rattle.hm_typing.specs.Orders.{Layout}
use Rattle.hm_typing.proofs.SchemeLaws.{put_instance, fill-agree, assumptions_put_Var, assumptions_put-agree, AssumptionsBelow, assumptions_bound}
use Rattle.hm_typing.proofs.Bind.{Has-Sees, Sees-Has, FreeIn-bind_all-in}
use Rattle.hm_typing.proofs.Solve.{same, both, nothing, FactsBelow-more}
use Rattle.hm_typing.proofs.Check.{below_more, Var-below, check_name, found, let-covers, open_with, quantified_put}
use Rattle.hm_typing.proofs.Local.{names_bound, block-below}
use Rattle.hm_typing.proofs.Bridge.{HasType-Derives, Derives-HasType, HasBindings-Derives, DeriveBindings-Has, made_list, is_quantified, no_others, own_signed, fresh}
use Rattle.hm_typing.proofs.Lists.{ListQ}
use Rattle.hm_typing.proofs.Infer.{check, check_list, check_group, check_signeds}
use Rattle.hm_typing.proofs.Names.{code, by_number, by_number_code}

-- the two forms of a list
pub DerivedUnits-Has : (ds : Bindings) (A : Assumptions) (B : Identifier → Scheme) → HasSchemes A ds B → DerivedSchemes A ds B
DerivedUnits-Has ds A B l =
    record { own = l.own; units = l.units; bindings = DeriveBindings-Has ds A l.own (names ds) l.types B (λ x y e. is_quantified ds A _ l.types B l.bindings y ((l.units.1 x y).0 e).1) (no_others ds A _ l.types B l.bindings) (own_signed ds l.own l.units) l.bindings }

pub Has-DerivedUnits : (ds : Bindings) (A : Assumptions) (B : Identifier → Scheme) → DerivedSchemes A ds B → (B' : Identifier → Scheme) × HasSchemes A ds B' × ((x : Identifier) → IsOneOf x (names ds) → IsAtMostAsGeneral (B x) (B' x))
Has-DerivedUnits ds A B d =
    let k = made_list ds A A B (λ x t h. h) d.own d.units (λ n b f g. HasBindings-Derives ds A A d.own (names ds) B n (λ x t h. h) b f g d.bindings) in
    (k.0, k.1, k.3)

-- each name has the type of its number
abbrev pub NamesHave : List Identifier → Assumptions → (ℕ → Monotype) → Type 0
NamesHave [] C r = Unit {0}
NamesHave (x ∷ xs) C r = Has C x (r (code x)) × NamesHave xs C r

pub NamesHave-more : (xs : List Identifier) (r : ℕ → Monotype) (C C' : Assumptions) → AreAtMostAsGeneral C C' → NamesHave xs C r → NamesHave xs C' r
NamesHave-more [] r C C' m h = tt
NamesHave-more (x ∷ xs) r C C' m h = (m x (r (code x)) h.0, NamesHave-more xs r C C' m h.1)

pub NamesHave-local : (xs : List Identifier) (k : ℕ) → ((x : Identifier) → IsOneOf x xs → code x < k) → (C : Assumptions) → IsLocal k (NamesHave xs C)
NamesHave-local [] k f C r q a h = tt
NamesHave-local (x ∷ xs) k f C r q a h = (subst (Has C x) (sym (a (code x) (f x (inl refl)))) h.0, NamesHave-local xs k (λ y o. f y (inr o)) C r q a h.1)

pub NamesHave-env : (xs : List Identifier) (r : ℕ → Monotype) (C C' : Assumptions) → C ≡ C' → NamesHave xs C r → NamesHave xs C' r
NamesHave-env xs r C C' e h = subst (λ Γ. NamesHave xs Γ r) e h

pub NamesHave-all : (xs : List Identifier) (C : Assumptions) (r : ℕ → Monotype) → ((x : Identifier) → IsOneOf x xs → Has C x (r (code x))) → NamesHave xs C r
NamesHave-all [] C r f = tt
NamesHave-all (x ∷ xs) C r f = (f x (inl refl), NamesHave-all xs C r (λ y o. f y (inr o)))

pub NamesHave-one : (xs : List Identifier) (C : Assumptions) (r : ℕ → Monotype) → NamesHave xs C r → (x : Identifier) → IsOneOf x xs → Has C x (r (code x))
NamesHave-one [] C r h x o = absurd o
NamesHave-one (y ∷ ys) C r h x (inl e) = subst (λ z. Has C z (r (code z))) (sym e) h.0
NamesHave-one (y ∷ ys) C r h x (inr o) = NamesHave-one ys C r h.1 x o

pub assumptions_put_closed : (r : ℕ → Monotype) (A : Assumptions) → IsClosed A → assumptions_put r A ≡ A
assumptions_put_closed r A c = assumptions_put-agree r Var A (λ a f. absurd (c a f)) ∙ assumptions_put_Var A

module _ (solve : (E : List Fact) → MostGeneralUnifier E ⊎ ((r : ℕ → Monotype) → Unifies r E → ⊥)) (layout : (ds : Bindings) → IsDistinct (names ds) → Layout ds) where
  pub check_names : (xs : List Identifier) (k : ℕ) → ((x : Identifier) → IsOneOf x xs → code x < k) → (C : Assumptions) (m : ℕ) (F : List Fact) → k ≤ m → AssumptionsBelow m C → FactsBelow m F → Answer (λ r. NamesHave xs (assumptions_put r C) r) m F
  check_names [] k f C m F l b d = nothing m F d
  check_names (x ∷ xs) k f C m F l b d =
      both m F (λ r q a h. NamesHave-env xs q _ _ (assumptions_put-agree r q C (λ y z. sym (a y (b y z)))) (NamesHave-local xs m (λ y o. (let e = f y (inr o) in omega arith)) (assumptions_put r C) r q a h))
      (check_name solve C x (Var (code x)) m F b (Var-below m (code x) (let e = f x (inl refl) in omega arith)) d (found C x))
      (λ n1 E1 l1 h. check_names xs k (λ y o. f y (inr o)) C n1 E1 (omega arith) (below_more m n1 C l1 b) h)

  -- the whole expression, in the first form
  pub check_expression : (e : Expression) (A : Assumptions) (t : Monotype) (n : ℕ) (E : List Fact) → AssumptionsBelow n A → IsBelow n t → FactsBelow n E → Answer (λ r. HasType (assumptions_put r A) e (put r t)) n E
  check_expression e A t n E b c d = same n E (λ r h. HasType-Derives e _ _ _ (λ x u i. i) h) (λ r h. Derives-HasType e _ _ h) (check solve layout e A t n E b c d)

  module _ (ds : Bindings) (A : Assumptions) (shut : IsClosed A) where
    pub few : (k : ℕ) × ((x : Identifier) → IsOneOf x (names ds) → code x < k)
    few = names_bound (names ds)

    pub Question : (ℕ → Monotype) → Type 0
    Question r = ListQ ds (λ C q. NamesHave (names ds) C q) A r

    question : Answer Question few.0 []
    unfolding Question
    question =
        check_list solve layout ds (λ C q. NamesHave (names ds) C q) A few.0 [] (λ a f. absurd (shut a f)) tt
        (λ r C C' m h. NamesHave-more (names ds) r C C' m h) (NamesHave-local (names ds) few.0 few.1)
        (λ some g B m F h s f. check_group solve layout ds g (names ds) A B (Rattle.hm_typing.proofs.Local.names_block m some) (m + some) F (below_more m (m + some) A (omega arith) h) (λ y a i. (let k = s y a i in omega arith)) (λ y. block-below m some (code y)) (FactsBelow-more m (m + some) F (omega arith) f))
        (λ C m F. check_signeds solve layout ds C m F)
        (λ C m F l h f. check_names (names ds) few.0 few.1 C m F l h f)

    -- the question holds of every typing, at each instance of its schemes
    asked : (B : Identifier → Scheme) → DerivedSchemes A ds B → (us : ℕ → Monotype) → Question (by_number (λ x. instance (B x) us))
    unfolding Question
    asked B d us = subst (λ Γ. HasLocal Γ ds (λ B'. DerivedSchemes Γ ds B') (λ C. NamesHave (names ds) C (by_number (λ x. instance (B x) us)))) (sym (assumptions_put_closed _ A shut))
        (record { schemes = B; listed = d; body = NamesHave-all (names ds) _ _ (λ x o. Sees-Has (names ds) B A x _ (inl (o, (us, by_number_code (λ z. instance (B z) us) x)))) })

    pub principal_from : (n1 : ℕ) (E1 : List Fact) → Solved Question few.0 [] n1 E1 → (m : MostGeneralUnifier E1) → (B : Identifier → Scheme) × HasPrincipalSchemes A ds B
    unfolding Question asked
    principal_from n1 E1 s m = (B, record { typed = k.1; most = most })
      where
        closed_map : assumptions_put m.map A ≡ A
        closed_map = assumptions_put_closed m.map A shut

        found_list : Question m.map
        found_list = (s.sound m.map m.unifies).1

        derived : DerivedSchemes A ds found_list.schemes
        derived = subst (λ Γ. DerivedSchemes Γ ds found_list.schemes) closed_map found_list.listed

        k : (B' : Identifier → Scheme) × HasSchemes A ds B' × ((x : Identifier) → IsOneOf x (names ds) → IsAtMostAsGeneral (found_list.schemes x) (B' x))
        k = Has-DerivedUnits ds A found_list.schemes derived

        B : Identifier → Scheme
        B = k.0

        no_free : (x : Identifier) → IsOneOf x (names ds) → (a : ℕ) → ¬ (In (Free a) (B x))
        no_free x o a i = shut a (no_others ds A _ k.1.types B k.1.bindings x o a i)

        -- the type found of a name is an instance of its scheme
        its_type : (x : Identifier) → IsOneOf x (names ds) → IsInstance (m.map (code x)) (B x)
        its_type x o = ⊎_elim (λ h. k.2 x o (m.map (code x)) h.1) (λ h. absurd (h.0 o)) (Has-Sees (names ds) found_list.schemes _ x (m.map (code x)) (NamesHave-one (names ds) _ m.map found_list.body x o))

        most : (B' : Identifier → Scheme) → HasSchemes A ds B' → (x : Identifier) → IsOneOf x (names ds) → IsAtMostAsGeneral (B' x) (B x)
        most B' l x o t i = ((λ j. put w (vs.0 j)), at)
          where
            b : (c : ℕ) × AssumptionsBelow c (bind_all (names ds) B' A)
            b = assumptions_bound (bind_all (names ds) B' A)

            r : ℕ → Monotype
            r = by_number (λ y. instance (B' y) (fresh b.0))

            c : (q : ℕ → Monotype) × ((y : ℕ) → y < few.0 → q y ≡ r y) × Unifies q E1
            c = s.complete r tt (asked B' (DerivedUnits-Has ds A B' l) (fresh b.0))

            covered : IsAtMostAsGeneral (B' x) (scheme_put c.0 (quantify (assumptions_put m.map A) (m.map (code x))))
            covered = let-covers A (code x) E1 m c.0 c.2 (B' x) b.0 (λ a j. b.1 a (FreeIn-bind_all-in (names ds) B' A a x o j)) (λ a f. absurd (shut a (subst (FreeIn a) (assumptions_put_closed c.0 A shut) f))) (c.1 (code x) (few.1 x o) ∙ by_number_code (λ y. instance (B' y) (fresh b.0)) x)

            inst : IsInstance t (scheme_put c.0 (quantify (assumptions_put m.map A) (m.map (code x))))
            inst = covered t i

            w : ℕ → Monotype
            w a = open_with (is_free_in a (assumptions_put m.map A)) c.0 inst.0 a

            vs : IsInstance (m.map (code x)) (B x)
            vs = its_type x o

            at : t ≡ instance (B x) (λ j. put w (vs.0 j))
            at = inst.1 ∙ (quantified_put (assumptions_put m.map A) (m.map (code x)) c.0 inst.0 ∙ (ap (put w) vs.1 ∙ (put_instance w vs.0 (B x) ∙ fill-agree w Var _ _ (B x) (λ a j. absurd (no_free x o a j)) (λ j. refl))))

    -- each list has a principal typing, or none
    pub principal : ((B : Identifier → Scheme) × HasPrincipalSchemes A ds B) ⊎ ((B : Identifier → Scheme) → ¬ (HasSchemes A ds B))
    principal = go question
      where
        go : Answer Question few.0 [] → ((B : Identifier → Scheme) × HasPrincipalSchemes A ds B) ⊎ ((B : Identifier → Scheme) → ¬ (HasSchemes A ds B))
        go (unsolvable never) = inr (λ B l. never _ tt (asked B (DerivedUnits-Has ds A B l) Var))
        go (solved n1 E1 s) = ⊎_elim (λ m. inl (principal_from n1 E1 s m)) (λ never. inr (λ B l. let c = s.complete _ tt (asked B (DerivedUnits-Has ds A B l) Var) in never c.0 c.2)) (solve E1)
