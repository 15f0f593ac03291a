-- Generalisation over other sets of variables gives the same schemes.
use Rattle.std.proofs.Common.{◌≡◌, ℕ, suc, List, Bool, true, false, cond, ◌==◌, inl, inr, refl, sym, ap, ◌∙◌, subst, subst₂, ◌+◌, ◌<◌, arith, true≢false}
use Rattle.std.proofs.lemmas.Bool.Decides.{nat_tests}
use mathlib.Core.Path.{fun_ext}
use Rattle.hm_types.specs.Types.{Ty, Args, Var, App, done, more, In, InArgs, put, put_all}
use Rattle.hm_typing.specs.Names.{Identifier}
use Rattle.hm_typing.specs.Schemes.{Monotype, Scheme, Free, Quantified, scheme_put}
use Rattle.hm_typing.specs.Assumptions.{Assumptions, FreeIn, assumptions_put}
use Rattle.hm_typing.specs.Decisions.{is_free_in}
use Rattle.hm_typing.specs.Generalisation.{quantified_unless, quantify, quantify_but, KeepsEnough}
use Rattle.hm_typing.specs.Syntax.{Expression, Bindings, no_binding, unsigned, signed, matched}
use Rattle.hm_typing.specs.Typing.{HasType}
use Rattle.hm_typing.specs.Orders.{UnitHas}
use Rattle.hm_typing.specs.Problems.{Fact, Unifies, FactsBelow, MostGeneralUnifier, Solved}
use Rattle.hm_typing.proofs.Types.{put-agree, put-Var}
use Rattle.hm_typing.proofs.SchemeLaws.{split, split_below, split_from, assumptions_put-agree, assumptions_put_Var, scheme_put-agree, scheme_put_Var, AssumptionsBelow, SchemeBelow}
use Rattle.hm_typing.proofs.Put.{Derives-put}
use Rattle.hm_typing.proofs.Bridge.{HasType-Derives, Derives-HasType, HasClauses-Derives, DeriveClauses-Has}
use Rattle.hm_typing.proofs.Groups.{over, GroupHas}
use Rattle.hm_typing.proofs.Units.{GroupHas-put}
use Rattle.hm_typing.proofs.Solve.{Unifies-local}

-- two substitutions that give one type agree on its variables

abbrev pub arguments_of : {V : Type 0} → Args V → Ty V → Args V
arguments_of d (Var v) = d
arguments_of d (App h ts) = ts

abbrev pub first_of : {V : Type 0} → Ty V → Args V → Ty V
first_of d done = d
first_of d (more t ts) = t

abbrev pub rest_of : {V : Type 0} → Args V → Args V
rest_of done = done
rest_of (more t ts) = ts

mutual
  pub agree-put : (f g : ℕ → Monotype) (t : Monotype) → put f t ≡ put g t → (a : ℕ) → In a t → f a ≡ g a
  agree-put f g (Var v) e a i = subst (λ b. f b ≡ g b) (sym i) e
  agree-put f g (App h ts) e a i = agree-put_all f g ts (ap (arguments_of done) e) a i

  pub agree-put_all : (f g : ℕ → Monotype) (ts : Args ℕ) → put_all f ts ≡ put_all g ts → (a : ℕ) → InArgs a ts → f a ≡ g a
  agree-put_all f g done e a i = absurd i
  agree-put_all f g (more t ts) e a (inl i) = agree-put f g t (ap (first_of (Var 0)) e) a i
  agree-put_all f g (more t ts) e a (inr i) = agree-put_all f g ts (ap rest_of e) a i

-- another variable for a

abbrev moved : ℕ → ℕ → Monotype
moved a b = cond (b == a) (Var (suc a)) (Var b)

moved_other : (a b : ℕ) → ¬ (b ≡ a) → moved a b ≡ Var b
moved_other a b n = go (b == a) refl
  where
    go : (c : Bool) → (b == a) ≡ c → cond c (Var (suc a)) (Var b) ≡ Var b
    go true e = absurd (n (same e))
      where
        same : (b == a) ≡ true → b ≡ a
        same e = grind (arith, nat_tests)
    go false e = refl

abbrev number : Monotype → ℕ
number (Var a) = a
number (App h ts) = 0

not_moved : (a : ℕ) → ¬ (Var a ≡ moved a a)
not_moved a e = go (a == a) refl e
  where
    go : (c : Bool) → (a == a) ≡ c → Var a ≡ cond c (Var (suc a)) (Var a) → ⊥
    go true d k = let h : a ≡ suc a = ap number k in absurd (omega arith)
    go false d k = absurd (other d)
      where
        other : (a == a) ≡ false → ⊥
        other d = grind (arith, nat_tests)

module _ (P : (ℕ → Monotype) → Type 0) (A : Assumptions) (n k : ℕ) (E : List Fact) (n1 : ℕ) (E1 : List Fact) (facts : FactsBelow n E) (s : Solved P (n + k) E n1 E1) (m : MostGeneralUnifier E1)
    (other : (ρ r : ℕ → Monotype) → ((a : ℕ) → FreeIn a (assumptions_put m.map A) → ρ a ≡ Var a) → ((z : ℕ) → z < n → r z ≡ m.map z) → ((i : ℕ) → r (n + i) ≡ put ρ (m.map (n + i))) → P m.map → P r) where
  -- what an inner variable shares with an outer one is free in the assumptions
  pub shared_is_free : (a i z : ℕ) → i < k → In a (m.map (n + i)) → z < n → In a (m.map z) → FreeIn a (assumptions_put m.map A)
  shared_is_free a i z li hi lz hz = go (is_free_in a (assumptions_put m.map A))
    where
      r : ℕ → Monotype
      r = split n m.map (λ j. put (moved a) (m.map (n + j)))

      below : (x : ℕ) → x < n → r x ≡ m.map x
      below x l = split_below n m.map (λ j. put (moved a) (m.map (n + j))) x l

      above : (j : ℕ) → r (n + j) ≡ put (moved a) (m.map (n + j))
      above j = split_from n m.map (λ j. put (moved a) (m.map (n + j))) j

      given : Unifies m.map E × P m.map
      given = s.sound m.map m.unifies

      clash : ¬ (FreeIn a (assumptions_put m.map A)) → ⊥
      clash no_free = not_moved a (sym at_outer ∙ at_inner)
        where
          c : (q : ℕ → Monotype) × ((x : ℕ) → x < n + k → q x ≡ r x) × Unifies q E1
          c = s.complete r (Unifies-local n E facts m.map r below given.0) (other (moved a) r (λ b f. moved_other a b (λ e. no_free (subst (λ v. FreeIn v (assumptions_put m.map A)) e f))) below above given.1)

          at_outer : c.0 a ≡ Var a
          at_outer = agree-put c.0 Var (m.map z) (m.most c.0 c.2 z ∙ (c.1 z (omega arith) ∙ (below z lz ∙ sym (put-Var (m.map z))))) a hz

          at_inner : c.0 a ≡ moved a a
          at_inner = agree-put c.0 (moved a) (m.map (n + i)) (m.most c.0 c.2 (n + i) ∙ (c.1 (n + i) (omega arith) ∙ above i)) a hi

      go : Dec (FreeIn a (assumptions_put m.map A)) → FreeIn a (assumptions_put m.map A)
      go (yes f) = f
      go (no f) = absurd (clash f)

  pub same_scheme : (kept : ℕ → Bool) → KeepsEnough A n m.map kept → (i : ℕ) → i < k → quantify_but kept (m.map (n + i)) ≡ quantify (assumptions_put m.map A) (m.map (n + i))
  same_scheme kept enough i l = put-agree _ _ (m.map (n + i)) (λ a h. ap Var (at a h (is_free_in a (assumptions_put m.map A)) (kept a) refl))
    where
      at : (a : ℕ) → In a (m.map (n + i)) → (d : Dec (FreeIn a (assumptions_put m.map A))) (b : Bool) → kept a ≡ b → cond b (Free a) (Quantified a) ≡ quantified_unless d a
      at a h (yes f) true e = refl
      at a h (yes f) false e = absurd (true≢false (sym (enough.free a f) ∙ e))
      at a h (no g) true e = let o = enough.outer a e in absurd (g (shared_is_free a i o.0 l h o.1 o.2))
      at a h (no g) false e = refl

-- For an expression, and for a unit

kept_free : (A : Assumptions) (m ρ r : ℕ → Monotype) (n : ℕ) → AssumptionsBelow n A → ((a : ℕ) → FreeIn a (assumptions_put m A) → ρ a ≡ Var a) → ((z : ℕ) → z < n → r z ≡ m z) → assumptions_put ρ (assumptions_put m A) ≡ assumptions_put r A
kept_free A m ρ r n low fixed below = assumptions_put-agree ρ Var (assumptions_put m A) fixed ∙ (assumptions_put_Var (assumptions_put m A) ∙ assumptions_put-agree m r A (λ a f. sym (below a (low a f))))

pub expression_alike : (e : Expression) (A : Assumptions) (n : ℕ) (E : List Fact) (n1 : ℕ) (E1 : List Fact) (kept : ℕ → Bool) → AssumptionsBelow n A → FactsBelow n E → Solved (λ r. HasType (assumptions_put r A) e (r n)) (n + 1) E n1 E1 →
    (m : MostGeneralUnifier E1) → KeepsEnough A n m.map kept → quantify_but kept (m.map n) ≡ quantify (assumptions_put m.map A) (m.map n)
expression_alike e A n E n1 E1 kept low facts s m enough =
    subst (λ c. quantify_but kept (m.map c) ≡ quantify (assumptions_put m.map A) (m.map c)) at_zero
    (same_scheme (λ r. HasType (assumptions_put r A) e (r n)) A n 1 E n1 E1 facts s m other kept enough 0 (omega arith))
  where
    at_zero : n + 0 ≡ n
    at_zero = omega arith

    other : (ρ r : ℕ → Monotype) → ((a : ℕ) → FreeIn a (assumptions_put m.map A) → ρ a ≡ Var a) → ((z : ℕ) → z < n → r z ≡ m.map z) → ((i : ℕ) → r (n + i) ≡ put ρ (m.map (n + i))) → HasType (assumptions_put m.map A) e (m.map n) → HasType (assumptions_put r A) e (r n)
    other ρ r fixed below above d = subst₂ (λ C t. HasType C e t) (kept_free A m.map ρ r n low fixed below) (subst (λ c. put ρ (m.map c) ≡ r c) at_zero (sym (above 0)))
        (HasType-Derives e _ _ _ (λ x u h. h) (Derives-put e ρ (assumptions_put m.map A) (m.map n) (Derives-HasType e _ _ d)))

UnitHas-GroupHas : (D : Bindings) (g : Identifier → Bool) (xs : List Identifier) (A : Assumptions) (B : Identifier → Scheme) (τ : Identifier → Monotype) → UnitHas g xs A B τ D → GroupHas g xs A B τ D
UnitHas-GroupHas no_binding g xs A B τ h = tt
UnitHas-GroupHas (unsigned x cs D) g xs A B τ h = ((λ e. DeriveClauses-Has cs _ _ (h.0 e)), UnitHas-GroupHas D g xs A B τ h.1)
UnitHas-GroupHas (signed x s cs D) g xs A B τ h = UnitHas-GroupHas D g xs A B τ h
UnitHas-GroupHas (matched k p cs D) g xs A B τ h = ((λ e. ((h.0 e).0, DeriveClauses-Has cs _ _ (h.0 e).1)), UnitHas-GroupHas D g xs A B τ h.1)

GroupHas-UnitHas : (D : Bindings) (g : Identifier → Bool) (xs : List Identifier) (A : Assumptions) (B : Identifier → Scheme) (τ : Identifier → Monotype) → GroupHas g xs A B τ D → UnitHas g xs A B τ D
GroupHas-UnitHas no_binding g xs A B τ h = tt
GroupHas-UnitHas (unsigned x cs D) g xs A B τ h = ((λ e. HasClauses-Derives cs _ _ _ (λ y t k. k) (h.0 e)), GroupHas-UnitHas D g xs A B τ h.1)
GroupHas-UnitHas (signed x s cs D) g xs A B τ h = GroupHas-UnitHas D g xs A B τ h
GroupHas-UnitHas (matched k p cs D) g xs A B τ h = ((λ e. ((h.0 e).0, HasClauses-Derives cs _ _ _ (λ y t i. i) (h.0 e).1)), GroupHas-UnitHas D g xs A B τ h.1)

pub unit_alike : (g : Identifier → Bool) (xs : List Identifier) (A : Assumptions) (B : Identifier → Scheme) (D : Bindings) (place : Identifier → ℕ) (n k : ℕ) (E : List Fact) (n1 : ℕ) (E1 : List Fact) (kept : ℕ → Bool) →
    AssumptionsBelow n A → ((y : Identifier) → SchemeBelow n (B y)) → FactsBelow n E → Solved (λ r. UnitHas g xs (assumptions_put r A) (λ y. scheme_put r (B y)) (λ y. r (n + place y)) D) (n + k) E n1 E1 →
    (m : MostGeneralUnifier E1) → ((y : Identifier) (a : ℕ) → In (Free a) (scheme_put m.map (B y)) → FreeIn a (assumptions_put m.map A)) → KeepsEnough A n m.map kept →
    (y : Identifier) → place y < k → quantify_but kept (m.map (n + place y)) ≡ quantify (assumptions_put m.map A) (m.map (n + place y))
unit_alike g xs A B D place n k E n1 E1 kept low few facts s m inner enough y l =
    same_scheme (λ r. UnitHas g xs (assumptions_put r A) (λ y. scheme_put r (B y)) (λ y. r (n + place y)) D) A n k E n1 E1 facts s m other kept enough (place y) l
  where
    other : (ρ r : ℕ → Monotype) → ((a : ℕ) → FreeIn a (assumptions_put m.map A) → ρ a ≡ Var a) → ((z : ℕ) → z < n → r z ≡ m.map z) → ((i : ℕ) → r (n + i) ≡ put ρ (m.map (n + i))) →
        UnitHas g xs (assumptions_put m.map A) (λ y. scheme_put m.map (B y)) (λ y. m.map (n + place y)) D → UnitHas g xs (assumptions_put r A) (λ y. scheme_put r (B y)) (λ y. r (n + place y)) D
    other ρ r fixed below above d =
        let schemes : over ρ (over m.map B) ≡ over r B =
        fun_ext (λ z. scheme_put-agree ρ Var (scheme_put m.map (B z)) (λ a i. fixed a (inner z a i)) ∙ (scheme_put_Var (scheme_put m.map (B z)) ∙ scheme_put-agree m.map r (B z) (λ a i. sym (below a (few z a i))))) in
        let types : (λ z. put ρ (m.map (n + place z))) ≡ (λ z. r (n + place z)) = fun_ext (λ z. sym (above (place z))) in
        GroupHas-UnitHas D g xs _ _ _
        (subst (λ τ. GroupHas g xs (assumptions_put r A) (over r B) τ D) types
        (subst₂ (λ C W. GroupHas g xs C W (λ z. put ρ (m.map (n + place z))) D) (kept_free A m.map ρ r n low fixed below) schemes
        (GroupHas-put D ρ g xs (assumptions_put m.map A) (over m.map B) (λ z. m.map (n + place z)) (UnitHas-GroupHas D g xs _ _ _ d))))
