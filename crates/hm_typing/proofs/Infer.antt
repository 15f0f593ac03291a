-- The whole language is checked: each question has an answer, sound and complete.
use Rattle.hm_types.specs.declared.Head.TheVariants as head
use Rattle.std.proofs.Common.{◌≡◌, ℕ, suc, List, Bool, true, false, cond, ◌⊎◌, ⊎_elim, refl, sym, ap, ◌∙◌, subst, subst₂, ◌+◌, ◌<◌, ◌≤◌, arith, true≢false}
use mathlib.Core.Path.{fun_ext, transport}
use Rattle.hm_types.specs.Types.{Var, App, In, put}
use Rattle.hm_typing.specs.Names.{IsDistinct, Identifier}
use Rattle.hm_typing.specs.Schemes.{Monotype, Scheme, Free, arrow, monomorphic, scheme_put}
use Rattle.hm_typing.specs.Assumptions.{Assumptions, assumptions_put, AreAtMostAsGeneral, bind_all}
use Rattle.hm_typing.specs.Syntax.{Pattern, Patterns, Expression, Variable, Constructor, Literal, Apply, Lambda, Let, If, Case, Tuple, Listing, Typed, Expressions, no_expression, expression, Clauses, no_clause, clause, RightSides, no_right_side, plain, guarded, Bindings, no_binding, unsigned, signed, matched, bool, literal_type, patterns_names, names, pattern_count, expression_count}
use Rattle.hm_typing.specs.Patterns.{tuple, list, arrows, Matches, MatchesAll}
use Rattle.hm_typing.specs.Typing.{HasLocal, HasFunction}
use Rattle.hm_typing.specs.SecondForm.{DerivedSchemes, Derives, DeriveAll, DeriveClauses, DeriveRightSides}
use Rattle.hm_typing.specs.Problems.{Fact, Unifies, IsBelow, FactsBelow, MostGeneralUnifier, Answer, unsolvable, IsLocal}
use Rattle.hm_typing.specs.Orders.{within, Layout}
use Rattle.hm_typing.proofs.SchemeLaws.{scheme_put_mono, scheme_put-agree, assumptions_put-agree, AssumptionsBelow, SchemeBelow, scheme_put_In, In_mono}
use Rattle.hm_typing.proofs.Bind.{bind_all-agree, assumptions_put-bind_all, FreeIn-bind_all}
use Rattle.hm_typing.proofs.Solve.{FactsBelow-more, put-below, same, both, some_type, nothing, equal}
use Rattle.hm_typing.proofs.Check.{IsBelow-more, Var-below, below_more, arrow-below, check_name, found}
use Rattle.hm_typing.proofs.More.{Derives-more, DeriveRightSides-more}
use Rattle.hm_typing.proofs.Put.{put-arrows, put-arguments, put-lit, assumptions_put-bind_mono, Derives-put, DeriveClauses-put}
use Rattle.hm_typing.proofs.Local.{arrows-agree, arguments-agree, MatchesAll-agree, DeriveAll-agree, block, block-below, some_block, some_names, names_block, arrows-below, arguments-below, lit-below, fresh-below, bool-below, names_bound}
use Rattle.hm_typing.proofs.Variables.{vars_bound}
use Rattle.hm_typing.proofs.Patterns.{AreBelow, AreBelow-more, under, MatchesAll-local, declared, match, match_all}
use Rattle.hm_typing.proofs.Signed.{rigids, rigids_below, signed as at_each}
use Rattle.hm_typing.proofs.Groups.{over, GroupHas, GroupQ, AreSchemes}
use Rattle.hm_typing.proofs.Lists.{SignedHas, ListQ, ListQ-Stage, Stage-ListQ, is_distinct, check_stage}
use Rattle.hm_typing.proofs.Names.{code}

-- Questions of assumptions and a type are local.

pub local : (J : Assumptions → Monotype → Type 0) (A : Assumptions) (t : Monotype) (n : ℕ) → AssumptionsBelow n A → IsBelow n t → IsLocal n (λ r. J (assumptions_put r A) (put r t))
local J A t n b c r q a d = subst₂ J (assumptions_put-agree r q A (λ x f. sym (a x (b x f)))) (put-below n r q t a c) d

pub env_local : (J : Assumptions → Type 0) (A : Assumptions) (n : ℕ) → AssumptionsBelow n A → IsLocal n (λ r. J (assumptions_put r A))
env_local J A n b r q a d = subst J (assumptions_put-agree r q A (λ x f. sym (a x (b x f)))) d

pub DeriveAll-local : (es : Expressions) (A : Assumptions) (ts : ℕ → Monotype) (i n : ℕ) → AssumptionsBelow n A → AreBelow n ts → IsLocal n (λ r. DeriveAll (assumptions_put r A) es (under r ts) i)
DeriveAll-local es A ts i n b c r q a d = DeriveAll-agree es (assumptions_put q A) _ _ i (λ j l h. put-below n r q (ts j) a (c j)) (env_local (λ C. DeriveAll C es (under r ts) i) A n b r q a d)

pub GroupQ-local : (g : Identifier → Bool) (xs : List Identifier) (A : Assumptions) (B : Identifier → Scheme) (τ : Identifier → Monotype) (D : Bindings) (n : ℕ) → AssumptionsBelow n A → ((y : Identifier) → SchemeBelow n (B y)) → AreBelow n τ → IsLocal n (GroupQ g xs A B τ D)
GroupQ-local g xs A B τ D n b s c r q a d =
    let p = assumptions_put-agree r q A (λ x f. sym (a x (b x f))) in
    let o : over r B ≡ over q B = fun_ext (λ y. scheme_put-agree r q (B y) (λ x i. sym (a x (s y x i)))) in
    let w : under r τ ≡ under q τ = fun_ext (λ y. put-below n r q (τ y) a (c y)) in
    transport (λ i. GroupHas g xs (p i) (o i) (w i) D) d

-- what is seen within a group, with a substitution in it
pub assumptions_put-within : (r : ℕ → Monotype) (g : Identifier → Bool) (xs : List Identifier) (B : Identifier → Scheme) (τ : Identifier → Monotype) (A : Assumptions) → assumptions_put r (bind_all xs (within g B τ) A) ≡ bind_all xs (within g (over r B) (under r τ)) (assumptions_put r A)
assumptions_put-within r g xs B τ A = assumptions_put-bind_all r xs _ A ∙ bind_all-agree xs _ _ _ _ (λ y o. at y (g y)) refl
  where
    at : (y : Identifier) (b : Bool) → scheme_put r (cond b (monomorphic (τ y)) (B y)) ≡ cond b (monomorphic (put r (τ y))) (scheme_put r (B y))
    at y true = scheme_put_mono r (τ y)
    at y false = refl

pub within-below : (n : ℕ) (g : Identifier → Bool) (xs : List Identifier) (B : Identifier → Scheme) (τ : Identifier → Monotype) (A : Assumptions) → AssumptionsBelow n A → ((y : Identifier) → SchemeBelow n (B y)) → AreBelow n τ → AssumptionsBelow n (bind_all xs (within g B τ) A)
within-below n g xs B τ A b s c a f = ⊎_elim (λ h. at h.0 (g h.0) h.2) (λ h. b a h) (FreeIn-bind_all xs (within g B τ) A a f)
  where
    at : (y : Identifier) (k : Bool) → In (Free a) (cond k (monomorphic (τ y)) (B y)) → a < n
    at y true i = c y a (In_mono a (τ y) i)
    at y false i = s y a i

pub monomorphic-below : (n : ℕ) (xs : List Identifier) (τ : Identifier → Monotype) (A : Assumptions) → AssumptionsBelow n A → AreBelow n τ → AssumptionsBelow n (bind_all xs (λ x. monomorphic (τ x)) A)
monomorphic-below n xs τ A b c a f = ⊎_elim (λ h. c h.0 a (In_mono a (τ h.0) h.2)) (λ h. b a h) (FreeIn-bind_all xs _ A a f)

-- patterns, and then something under the assumptions that they make
abbrev pub HeadQ : Patterns → (Assumptions → Monotype → Type 0) → Monotype → Assumptions → (ℕ → Monotype) → Type 0
HeadQ ps Body v A r = HasFunction (assumptions_put r A) ps (put r v) Body

module _ (solve : (E : List Fact) → MostGeneralUnifier E ⊎ ((r : ℕ → Monotype) → Unifies r E → ⊥)) where
  pub check_head : (ps : Patterns) (Body : Assumptions → Monotype → Type 0) (v : Monotype) (A : Assumptions) (n : ℕ) (E : List Fact) → AssumptionsBelow n A → IsBelow n v → FactsBelow n E →
      ((C : Assumptions) (u : Monotype) (n1 : ℕ) (E1 : List Fact) → AssumptionsBelow n1 C → IsBelow n1 u → FactsBelow n1 E1 → Answer (λ r. Body (assumptions_put r C) (put r u)) n1 E1) → Answer (HeadQ ps Body v A) n E
  check_head ps Body v A n E b c d body =
      let xs = patterns_names ps in
      let k = pattern_count ps in
      let few = names_bound xs in
      let n1 = n + few.0 in
      let n2 = n1 + k in
      let n3 = suc n2 in
      let τ : Identifier → Monotype = names_block n few.0 in
      let ts = block n1 k in
      let bτ : AreBelow n3 τ = AreBelow-more n1 n3 τ (omega arith) (λ x. block-below n few.0 (code x)) in
      let bt : AreBelow n3 ts = AreBelow-more n2 n3 ts (omega arith) (block-below n1 k) in
      let bu : IsBelow n3 (Var n2) = Var-below n3 n2 (omega arith) in
      let C = bind_all xs (λ x. monomorphic (τ x)) A in
      let bC : AssumptionsBelow n3 C = monomorphic-below n3 xs τ A (below_more n n3 A (omega arith) b) bτ in
      same n E (λ r p. record { variables = p.0; parameters = p.1.0; result = p.1.1.0; function = p.1.1.1.0; matched = p.1.1.1.1.0; body = p.1.1.1.1.1 }) (λ r p. (p.variables, (p.parameters, (p.result, (p.function, (p.matched, p.body))))))
      (some_names {P = λ r τ. (ts : ℕ → Monotype) × ((u : Monotype) × ((put r v ≡ arrows k ts 0 u) × (MatchesAll τ ps ts 0 × Body (bind_all xs (λ x. monomorphic (τ x)) (assumptions_put r A)) u)))} few.0 n E d
      (λ r q us vs f g p. (
        p.0,
        (
          p.1.0,
          (
            sym (put-below n r q v f c) ∙ p.1.1.0,
            (
              MatchesAll-agree ps us vs p.0 p.0 0 (λ x o. sym (g x (few.1 x o))) (λ j l h. refl) p.1.1.1.0,
              subst (λ Γ. Body Γ p.1.0) (bind_all-agree xs _ _ _ _ (λ x o. ap monomorphic (sym (g x (few.1 x o)))) (assumptions_put-agree r q A (λ x z. sym (f x (b x z))))) p.1.1.1.1,
            ),
          ),
        ),
      ))
      (some_block {P = λ r ts. (u : Monotype) × ((put r v ≡ arrows k ts 0 u) × (MatchesAll (under r τ) ps ts 0 × Body (bind_all xs (λ x. monomorphic (put r (τ x))) (assumptions_put r A)) u))} k n1 (E) (FactsBelow-more n n1 E (omega arith) d)
      (λ r q us vs f g p. (
        p.0,
        (
          sym (put-below n1 r q v f (IsBelow-more n n1 v (omega arith) c)) ∙ (p.1.0 ∙ arrows-agree k us vs 0 p.0 (λ j l h. sym (g j (omega arith)))),
          (
            MatchesAll-agree ps (under r τ) (under q τ) us vs 0 (λ x o. put-below n1 r q (τ x) f (block-below n few.0 (code x))) (λ j l h. sym (g j (omega arith))) p.1.1.0,
            subst (λ Γ. Body Γ p.0) (bind_all-agree xs _ _ _ _ (λ x o. ap monomorphic (put-below n1 r q (τ x) f (block-below n few.0 (code x)))) (assumptions_put-agree r q A (λ x z. sym (f x (below_more n n1 A (omega arith) b x z))))) p.1.1.1,
          ),
        ),
      ))
      (some_type {P = λ r u. (put r v ≡ arrows k (under r ts) 0 u) × (MatchesAll (under r τ) ps (under r ts) 0 × Body (bind_all xs (λ x. monomorphic (put r (τ x))) (assumptions_put r A)) u)} n2 E (FactsBelow-more n n2 E (omega arith) d)
      (λ u r q f p.
      let bt2 : AreBelow n2 ts = block-below n1 k in
      let bτ2 : AreBelow n2 τ = AreBelow-more n1 n2 τ (omega arith) (λ x. block-below n few.0 (code x)) in (
        sym (put-below n2 r q v f (IsBelow-more n n2 v (omega arith) c)) ∙ (p.0 ∙ arrows-agree k _ _ 0 u (λ j l h. put-below n2 r q (ts j) f (bt2 j))),
        (
          MatchesAll-local ps τ ts 0 n2 bτ2 bt2 r q f p.1.0,
          subst (λ Γ. Body Γ u) (bind_all-agree xs _ _ _ _ (λ x o. ap monomorphic (put-below n2 r q (τ x) f (bτ2 x))) (assumptions_put-agree r q A (λ x z. sym (f x (below_more n n2 A (omega arith) b x z))))) p.1.1,
        ),
      ))
      (both n3 E
      (λ r q f p. (
        MatchesAll-local ps τ ts 0 n3 bτ bt r q f p.0,
        subst₂ Body (bind_all-agree xs _ _ _ _ (λ x o. ap monomorphic (put-below n3 r q (τ x) f (bτ x))) (assumptions_put-agree r q A (λ x z. sym (f x (below_more n n3 A (omega arith) b x z))))) (sym (f n2 (omega arith))) p.1,
      ))
      (same n3 E (λ r e. e ∙ put-arrows r k ts 0 (Var n2)) (λ r e. e ∙ sym (put-arrows r k ts 0 (Var n2)))
      (equal solve v (arrows k ts 0 (Var n2)) n3 E (IsBelow-more n n3 v (omega arith) c) (arrows-below n3 k ts 0 (Var n2) bt bu) (FactsBelow-more n n3 E (omega arith) d)))
      (λ m F l h. both m F
      (λ r q f p. subst₂ Body (bind_all-agree xs _ _ _ _ (λ x o. ap monomorphic (put-below m r q (τ x) f (AreBelow-more n3 m τ l bτ x))) (assumptions_put-agree r q A (λ x z. sym (f x (below_more n m A (omega arith) b x z))))) (sym (f n2 (omega arith))) p)
      (match_all solve ps τ ts 0 m F (AreBelow-more n3 m τ l bτ) (AreBelow-more n3 m ts l bt) h)
      (λ m1 F1 l1 h1. same m1 F1 (λ r p. subst (λ Γ. Body Γ (r n2)) (assumptions_put-bind_mono r xs τ A) p) (λ r p. subst (λ Γ. Body Γ (r n2)) (sym (assumptions_put-bind_mono r xs τ A)) p)
      (body C (Var n2) m1 F1 (below_more n3 m1 C (omega arith) bC) (IsBelow-more n3 m1 (Var n2) (omega arith) bu) h1)))))))

  -- a binding of a group, or none
  pub group_binding : (g : Identifier → Bool) (x : Identifier) (cs : Clauses) (xs : List Identifier) (A : Assumptions) (B : Identifier → Scheme) (τ : Identifier → Monotype) (n : ℕ) (E : List Fact) → FactsBelow n E →
      Answer (λ r. DeriveClauses (assumptions_put r (bind_all xs (within g B τ) A)) cs (put r (τ x))) n E →
      Answer (λ r. g x ≡ true → DeriveClauses (bind_all xs (within g (over r B) (under r τ)) (assumptions_put r A)) cs (put r (τ x))) n E
  group_binding g x cs xs A B τ n E d a = at (g x) refl
    where
      at : (b : Bool) → g x ≡ b → Answer (λ r. g x ≡ true → DeriveClauses (bind_all xs (within g (over r B) (under r τ)) (assumptions_put r A)) cs (put r (τ x))) n E
      at true e = same n E (λ r p k. subst (λ Γ. DeriveClauses Γ cs (put r (τ x))) (assumptions_put-within r g xs B τ A) p) (λ r p. subst (λ Γ. DeriveClauses Γ cs (put r (τ x))) (sym (assumptions_put-within r g xs B τ A)) (p e)) a
      at false e = same n E (λ r p k. absurd (true≢false (sym k ∙ e))) (λ r p. tt) (nothing n E d)

  -- and a pattern binding of a group, or none
  pub group_matched : (g : Identifier → Bool) (k : Identifier) (p : Pattern) (cs : Clauses) (xs : List Identifier) (A : Assumptions) (B : Identifier → Scheme) (τ : Identifier → Monotype) (n : ℕ) (E : List Fact) → FactsBelow n E →
      Answer (λ r. Matches (under r τ) p (put r (τ k)) × DeriveClauses (assumptions_put r (bind_all xs (within g B τ) A)) cs (put r (τ k))) n E →
      Answer (λ r. g k ≡ true → Matches (under r τ) p (put r (τ k)) × DeriveClauses (bind_all xs (within g (over r B) (under r τ)) (assumptions_put r A)) cs (put r (τ k))) n E
  group_matched g k p cs xs A B τ n E d a = at (g k) refl
    where
      at : (b : Bool) → g k ≡ b → Answer (λ r. g k ≡ true → Matches (under r τ) p (put r (τ k)) × DeriveClauses (bind_all xs (within g (over r B) (under r τ)) (assumptions_put r A)) cs (put r (τ k))) n E
      at true e = same n E (λ r h q. (h.0, subst (λ Γ. DeriveClauses Γ cs (put r (τ k))) (assumptions_put-within r g xs B τ A) h.1)) (λ r h. let q = h e in (q.0, subst (λ Γ. DeriveClauses Γ cs (put r (τ k))) (sym (assumptions_put-within r g xs B τ A)) q.1)) a
      at false e = same n E (λ r h q. absurd (true≢false (sym q ∙ e))) (λ r h. tt) (nothing n E d)

  -- a declared type at each instance
  pub each : (J : Assumptions → Monotype → Type 0) → ((r : ℕ → Monotype) (A : Assumptions) (t : Monotype) → J A t → J (assumptions_put r A) (put r t)) → (s : Monotype) (A : Assumptions) (n : ℕ) (E : List Fact) → AssumptionsBelow n A → FactsBelow n E →
      ((t : Monotype) (m : ℕ) (F : List Fact) → AssumptionsBelow m A → IsBelow m t → FactsBelow m F → Answer (λ r. J (assumptions_put r A) (put r t)) m F) →
      Answer (λ r. (us : ℕ → Monotype) → J (assumptions_put r A) (put us s)) n E
  each J J-put s A n E b d ask =
      let w = vars_bound s in
      at_each J J-put solve s A n w.0 E b d w.1 (ask (put (λ i. Var (n + i)) s) (n + w.0) (rigids n w.0 E) (below_more n (n + w.0) A (omega arith) b) (fresh-below n w.0 s w.1) (rigids_below n w.0 E d))

  module _ (layout : (ds : Bindings) → IsDistinct (names ds) → Layout ds) where
    pub check_list : (ds : Bindings) (Body : Assumptions → (ℕ → Monotype) → Type 0) (A : Assumptions) (n : ℕ) (E : List Fact) → AssumptionsBelow n A → FactsBelow n E →
        ((r : ℕ → Monotype) (C C' : Assumptions) → AreAtMostAsGeneral C C' → Body C r → Body C' r) → ((C : Assumptions) → IsLocal n (Body C)) →
        ((few : ℕ) (g : Identifier → Bool) (B : Identifier → Scheme) (m : ℕ) (F : List Fact) → AssumptionsBelow m A → ((y : Identifier) → SchemeBelow m (B y)) → FactsBelow m F → Answer (GroupQ g (names ds) A B (names_block m few) ds) (m + few) F) →
        ((C : Assumptions) (m : ℕ) (F : List Fact) → AssumptionsBelow m C → FactsBelow m F → Answer (λ r. SignedHas (assumptions_put r C) ds) m F) →
        ((C : Assumptions) (m : ℕ) (F : List Fact) → n ≤ m → AssumptionsBelow m C → FactsBelow m F → Answer (λ r. Body (assumptions_put r C) r) m F) →
        Answer (ListQ ds Body A) n E
    check_list ds Body A n E b d better loc group signeds body = go (is_distinct (names ds))
      where
        go : Dec (IsDistinct (names ds)) → Answer (ListQ ds Body A) n E
        go (no never) = unsolvable (λ r u p. never p.listed.units.0)
        go (yes h) =
            let L = layout ds h in
            let start : AreSchemes ds A n E L.declared = record {
              below = λ y a i. absurd (L.are_closed y a i);
              inner = λ r u y a i. (let k = scheme_put_In r a (L.declared y) i in absurd (L.are_closed y k.0 k.1));
              declared = L.are_declared;
            } in
            same n E (λ r p. Stage-ListQ ds Body A L r p) (λ r p. ListQ-Stage ds Body A L r p)
            (check_stage ds L.own L.units A Body solve n better loc (names_bound (names ds)) (λ g B m F. group (names_bound (names ds)).0 g B m F) signeds body L.groups (λ x. false) L.order L.declared n E start (omega arith) b d)

    mutual
      -- every expression has an answer, under every problem
      pub check : (e : Expression) (A : Assumptions) (t : Monotype) (n : ℕ) (E : List Fact) → AssumptionsBelow n A → IsBelow n t → FactsBelow n E → Answer (λ r. Derives (assumptions_put r A) e (put r t)) n E
      check (Variable x) A t n E b c d = check_name solve A x t n E b c d (found A x)
      check (Constructor s) A t n E b c d = declared solve t s n E c d
      check (Literal l) A t n E b c d = same n E (λ r e. e ∙ put-lit r l) (λ r e. e ∙ sym (put-lit r l)) (equal solve t (literal_type l) n E c (lit-below n l) d)
      check (Apply f e) A t n E b c d =
          let m = suc n in
          let bA = below_more n m A (omega arith) b in
          let bv : IsBelow m (Var n) = Var-below m n (omega arith) in
          some_type {P = λ r v. Derives (assumptions_put r A) f (arrow v (put r t)) × Derives (assumptions_put r A) e v} n E d
          (λ v r q a p. (subst₂ (λ Γ u. Derives Γ f (arrow v u)) (assumptions_put-agree r q A (λ x z. sym (a x (b x z)))) (put-below n r q t a c) p.0, env_local (λ Γ. Derives Γ e v) A n b r q a p.1))
          (both m E (local (λ Γ v. Derives Γ e v) A (Var n) m bA bv)
          (check f A (arrow (Var n) t) m E bA (arrow-below m (Var n) t bv (IsBelow-more n m t (omega arith) c)) (FactsBelow-more n m E (omega arith) d))
          (λ n1 E1 l h. check e A (Var n) n1 E1 (below_more m n1 A l bA) (IsBelow-more m n1 (Var n) l bv) h))
      check (Lambda ps e) A t n E b c d = check_head ps (λ Γ u. Derives Γ e u) t A n E b c d (λ C u n1 E1. check e C u n1 E1)
      check (Let ds e) A t n E b c d =
          check_list ds (λ C r. Derives C e (put r t)) A n E b d
          (λ r C C' m p. Derives-more e C C' _ (λ x i. m x) p)
          (λ C r q a p. subst (Derives C e) (put-below n r q t a c) p)
          (λ few g B m F h s f. check_group ds g (names ds) A B (names_block m few) (m + few) F (below_more m (m + few) A (omega arith) h) (λ y a i. (let k = s y a i in omega arith)) (λ y. block-below m few (code y)) (FactsBelow-more m (m + few) F (omega arith) f))
          (λ C m F. check_signeds ds C m F)
          (λ C m F l h f. check e C t m F h (IsBelow-more n m t l c) f)
      check (If p e f) A t n E b c d =
          both n E (λ r q a h. (local (λ Γ v. Derives Γ e v) A t n b c r q a h.0, local (λ Γ v. Derives Γ f v) A t n b c r q a h.1)) (check p A bool n E b (bool-below n) d)
          (λ n1 E1 l1 h1. both n1 E1 (local (λ Γ v. Derives Γ f v) A t n1 (below_more n n1 A l1 b) (IsBelow-more n n1 t l1 c)) (check e A t n1 E1 (below_more n n1 A l1 b) (IsBelow-more n n1 t l1 c) h1)
          (λ n2 E2 l2 h2. check f A t n2 E2 (below_more n n2 A (omega arith) b) (IsBelow-more n n2 t (omega arith) c) h2))
      check (Case e cs) A t n E b c d =
          let m = suc n in
          let bA = below_more n m A (omega arith) b in
          let bv : IsBelow m (Var n) = Var-below m n (omega arith) in
          let ba = arrow-below m (Var n) t bv (IsBelow-more n m t (omega arith) c) in
          some_type {P = λ r v. Derives (assumptions_put r A) e v × DeriveClauses (assumptions_put r A) cs (arrow v (put r t))} n E d
          (λ v r q a p. (env_local (λ Γ. Derives Γ e v) A n b r q a p.0, subst₂ (λ Γ u. DeriveClauses Γ cs (arrow v u)) (assumptions_put-agree r q A (λ x z. sym (a x (b x z)))) (put-below n r q t a c) p.1))
          (both m E (local (λ Γ v. DeriveClauses Γ cs v) A (arrow (Var n) t) m bA ba)
          (check e A (Var n) m E bA bv (FactsBelow-more n m E (omega arith) d))
          (λ n1 E1 l h. check_clauses cs A (arrow (Var n) t) n1 E1 (below_more m n1 A l bA) (IsBelow-more m n1 (arrow (Var n) t) l ba) h))
      check (Tuple es) A t n E b c d =
          let k = expression_count es in
          let m = n + k in
          let ts = block n k in
          let bt : AreBelow m ts = block-below n k in
          let bA = below_more n m A (omega arith) b in
          some_block {P = λ r us. (put r t ≡ tuple k us) × DeriveAll (assumptions_put r A) es us 0} k n E d
          (λ r q us vs f g p. (sym (put-below n r q t f c) ∙ (p.0 ∙ ap (App (head.Tuple k)) (arguments-agree k us vs 0 (λ j l h. sym (g j (omega arith))))), DeriveAll-agree es _ us vs 0 (λ j l h. sym (g j (omega arith))) (env_local (λ Γ. DeriveAll Γ es us 0) A n b r q f p.1)))
          (both m E (DeriveAll-local es A ts 0 m bA bt)
          (same m E (λ r e. e ∙ ap (App (head.Tuple k)) (put-arguments r k ts 0)) (λ r e. e ∙ sym (ap (App (head.Tuple k)) (put-arguments r k ts 0)))
          (equal solve t (tuple k ts) m E (IsBelow-more n m t (omega arith) c) (arguments-below m k ts 0 bt) (FactsBelow-more n m E (omega arith) d)))
          (λ n1 E1 l h. check_all es A ts 0 n1 E1 (below_more m n1 A l bA) (AreBelow-more m n1 ts l bt) h))
      check (Listing es) A t n E b c d =
          let m = suc n in
          let bA = below_more n m A (omega arith) b in
          let bv : IsBelow m (Var n) = Var-below m n (omega arith) in
          some_type {P = λ r u. (put r t ≡ list u) × DeriveAll (assumptions_put r A) es (λ j. u) 0} n E d
          (λ u r q a p. (sym (put-below n r q t a c) ∙ p.0, env_local (λ Γ. DeriveAll Γ es (λ j. u) 0) A n b r q a p.1))
          (both m E (DeriveAll-local es A (λ j. Var n) 0 m bA (λ j. bv))
          (equal solve t (list (Var n)) m E (IsBelow-more n m t (omega arith) c) (λ a. ⊎_elim (λ i. bv a i) (λ i. absurd i)) (FactsBelow-more n m E (omega arith) d))
          (λ n1 E1 l h. check_all es A (λ j. Var n) 0 n1 E1 (below_more m n1 A l bA) (λ j. IsBelow-more m n1 (Var n) l bv) h))
      check (Typed e s) A t n E b c d =
          both n E (λ r q a p. (p.0, sym (put-below n r q t a c) ∙ p.1))
          (each (λ Γ v. Derives Γ e v) (Derives-put e) s A n E b d (λ v m F. check e A v m F))
          (λ n1 E1 l h. declared solve t s n1 E1 (IsBelow-more n n1 t l c) h)

      pub check_all : (es : Expressions) (A : Assumptions) (ts : ℕ → Monotype) (i : ℕ) (n : ℕ) (E : List Fact) → AssumptionsBelow n A → AreBelow n ts → FactsBelow n E → Answer (λ r. DeriveAll (assumptions_put r A) es (under r ts) i) n E
      check_all no_expression A ts i n E b c d = nothing n E d
      check_all (expression e es) A ts i n E b c d =
          both n E (DeriveAll-local es A ts (suc i) n b c) (check e A (ts i) n E b (c i) d) (λ n1 E1 l h. check_all es A ts (suc i) n1 E1 (below_more n n1 A l b) (AreBelow-more n n1 ts l c) h)

      pub check_clauses : (cs : Clauses) (A : Assumptions) (v : Monotype) (n : ℕ) (E : List Fact) → AssumptionsBelow n A → IsBelow n v → FactsBelow n E → Answer (λ r. DeriveClauses (assumptions_put r A) cs (put r v)) n E
      check_clauses no_clause A v n E b c d = nothing n E d
      check_clauses (clause ps gs ds cs) A v n E b c d =
          both n E (local (λ Γ w. DeriveClauses Γ cs w) A v n b c)
          (check_head ps (λ Γ u. HasLocal Γ ds (λ B. DerivedSchemes Γ ds B) (λ C. DeriveRightSides C gs u)) v A n E b c d
          (λ C u n1 E1 b1 c1 d1. check_list ds (λ Γ r. DeriveRightSides Γ gs (put r u)) C n1 E1 b1 d1
          (λ r Γ Γ' m p. DeriveRightSides-more gs Γ Γ' _ (λ x i. m x) p)
          (λ Γ r q a p. subst (DeriveRightSides Γ gs) (put-below n1 r q u a c1) p)
          (λ few g B m F h s f. check_group ds g (names ds) C B (names_block m few) (m + few) F (below_more m (m + few) C (omega arith) h) (λ y a i. (let k = s y a i in omega arith)) (λ y. block-below m few (code y)) (FactsBelow-more m (m + few) F (omega arith) f))
          (λ Γ m F. check_signeds ds Γ m F)
          (λ Γ m F l h f. check_parts gs Γ u m F h (IsBelow-more n1 m u l c1) f)))
          (λ n1 E1 l h. check_clauses cs A v n1 E1 (below_more n n1 A l b) (IsBelow-more n n1 v l c) h)

      pub check_parts : (gs : RightSides) (A : Assumptions) (u : Monotype) (n : ℕ) (E : List Fact) → AssumptionsBelow n A → IsBelow n u → FactsBelow n E → Answer (λ r. DeriveRightSides (assumptions_put r A) gs (put r u)) n E
      check_parts no_right_side A u n E b c d = nothing n E d
      check_parts (plain e gs) A u n E b c d =
          both n E (local (λ Γ v. DeriveRightSides Γ gs v) A u n b c) (check e A u n E b c d) (λ n1 E1 l h. check_parts gs A u n1 E1 (below_more n n1 A l b) (IsBelow-more n n1 u l c) h)
      check_parts (guarded p e gs) A u n E b c d =
          both n E (λ r q a h. (local (λ Γ v. Derives Γ e v) A u n b c r q a h.0, local (λ Γ v. DeriveRightSides Γ gs v) A u n b c r q a h.1)) (check p A bool n E b (bool-below n) d)
          (λ n1 E1 l1 h1. both n1 E1 (local (λ Γ v. DeriveRightSides Γ gs v) A u n1 (below_more n n1 A l1 b) (IsBelow-more n n1 u l1 c)) (check e A u n1 E1 (below_more n n1 A l1 b) (IsBelow-more n n1 u l1 c) h1)
          (λ n2 E2 l2 h2. check_parts gs A u n2 E2 (below_more n n2 A (omega arith) b) (IsBelow-more n n2 u (omega arith) c) h2))

      pub check_group : (D : Bindings) (g : Identifier → Bool) (xs : List Identifier) (A : Assumptions) (B : Identifier → Scheme) (τ : Identifier → Monotype) (n : ℕ) (E : List Fact) → AssumptionsBelow n A → ((y : Identifier) → SchemeBelow n (B y)) → AreBelow n τ → FactsBelow n E → Answer (GroupQ g xs A B τ D) n E
      check_group no_binding g xs A B τ n E b s c d = nothing n E d
      check_group (unsigned x cs D) g xs A B τ n E b s c d =
          both n E (GroupQ-local g xs A B τ D n b s c)
          (group_binding g x cs xs A B τ n E d (check_clauses cs (bind_all xs (within g B τ) A) (τ x) n E (within-below n g xs B τ A b s c) (c x) d))
          (λ n1 E1 l h. check_group D g xs A B τ n1 E1 (below_more n n1 A l b) (λ y a i. (let k = s y a i in omega arith)) (AreBelow-more n n1 τ l c) h)
      check_group (signed x t cs D) g xs A B τ n E b s c d = check_group D g xs A B τ n E b s c d
      check_group (matched k p cs D) g xs A B τ n E b s c d =
          let C = bind_all xs (within g B τ) A in
          let bC : AssumptionsBelow n C = within-below n g xs B τ A b s c in
          both n E (GroupQ-local g xs A B τ D n b s c)
          (group_matched g k p cs xs A B τ n E d
          (both n E (local (λ Γ v. DeriveClauses Γ cs v) C (τ k) n bC (c k)) (match solve p τ (τ k) n E c (c k) d)
          (λ n1 E1 l h. check_clauses cs C (τ k) n1 E1 (below_more n n1 C l bC) (IsBelow-more n n1 (τ k) l (c k)) h)))
          (λ n1 E1 l h. check_group D g xs A B τ n1 E1 (below_more n n1 A l b) (λ y a i. (let e = s y a i in omega arith)) (AreBelow-more n n1 τ l c) h)

      pub check_signeds : (D : Bindings) (C : Assumptions) (n : ℕ) (E : List Fact) → AssumptionsBelow n C → FactsBelow n E → Answer (λ r. SignedHas (assumptions_put r C) D) n E
      check_signeds no_binding C n E b d = nothing n E d
      check_signeds (unsigned x cs D) C n E b d = check_signeds D C n E b d
      check_signeds (matched k p cs D) C n E b d = check_signeds D C n E b d
      check_signeds (signed x s cs D) C n E b d =
          both n E (env_local (λ Γ. SignedHas Γ D) C n b) (each (λ Γ v. DeriveClauses Γ cs v) (DeriveClauses-put cs) s C n E b d (λ v m F. check_clauses cs C v m F))
          (λ n1 E1 l h. check_signeds D C n1 E1 (below_more n n1 C l b) h)
