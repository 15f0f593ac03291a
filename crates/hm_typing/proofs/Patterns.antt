-- Patterns are checked.
use Rattle.hm_types.specs.declared.Head.TheVariants as head
use Rattle.std.proofs.Common.{◌≡◌, ℕ, suc, List, ◌⊎◌, ⊎_elim, refl, sym, ap, ◌∙◌, subst, ◌+◌, ◌≤◌, arith}
use Rattle.hm_types.specs.Types.{Var, App, put}
use Rattle.hm_typing.specs.Names.{Identifier}
use Rattle.hm_typing.specs.Schemes.{Monotype}
use Rattle.hm_typing.specs.Syntax.{Pattern, VariablePattern, AsPattern, ConstructorPattern, LiteralPattern, WildcardPattern, TuplePattern, ListPattern, LazyPattern, Patterns, no_pattern, pattern, literal_type, pattern_count}
use Rattle.hm_typing.specs.Patterns.{tuple, list, arrows, Matches, MatchesAll}
use Rattle.hm_typing.specs.Problems.{Fact, Unifies, IsBelow, FactsBelow, MostGeneralUnifier, Answer, IsLocal}
use Rattle.hm_typing.proofs.Types.{put-agree, put-put}
use Rattle.hm_typing.proofs.Put.{put-arrows, put-arguments, put-lit}
use Rattle.hm_typing.proofs.Solve.{FactsBelow-more, put-below, same, both, some_types, some_type, nothing, equal}
use Rattle.hm_typing.proofs.Check.{IsBelow-more, Var-below}
use Rattle.hm_typing.proofs.Local.{arrows-agree, arguments-agree, Matches-agree, MatchesAll-agree, block, block-below, some_block, arrows-below, arguments-below, lit-below, fresh-below}
use Rattle.hm_typing.proofs.Variables.{vars_bound}

-- a family of types below n
abbrev pub AreBelow : {I : Type 0} → ℕ → (I → Monotype) → Type 0
AreBelow {I} n ts = (j : I) → IsBelow n (ts j)

pub AreBelow-more : {I : Type 0} (n m : ℕ) (ts : I → Monotype) → n ≤ m → AreBelow n ts → AreBelow m ts
AreBelow-more n m ts l b j = IsBelow-more n m (ts j) l (b j)

abbrev pub under : {I : Type 0} → (ℕ → Monotype) → (I → Monotype) → I → Monotype
under r ts j = put r (ts j)

pub Matches-local : (p : Pattern) (τ : Identifier → Monotype) (t : Monotype) (n : ℕ) → AreBelow n τ → IsBelow n t → IsLocal n (λ r. Matches (under r τ) p (put r t))
Matches-local p τ t n b c r q a m = subst (Matches (under q τ) p) (put-below n r q t a c) (Matches-agree p (under r τ) (under q τ) _ (λ x o. put-below n r q (τ x) a (b x)) m)

pub MatchesAll-local : (ps : Patterns) (τ : Identifier → Monotype) (ts : ℕ → Monotype) (i n : ℕ) → AreBelow n τ → AreBelow n ts → IsLocal n (λ r. MatchesAll (under r τ) ps (under r ts) i)
MatchesAll-local ps τ ts i n b c r q a m = MatchesAll-agree ps (under r τ) (under q τ) _ _ i (λ x o. put-below n r q (τ x) a (b x)) (λ j l h. put-below n r q (ts j) a (c j)) m

module _ (solve : (E : List Fact) → MostGeneralUnifier E ⊎ ((r : ℕ → Monotype) → Unifies r E → ⊥)) where
  -- a declared type at an instance
  pub declared : (t s : Monotype) (n : ℕ) (E : List Fact) → IsBelow n t → FactsBelow n E → Answer (λ r. (us : ℕ → Monotype) × (put r t ≡ put us s)) n E
  declared t s n E b d =
      let w = vars_bound s in
      let m = n + w.0 in
      some_types {P = λ r us. put r t ≡ put us s} w.0 n E d
      (λ r q us vs f g e. sym (put-below n r q t f b) ∙ (e ∙ put-agree us vs s (λ i h. sym (g i (w.1 i h)))))
      (same m E (λ r e. e ∙ put-put r (λ i. Var (n + i)) s) (λ r e. e ∙ sym (put-put r (λ i. Var (n + i)) s))
      (equal solve t (put (λ i. Var (n + i)) s) m E (IsBelow-more n m t (omega arith) b) (fresh-below n w.0 s w.1) (FactsBelow-more n m E (omega arith) d)))

  mutual
    pub match : (p : Pattern) (τ : Identifier → Monotype) (t : Monotype) (n : ℕ) (E : List Fact) → AreBelow n τ → IsBelow n t → FactsBelow n E → Answer (λ r. Matches (under r τ) p (put r t)) n E
    match (VariablePattern x) τ t n E b c d = equal solve t (τ x) n E c (b x) d
    match (AsPattern x p) τ t n E b c d = both n E (Matches-local p τ t n b c) (equal solve t (τ x) n E c (b x) d) (λ n1 E1 l s. match p τ t n1 E1 (AreBelow-more n n1 τ l b) (IsBelow-more n n1 t l c) s)
    match (ConstructorPattern s ps) τ t n E b c d =
        let k = pattern_count ps in
        let m = n + k in
        let ts = block n k in
        let bt : AreBelow m ts = block-below n k in
        let bτ : AreBelow m τ = AreBelow-more n m τ (omega arith) b in
        let bu : IsBelow m (arrows k ts 0 t) = arrows-below m k ts 0 t bt (IsBelow-more n m t (omega arith) c) in
        some_block {P = λ r us. ((vs : ℕ → Monotype) × (arrows k us 0 (put r t) ≡ put vs s)) × MatchesAll (under r τ) ps us 0} k n E d
        (λ r q us vs f g p. ((p.0.0, arrows-agree k vs us 0 (put q t) (λ j l h. g j (omega arith)) ∙ (ap (arrows k us 0) (sym (put-below n r q t f c)) ∙ p.0.1)), MatchesAll-agree ps _ _ us vs 0 (λ x o. put-below n r q (τ x) f (b x)) (λ j l h. sym (g j (omega arith))) p.1))
        (both m E (MatchesAll-local ps τ ts 0 m bτ bt)
        (same m E (λ r p. (p.0, sym (put-arrows r k ts 0 t) ∙ p.1)) (λ r p. (p.0, put-arrows r k ts 0 t ∙ p.1)) (declared (arrows k ts 0 t) s m E bu (FactsBelow-more n m E (omega arith) d)))
        (λ n1 E1 l e. match_all ps τ ts 0 n1 E1 (AreBelow-more m n1 τ l bτ) (AreBelow-more m n1 ts l bt) e))
    match (LiteralPattern l) τ t n E b c d = same n E (λ r e. e ∙ put-lit r l) (λ r e. e ∙ sym (put-lit r l)) (equal solve t (literal_type l) n E c (lit-below n l) d)
    match WildcardPattern τ t n E b c d = nothing n E d
    match (TuplePattern ps) τ t n E b c d =
        let k = pattern_count ps in
        let m = n + k in
        let ts = block n k in
        let bt : AreBelow m ts = block-below n k in
        let bτ : AreBelow m τ = AreBelow-more n m τ (omega arith) b in
        some_block {P = λ r us. (put r t ≡ tuple k us) × MatchesAll (under r τ) ps us 0} k n E d
        (λ r q us vs f g p. (sym (put-below n r q t f c) ∙ (p.0 ∙ ap (App (head.Tuple k)) (arguments-agree k us vs 0 (λ j l h. sym (g j (omega arith))))), MatchesAll-agree ps _ _ us vs 0 (λ x o. put-below n r q (τ x) f (b x)) (λ j l h. sym (g j (omega arith))) p.1))
        (both m E (MatchesAll-local ps τ ts 0 m bτ bt)
        (same m E (λ r e. e ∙ ap (App (head.Tuple k)) (put-arguments r k ts 0)) (λ r e. e ∙ sym (ap (App (head.Tuple k)) (put-arguments r k ts 0)))
        (equal solve t (tuple k ts) m E (IsBelow-more n m t (omega arith) c) (arguments-below m k ts 0 bt) (FactsBelow-more n m E (omega arith) d)))
        (λ n1 E1 l e. match_all ps τ ts 0 n1 E1 (AreBelow-more m n1 τ l bτ) (AreBelow-more m n1 ts l bt) e))
    match (ListPattern ps) τ t n E b c d =
        let v : IsBelow (suc n) (Var n) = Var-below (suc n) n (omega arith) in
        let bτ : AreBelow (suc n) τ = AreBelow-more n (suc n) τ (omega arith) b in
        some_type {P = λ r u. (put r t ≡ list u) × MatchesAll (under r τ) ps (λ j. u) 0} n E d
        (λ u r q a p. (sym (put-below n r q t a c) ∙ p.0, MatchesAll-agree ps _ _ _ _ 0 (λ x o. put-below n r q (τ x) a (b x)) (λ j l h. refl) p.1))
        (both (suc n) E (MatchesAll-local ps τ (λ j. Var n) 0 (suc n) bτ (λ j. v))
        (equal solve t (list (Var n)) (suc n) E (IsBelow-more n (suc n) t (omega arith) c) (λ a. ⊎_elim (λ i. v a i) (λ i. absurd i)) (FactsBelow-more n (suc n) E (omega arith) d))
        (λ n1 E1 l e. match_all ps τ (λ j. Var n) 0 n1 E1 (AreBelow-more (suc n) n1 τ l bτ) (λ j. IsBelow-more (suc n) n1 (Var n) l v) e))
    match (LazyPattern p) τ t n E b c d = match p τ t n E b c d

    pub match_all : (ps : Patterns) (τ : Identifier → Monotype) (ts : ℕ → Monotype) (i : ℕ) (n : ℕ) (E : List Fact) → AreBelow n τ → AreBelow n ts → FactsBelow n E → Answer (λ r. MatchesAll (under r τ) ps (under r ts) i) n E
    match_all no_pattern τ ts i n E b c d = nothing n E d
    match_all (pattern p ps) τ ts i n E b c d =
        both n E (MatchesAll-local ps τ ts (suc i) n b c) (match p τ (ts i) n E b (c i) d) (λ n1 E1 l s. match_all ps τ ts (suc i) n1 E1 (AreBelow-more n n1 τ l b) (AreBelow-more n n1 ts l c) s)
