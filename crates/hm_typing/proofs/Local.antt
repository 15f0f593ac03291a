-- Questions ask only of the variables below a bound, and of the types that they use.
use Rattle.std.proofs.Common.{◌≡◌, ℕ, zero, suc, List, [], ◌∷◌, ◌++◌, Bool, true, false, cond, nat_lt, inl, inr, refl, sym, ap, ap₂, ◌∙◌, subst, ◌+◌, ◌<◌, ◌≤◌, max, arith}
use Rattle.std.proofs.lemmas.Bool.Decides.{nat_tests}
use Rattle.hm_types.specs.Types.{Var, more, InArgs, put}
use Rattle.hm_typing.specs.Names.{IsOneOf, Identifier}
use Rattle.hm_typing.specs.Schemes.{Monotype, arrow}
use Rattle.hm_typing.specs.Assumptions.{Assumptions}
use Rattle.hm_typing.specs.Syntax.{LiteralKind, Integer, Character, Text, Pattern, VariablePattern, AsPattern, ConstructorPattern, LiteralPattern, WildcardPattern, TuplePattern, ListPattern, LazyPattern, Patterns, no_pattern, pattern, Expressions, no_expression, expression, bool, literal_type, pattern_names, patterns_names, pattern_count, expression_count}
use Rattle.hm_typing.specs.Patterns.{arguments, arrows, Matches, MatchesAll}
use Rattle.hm_typing.specs.SecondForm.{Derives, DeriveAll}
use Rattle.hm_typing.specs.Problems.{Fact, IsBelow, FactsBelow, Answer}
use Rattle.hm_typing.proofs.Types.{In-put}
use Rattle.hm_typing.proofs.Solve.{same, some_types}
use Rattle.hm_typing.proofs.Names.{code, by_number, by_number_code}

-- us and vs agree from i on, for k
abbrev pub AgreeOn : ℕ → ℕ → (ℕ → Monotype) → (ℕ → Monotype) → Type 0
AgreeOn i k us vs = (j : ℕ) → i ≤ j → j < i + k → us j ≡ vs j

pub agree_first : (i k : ℕ) (us vs : ℕ → Monotype) → AgreeOn i (suc k) us vs → us i ≡ vs i
agree_first i k us vs a = a i (omega arith) (omega arith)

pub agree_rest : (i k : ℕ) (us vs : ℕ → Monotype) → AgreeOn i (suc k) us vs → AgreeOn (suc i) k us vs
agree_rest i k us vs a j l h = a j (omega arith) (omega arith)

pub arrows-agree : (k : ℕ) (us vs : ℕ → Monotype) (i : ℕ) (t : Monotype) → AgreeOn i k us vs → arrows k us i t ≡ arrows k vs i t
arrows-agree zero us vs i t a = refl
arrows-agree (suc k) us vs i t a = ap₂ arrow (agree_first i k us vs a) (arrows-agree k us vs (suc i) t (agree_rest i k us vs a))

pub arguments-agree : (k : ℕ) (us vs : ℕ → Monotype) (i : ℕ) → AgreeOn i k us vs → arguments k us i ≡ arguments k vs i
arguments-agree zero us vs i a = refl
arguments-agree (suc k) us vs i a = ap₂ more (agree_first i k us vs a) (arguments-agree k us vs (suc i) (agree_rest i k us vs a))

pub IsOneOf-left : (x : Identifier) (xs ys : List Identifier) → IsOneOf x xs → IsOneOf x (xs ++ ys)
IsOneOf-left x [] ys o = absurd o
IsOneOf-left x (z ∷ xs) ys (inl e) = inl e
IsOneOf-left x (z ∷ xs) ys (inr o) = inr (IsOneOf-left x xs ys o)

pub IsOneOf-right : (x : Identifier) (xs ys : List Identifier) → IsOneOf x ys → IsOneOf x (xs ++ ys)
IsOneOf-right x [] ys o = o
IsOneOf-right x (z ∷ xs) ys o = inr (IsOneOf-right x xs ys o)

mutual
  pub Matches-agree : (p : Pattern) (τ ρ : Identifier → Monotype) (t : Monotype) → ((x : Identifier) → IsOneOf x (pattern_names p) → τ x ≡ ρ x) → Matches τ p t → Matches ρ p t
  Matches-agree (VariablePattern x) τ ρ t a m = m ∙ a x (inl refl)
  Matches-agree (AsPattern x p) τ ρ t a m = (m.0 ∙ a x (inl refl), Matches-agree p τ ρ t (λ y o. a y (inr o)) m.1)
  Matches-agree (ConstructorPattern s ps) τ ρ t a m = (m.0, (m.1.0, MatchesAll-agree ps τ ρ m.0 m.0 0 a (λ j l h. refl) m.1.1))
  Matches-agree (LiteralPattern l) τ ρ t a m = m
  Matches-agree WildcardPattern τ ρ t a m = m
  Matches-agree (TuplePattern ps) τ ρ t a m = (m.0, (m.1.0, MatchesAll-agree ps τ ρ m.0 m.0 0 a (λ j l h. refl) m.1.1))
  Matches-agree (ListPattern ps) τ ρ t a m = (m.0, (m.1.0, MatchesAll-agree ps τ ρ _ _ 0 a (λ j l h. refl) m.1.1))
  Matches-agree (LazyPattern p) τ ρ t a m = Matches-agree p τ ρ t a m

  pub MatchesAll-agree : (ps : Patterns) (τ ρ : Identifier → Monotype) (us vs : ℕ → Monotype) (i : ℕ) → ((x : Identifier) → IsOneOf x (patterns_names ps) → τ x ≡ ρ x) → AgreeOn i (pattern_count ps) us vs → MatchesAll τ ps us i → MatchesAll ρ ps vs i
  MatchesAll-agree no_pattern τ ρ us vs i a b m = tt
  MatchesAll-agree (pattern p ps) τ ρ us vs i a b m = (
    subst (Matches ρ p) (agree_first i (pattern_count ps) us vs b) (Matches-agree p τ ρ (us i) (λ x o. a x (IsOneOf-left x (pattern_names p) (patterns_names ps) o)) m.0),
    MatchesAll-agree ps τ ρ us vs (suc i) (λ x o. a x (IsOneOf-right x (pattern_names p) (patterns_names ps) o)) (agree_rest i (pattern_count ps) us vs b) m.1,
  )

pub DeriveAll-agree : (es : Expressions) (A : Assumptions) (us vs : ℕ → Monotype) (i : ℕ) → AgreeOn i (expression_count es) us vs → DeriveAll A es us i → DeriveAll A es vs i
DeriveAll-agree no_expression A us vs i b m = tt
DeriveAll-agree (expression e es) A us vs i b m = (subst (Derives A e) (agree_first i (expression_count es) us vs b) m.0, DeriveAll-agree es A us vs (suc i) (agree_rest i (expression_count es) us vs b) m.1)

-- Fresh types, for the first k of a family

abbrev pub block : ℕ → ℕ → ℕ → Monotype
block n k j = cond (nat_lt j k) (Var (n + j)) bool

pub put-block : (n k : ℕ) (r : ℕ → Monotype) (j : ℕ) → j < k → put r (block n k j) ≡ r (n + j)
put-block n k r j h =
    let e : nat_lt j k ≡ true = grind (arith, nat_tests) in
    ap (λ b. put r (cond b (Var (n + j)) bool)) e

pub bool-below : (n : ℕ) → IsBelow n bool
bool-below n a i = absurd i

pub block-below : (n k j : ℕ) → IsBelow (n + k) (block n k j)
block-below n k j = at (nat_lt j k) refl
  where
    at : (b : Bool) → nat_lt j k ≡ b → IsBelow (n + k) (cond b (Var (n + j)) bool)
    at true e = λ a i. subst (λ c. c < n + k) (sym i) (below e)
      where
        below : nat_lt j k ≡ true → n + j < n + k
        below e = grind (arith, nat_tests)
    at false e = bool-below (n + k)

-- the same, for the types of names
abbrev pub names_block : ℕ → ℕ → Identifier → Monotype
names_block n k x = block n k (code x)

-- for some types, of which only the first k matter
pub some_block : {P : (ℕ → Monotype) → (ℕ → Monotype) → Type 0} (k n : ℕ) (E : List Fact) → FactsBelow n E →
    ((r q us vs : ℕ → Monotype) → ((x : ℕ) → x < n → q x ≡ r x) → ((j : ℕ) → j < k → vs j ≡ us j) → P r us → P q vs) →
    Answer (λ r. P r (λ j. put r (block n k j))) (n + k) E → Answer (λ r. (us : ℕ → Monotype) × P r us) n E
some_block {P} k n E b l a =
    some_types {P = P} k n E b l (same (n + k) E (λ r p. l r r _ _ (λ x h. refl) (λ j h. sym (put-block n k r j h)) p) (λ r p. l r r _ _ (λ x h. refl) (λ j h. put-block n k r j h) p) a)

-- the same for the types of names, of which only those with a number below k matter
pub some_names : {P : (ℕ → Monotype) → (Identifier → Monotype) → Type 0} (k n : ℕ) (E : List Fact) → FactsBelow n E →
    ((r q : ℕ → Monotype) (us vs : Identifier → Monotype) → ((x : ℕ) → x < n → q x ≡ r x) → ((x : Identifier) → code x < k → vs x ≡ us x) → P r us → P q vs) →
    Answer (λ r. P r (λ x. put r (names_block n k x))) (n + k) E → Answer (λ r. (us : Identifier → Monotype) × P r us) n E
some_names {P} k n E b l a =
    same n E (λ r p. ((λ x. p.0 (code x)), p.1)) (λ r p. (by_number p.0, l r r p.0 _ (λ x h. refl) (λ x h. by_number_code p.0 x) p.1))
    (some_block {P = λ r us. P r (λ x. us (code x))} k n E b (λ r q us vs f g p. l r q _ _ f (λ x h. g (code x) h) p) a)

-- a bound of names
pub names_bound : (xs : List Identifier) → (k : ℕ) × ((x : Identifier) → IsOneOf x xs → code x < k)
names_bound [] = (0, λ x o. absurd o)
names_bound (y ∷ ys) = let p = names_bound ys in (max (suc (code y)) p.0, λ x o. elim o [ inl e ↦ subst (λ z. code z < max (suc (code y)) p.0) (sym e) (omega arith) | inr o ↦ (let h = p.1 x o in omega arith) ])

-- the types of a family with a substitution in them
pub arrows-below : (n k : ℕ) (ts : ℕ → Monotype) (i : ℕ) (u : Monotype) → ((j : ℕ) → IsBelow n (ts j)) → IsBelow n u → IsBelow n (arrows k ts i u)
arrows-below n zero ts i u b c a h = c a h
arrows-below n (suc k) ts i u b c a (inl h) = b i a h
arrows-below n (suc k) ts i u b c a (inr (inl h)) = arrows-below n k ts (suc i) u b c a h
arrows-below n (suc k) ts i u b c a (inr (inr h)) = absurd h

pub arguments-below : (n k : ℕ) (ts : ℕ → Monotype) (i : ℕ) → ((j : ℕ) → IsBelow n (ts j)) → (a : ℕ) → InArgs a (arguments k ts i) → a < n
arguments-below n zero ts i b a h = absurd h
arguments-below n (suc k) ts i b a (inl h) = b i a h
arguments-below n (suc k) ts i b a (inr h) = arguments-below n k ts (suc i) b a h

pub lit-below : (n : ℕ) (l : LiteralKind) → IsBelow n (literal_type l)
lit-below n Integer a i = absurd i
lit-below n Character a i = absurd i
lit-below n Text a (inl i) = absurd i
lit-below n Text a (inr i) = absurd i

pub fresh-below : (n k : ℕ) (s : Monotype) → IsBelow k s → IsBelow (n + k) (put (λ i. Var (n + i)) s)
fresh-below n k s b a i =
    let h = In-put (λ j. Var (n + j)) a s i in
    let l = b h.0 h.1 in
    subst (λ c. c < n + k) (sym h.2) (omega arith)
