-- Functions are opened.
use Rattle.std.proofs.Common.{◌≡◌, ℕ, ◌+◌, ◌-◌, ◌<◌, true, false, cond, nat_lt, List, [], ◌∷◌, ◌++◌, length, Result, Ok, Err, IsErrAnd, refl, sym, ap, ap₂, ◌∙◌, subst, arith}
use Rattle.std.proofs.lemmas.Bool.Decides.{nat_tests}
use Rattle.hm_types.specs.Types.{Var, put}
use Rattle.hm_types.specs.Monotypes.{Leaf, Mono, var, rigid}
use Rattle.hm_syntax.specs.Trees as tree
use Rattle.hm_syntax.specs.Lists.{patterns}
use Rattle.hm_typing.specs.Names.{Identifier, IsOneOf}
use Rattle.hm_typing.specs.Schemes.{Monotype, Free, Quantified, monomorphic}
use Rattle.hm_typing.specs.Assumptions.{bind, bind_all}
use Rattle.hm_typing.specs.Syntax.{Patterns, patterns_names, pattern_count, bool}
use Rattle.hm_typing.specs.Patterns.{arrows, MatchesAll}
use Rattle.hm_typing.specs.Problems.{Unifies, FactsBelow}
use Rattle.hm_typing.proofs.Types.{put-agree, put-put}
use Rattle.hm_typing.proofs.Solve.{put-below}
use Rattle.hm_typing.proofs.Local.{arrows-agree, MatchesAll-agree}
use Rattle.hm_unify.specs.Solving.{Solving}
use Rattle.hm_unify.specs.WellFormed.{IsWellFormed}
use Rattle.hm_unify.proofs.WellFormed.{well_formed_more}
use Rattle.hm_unify.specs.declared.faults.UnifyFault.{UnifyFault}
use Rattle.hm_unify.specs.declared.faults.UnifyFault.TheVariants.{Clash, Memory}
use Rattle.hm_infer_context.specs.Problems.{number, monotype, problem, bound, Refuses, given_more, new_at}
use Rattle.hm_infer_context.specs.Environments.{Assumed, slot, scheme_in, assumptions, AreAssumed, monomorphic_entries}
use Rattle.hm_infer_context.specs.Patterns.{Variable, names_of, HaveTypes, AreGiven, put_each, IsMatched, RefusesMatch}
use Rattle.hm_infer_context.specs.Functions.{IsOpened, RefusesOpening, Opened}
use Rattle.hm_names.specs.Syntax.{Known, patterns_of}
use Rattle.hm_infer_context.proofs.Leaves.{monotype-below}
use Rattle.hm_infer_context.proofs.States.{guess, guess_below, guess_new, guess_unifies, more_rest}
use Rattle.hm_infer_context.proofs.Outcomes.{SolvedBy}
use Rattle.hm_infer_context.proofs.MatchedForms.{AsksAll, count_is}
use Rattle.hm_infer_context.proofs.FoundNames.{assumed_later}

-- Variables of patterns, as assumptions

mono_leaf : (l : Leaf) → slot 0 l ≡ Free (number l)
mono_leaf (var n) = let e : nat_lt n 0 ≡ false = grind (arith, nat_tests) in let d : n - 0 ≡ n = omega arith in ap (λ b. cond b (Quantified n) (Free (number (var (n - 0))))) e ∙ ap (λ k. Free (number (var k))) d
mono_leaf (rigid n) = let e : nat_lt n 0 ≡ false = grind (arith, nat_tests) in let d : n - 0 ≡ n = omega arith in ap (λ b. cond b (Quantified n) (Free (number (rigid (n - 0))))) e ∙ ap (λ k. Free (number (rigid k))) d

pub mono_scheme : (t : Mono) → scheme_in (record { quantified = 0; body = t }) ≡ monomorphic (monotype t)
mono_scheme t = put-agree _ _ t (λ l i. ap Var (mono_leaf l)) ∙ sym (put-put (λ a. Var (Free a)) (λ l. Var (number l)) t)

pub bound_variables : (vs : List Variable) (τ : Identifier → Monotype) (es : List Assumed) → HaveTypes τ vs → assumptions (monomorphic_entries vs ++ es) ≡ bind_all (names_of vs) (λ x. monomorphic (τ x)) (assumptions es)
bound_variables [] τ es h = refl
bound_variables (v ∷ vs) τ es h = ap₂ (bind v.name) (mono_scheme v.ty ∙ ap monomorphic h.0) (bound_variables vs τ es h.1)

pub variables_assumed : (g : ℕ) (vs : List Variable) (es : List Assumed) → AreGiven g vs → AreAssumed g es → AreAssumed g (monomorphic_entries vs ++ es)
variables_assumed g [] es a b = b
variables_assumed g (v ∷ vs) es a b = (well_formed_more g (0 + g) v.ty (omega arith) a.0, variables_assumed g vs es a.1 b)

pub append_nothing : (xs : List Identifier) → xs ++ [] ≡ xs
append_nothing [] = refl
append_nothing (x ∷ xs) = ap (λ ys. x ∷ ys) (append_nothing xs)

-- the types from us, and then w
upto : ℕ → (ℕ → Monotype) → Monotype → ℕ → Monotype
upto k us w i = cond (nat_lt i k) (us i) w

upto_below : (k : ℕ) (us : ℕ → Monotype) (w : Monotype) (i : ℕ) → i < k → upto k us w i ≡ us i
unfolding upto
upto_below k us w i h = let e : nat_lt i k ≡ true = grind (arith, nat_tests) in ap (λ b. cond b (us i) w) e

upto_end : (k : ℕ) (us : ℕ → Monotype) (w : Monotype) → upto k us w k ≡ w
unfolding upto
upto_end k us w = let e : nat_lt k k ≡ false = grind (arith, nat_tests) in ap (λ b. cond b (us k) w) e

abbrev pub FunctionTaken : Mono → ℕ → ℕ → (ℕ → Monotype) → Type 0
FunctionTaken t g k r = put r (monotype t) ≡ arrows k (new_at g r) 0 (new_at g r k)

-- a guess of the parameters and the result
taken_guess : (t : Mono) (k : ℕ) (s : Solving) → FactsBelow (bound s) (problem s) → IsWellFormed s.given t → (r us : ℕ → Monotype) (w : Monotype) → Unifies r (problem s) → put r (monotype t) ≡ arrows k us 0 w →
    (q : ℕ → Monotype) × ((x : ℕ) → x < bound s → q x ≡ r x) × Unifies q (problem (given_more s (k + 1))) × FunctionTaken t s.given k q × ((i : ℕ) → i < k → new_at s.given q i ≡ us i) × (new_at s.given q k ≡ w)
taken_guess t k s b wt r us w u e =
    let q = guess s.given r (upto k us w) in
    let f : (x : ℕ) → x < bound s → q x ≡ r x = λ x h. guess_below s.given r (upto k us w) x h in
    let params : (i : ℕ) → i < k → new_at s.given q i ≡ us i = λ i h. guess_new s.given r (upto k us w) i ∙ upto_below k us w i h in
    let end : new_at s.given q k ≡ w = guess_new s.given r (upto k us w) k ∙ upto_end k us w in (
      q,
      f,
      guess_unifies s (k + 1) r (upto k us w) b u,
      sym (put-below (bound s) r q (monotype t) f (monotype-below s.given t wt)) ∙ (e ∙ (arrows-agree k us (new_at s.given q) 0 w (λ j l h. sym (params j (omega arith))) ∙ ap (arrows k (new_at s.given q) 0) (sym end))),
      params,
      end,
    )

abbrev pub RowMatch : Known → List tree.Pattern → ℕ → Solving → Solving → List Variable → Type 0
RowMatch known ps first s1 s2 vs = (τ : Identifier → Monotype) → HaveTypes τ [] → (τ' : Identifier → Monotype) × IsMatched (AsksAll known (patterns ps) false first 0) (patterns_names (patterns_of known (patterns ps))) s1 [] τ s2 vs τ'

pub opened_answers : (known : Known) (ps : List tree.Pattern) (t : Mono) (count first : ℕ) (s s1 s2 : Solving) (vs : List Variable) (es es' : List Assumed) → count ≡ length ps → first ≡ s.given → FactsBelow (bound s) (problem s) → IsWellFormed s.given t → AreAssumed s.given es →
    SolvedBy (FunctionTaken t s.given count) (given_more s (count + 1)) s1 → RowMatch known ps first s1 s2 vs → es' ≡ monomorphic_entries vs ++ es → IsOpened (patterns_of known (patterns ps)) (monotype t) (Var (var (first + count))) s es s2 es'
opened_answers known ps t count first s s1 s2 vs es es' c h b wt a i m e = record {
  types = M.0;
  added = monomorphic_entries vs;
  entries = e;
  assumed = ap assumptions e ∙ (bound_variables vs M.0 es M.1.typed ∙ ap (λ xs. bind_all xs (λ x. monomorphic (M.0 x)) (assumptions es)) named);
  given = subst (AreAssumed s2.given) (sym e) (variables_assumed s2.given vs es M.1.given (assumed_later s.given s2.given es (let g = i.grows in let j = M.1.grows in omega arith) a));
  result_given = (let g = i.grows in let j = M.1.grows in omega (arith, h));
  grows = (let g = i.grows in let j = M.1.grows in omega arith);
  below = M.1.below;
  sound = λ r u.
      let n = M.1.sound r u in
      let o = i.sound r n.0 in (
        more_rest s (count + 1) r o.0,
        (
          new_at s.given r,
          (
            o.1 ∙ (ap (λ k. arrows k (new_at s.given r) 0 (new_at s.given r count)) counted ∙ ap (λ g. arrows (pattern_count (patterns_of known (patterns ps))) (new_at s.given r) 0 (r (number (var (g + count))))) (sym h)),
            subst (λ g. MatchesAll (put_each r M.0) (patterns_of known (patterns ps)) (new_at g r) 0) h n.1,
          ),
        ),
      );
  complete = λ r ρ us w u d p.
      let G = taken_guess t count s b wt r us w u (d ∙ ap (λ k. arrows k us 0 w) (sym counted)) in
      let O = i.complete G.0 G.2 G.3 in
      let N = M.1.complete O.0 ρ O.2 (λ x o. absurd o) (MatchesAll-agree (patterns_of known (patterns ps)) ρ ρ us (λ j. O.0 (number (var (first + j)))) 0 (λ x o. refl)
      (λ j l k. sym (at_number O.0 G.0 O.1 j (let z = counted in omega arith) ∙ G.4 j (let z = counted in omega arith))) p) in (
        N.0,
        (λ x k. N.1 x (let g = i.grows in omega arith) ∙ (O.1 x (omega arith) ∙ G.1 x k)),
        N.2,
        (λ x o. N.3 x (subst (IsOneOf x) (sym named) o)),
        N.1 (number (var (first + count))) (let g = i.grows in omega (arith, h)) ∙ (O.1 (number (var (first + count))) (omega (arith, h)) ∙ (ap (λ g. G.0 (number (var (g + count)))) h ∙ G.5)),
      );
}
  where
    M : (τ' : Identifier → Monotype) × IsMatched (AsksAll known (patterns ps) false first 0) (patterns_names (patterns_of known (patterns ps))) s1 [] (λ x. bool) s2 vs τ'
    M = m (λ x. bool) tt

    named : names_of vs ≡ patterns_names (patterns_of known (patterns ps))
    named = M.1.names ∙ append_nothing (patterns_names (patterns_of known (patterns ps)))

    counted : count ≡ pattern_count (patterns_of known (patterns ps))
    counted = c ∙ sym (count_is known ps)

    at_number : (q p : ℕ → Monotype) → ((x : ℕ) → x < bound (given_more s (count + 1)) → q x ≡ p x) → (j : ℕ) → j < count → q (number (var (first + j))) ≡ new_at s.given p j
    at_number q p f j l = f (number (var (first + j))) (omega (arith, h)) ∙ ap (λ g. p (number (var (g + j)))) h

pub opened_refused_first : (known : Known) (ps : List tree.Pattern) (t : Mono) (count : ℕ) (s : Solving) (e : UnifyFault) → count ≡ length ps → FactsBelow (bound s) (problem s) → IsWellFormed s.given t →
    Refuses (FunctionTaken t s.given count) (given_more s (count + 1)) e → RefusesOpening (patterns_of known (patterns ps)) (monotype t) s e
opened_refused_first known ps t count s Clash c b wt i = λ r ρ us w u d p.
    let G = taken_guess t count s b wt r us w u (d ∙ ap (λ k. arrows k us 0 w) (count_is known ps ∙ sym c)) in
    i G.0 G.2 G.3
opened_refused_first known ps t count s Memory c b wt i = tt

pub opened_refused_second : (known : Known) (ps : List tree.Pattern) (t : Mono) (count first : ℕ) (s s1 : Solving) (e : UnifyFault) → count ≡ length ps → first ≡ s.given → FactsBelow (bound s) (problem s) → IsWellFormed s.given t →
    SolvedBy (FunctionTaken t s.given count) (given_more s (count + 1)) s1 → ((τ : Identifier → Monotype) → HaveTypes τ [] → RefusesMatch (AsksAll known (patterns ps) false first 0) s1 [] τ e) → RefusesOpening (patterns_of known (patterns ps)) (monotype t) s e
opened_refused_second known ps t count first s s1 Clash c h b wt i m = λ r ρ us w u d p.
    let z : count ≡ pattern_count (patterns_of known (patterns ps)) = c ∙ sym (count_is known ps) in
    let G = taken_guess t count s b wt r us w u (d ∙ ap (λ k. arrows k us 0 w) (sym z)) in
    let O = i.complete G.0 G.2 G.3 in
    m (λ x. bool) tt O.0 ρ O.2 (λ x o. absurd o) (MatchesAll-agree (patterns_of known (patterns ps)) ρ ρ us (λ j. O.0 (number (var (first + j)))) 0 (λ x o. refl)
    (λ j l k. sym (O.1 (number (var (first + j))) (omega (arith, h, z)) ∙ (ap (λ g. G.0 (number (var (g + j)))) h ∙ G.4 j (omega (arith, z))))) p)
opened_refused_second known ps t count first s s1 Memory c h b wt i m = tt

pub opening_passed : (ps : Patterns) (v : Monotype) (s s' : Solving) (es es' : List Assumed) (outcome : Result ℕ UnifyFault) (e : UnifyFault) → IsErrAnd outcome (λ y. y ≡ e) → RefusesOpening ps v s e → Opened ps v s es s' es' outcome
opening_passed ps v s s' es es' (Ok n) e i r = absurd i
opening_passed ps v s s' es es' (Err k) e i r = subst (RefusesOpening ps v s) (sym i) r
