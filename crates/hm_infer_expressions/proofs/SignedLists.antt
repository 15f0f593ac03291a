-- Binding lists with signatures: the first stage, in which the declared schemes are seen, and the end, where the bindings with signatures are checked.
use Rattle.std.proofs.Common.{◌≡◌, ℕ, ◌≤◌, Bool, true, false, cond, ◌&&◌, List, [], ◌∷◌, map, length, Option, None, Some, inl, inr, ⊎_elim, ◌↔◌, refl, sym, ap, ◌∙◌, subst, true≢false, arith}
use Rattle.std.proofs.lemmas.Slice.Eq.{bytes_eq-Decides}
use Rattle.hm_types.specs.Types.{put}
use Rattle.hm_syntax.specs.Names.{Identifier}
use Rattle.hm_syntax.specs.Trees.{Patterns, RightSide, Declaration, clause, data_declaration, newtype_declaration, synonym_declaration, signature, pattern_binding, Declarations, no_declarations, more_declarations}
use Rattle.hm_syntax.specs.Lists.{declarations}
use Rattle.hm_typing.specs.Names.{Identifier as Name, IsDistinct}
use Rattle.hm_typing.specs.Schemes.{Monotype}
use Rattle.hm_typing.specs.Assumptions.{Assumptions, Has, assumptions_put, bind_all}
use Rattle.hm_typing.specs.Mentions.{BindingsMention}
use Rattle.hm_typing.specs.Syntax as typed
use Rattle.hm_typing.specs.Syntax.{Bindings, Clauses, no_binding, unsigned, signed, matched, names}
use Rattle.hm_typing.specs.SecondForm.{DeriveClauses}
use Rattle.hm_typing.specs.Units.{IsUnsigned}
use Rattle.hm_typing.specs.Orders.{AreNumberedGroups, AreTestsOf, IsOrder, Layout}
use Rattle.hm_typing.specs.Problems.{FactsBelow}
use Rattle.hm_typing.proofs.Bridge.{signed_name}
use Rattle.hm_typing.proofs.Lists.{SignedHas, stage_last}
use Rattle.hm_typing.proofs.More.{DeriveClauses-more}
use Rattle.hm_typing.proofs.Numbering.{numbered}
use Rattle.hm_typing.proofs.Ordering.{layout_of, layout_tests}
use Rattle.hm_names.specs.Syntax.{Known, add_clause, bindings_of, bound_by, is_continued, name_of, patterns_of, right_sides_of, signature_of, where_of}
use Rattle.hm_names.specs.Texts.{same_text}
use Rattle.hm_names.specs.Faults.Lists.{has_patterns}
use Rattle.hm_infer_dependencies.specs.Groups.{node_name}
use Rattle.hm_unify.specs.Solving.{Solving}
use Rattle.hm_unify.specs.declared.faults.UnifyFault.{UnifyFault}
use Rattle.hm_unify.specs.declared.faults.UnifyFault.TheVariants.{Clash, Memory}
use Rattle.hm_infer_context.specs.Problems.{problem, bound, Refuses}
use Rattle.hm_infer_context.specs.Environments.{Assumed, AreAssumed, assumptions, Extends}
use Rattle.hm_infer_expressions.specs.Lists.{AreAlike, IsBound, RefusesList}
use Rattle.hm_infer_expressions.specs.SignedLists.{AtDeclared, BindsSigned, SignedClauseHas, SignedClausesHave}
use Rattle.hm_infer_expressions.specs.Stages.{Following, list_of}
use Rattle.hm_infer_context.proofs.FoundNames.{assumed_below, assumed_later}
use Rattle.hm_infer_expressions.proofs.ListSteps.{ListStage, alike, past_end}
use Rattle.hm_infer_expressions.proofs.OpenedForms.{written_list}
use Rattle.hm_infer_context.proofs.Outcomes.{SolvedBy, solved_same}
use Rattle.hm_infer_expressions.proofs.SignedSteps.{SignedAll}
use Rattle.hm_infer_expressions.proofs.Stages.{stage_listed, stage_start, to_stage}

-- The first stage

pub signed_start : (k : Known) (decls : List Declaration) (gs : List (List ℕ)) (n : ℕ) → IsDistinct (names (list_of k decls)) → AreNumberedGroups (list_of k decls) (node_name k (declarations decls)) n gs → (s : Solving) (es es1 : List Assumed) → BindsSigned (list_of k decls) es es1 → FactsBelow (bound s) (problem s) → ListStage k decls gs 0 s es s es1
signed_start k decls gs n d r s es es1 binds b =
    let ds = list_of k decls in
    let named = map (map (node_name k (declarations decls))) gs in
    let groups = numbered ds (node_name k (declarations decls)) n gs r in
    let L : Layout (list_of k decls) = layout_of ds d named groups in
    let seen = binds L.declared L.are_declared in
    record {
      layout = L;
      finished = λ x. false;
      schemes = L.declared;
      tests = L.groups;
      tests_are = layout_tests ds d named groups;
      order = L.order;
      stage = stage_start ds L (assumptions es) s b;
      sees = record {
        known = λ v x w c t. seen.1.1.inside v x w (⊎_elim (λ e. absurd (true≢false (sym e))) (λ i. (seen.1.0 x).1 i) c) t;
        others = λ v x w m t. seen.1.1.outside v x w (λ o. m (signed_name ds x ((seen.1.0 x).0 o))) t;
      };
    }

-- The bindings with signatures, declaration by declaration

-- a clause before others
abbrev clause_of : Known → Patterns → RightSide → Clauses → Clauses
clause_of k ps r cs = typed.clause (patterns_of k ps) (right_sides_of k r) (where_of k r) cs

-- a clause before the bindings of a list: it goes on the first, or it is a binding of its own
abbrev one_more : Known → Declarations → Identifier → Patterns → RightSide → Bindings → Bool → Bindings
one_more k all n ps r D b = cond b (add_clause (clause_of k ps r) D) (bound_by (name_of n) (signature_of n.text all) (clause_of k ps r typed.no_clause) D)

-- the binding that a declaration goes on
record GoesOn (k : Known) (all : Declarations) (x : List ℕ) (ds : Declarations) : Type 0 where
  name : Name
  clauses : Clauses
  others : Bindings
  is : bindings_of k all ds ≡ bound_by name (signature_of x all) clauses others

first_true : (a b : Bool) → (a && b) ≡ true → a ≡ true
first_true true b e = refl
first_true false b e = e

add_bound : (c : Clauses → Clauses) (x : Name) (o : Option Monotype) (cs : Clauses) (D : Bindings) → add_clause c (bound_by x o cs D) ≡ bound_by x o (c cs) D
add_bound c x None cs D = refl
add_bound c x (Some s) cs D = refl

goes_on : (k : Known) (all : Declarations) (x : List ℕ) (ps : Patterns) (ds : Declarations) → is_continued x ps ds ≡ true → GoesOn k all x ds
goes_on k all x ps no_declarations e = absurd (true≢false (sym e))
goes_on k all x ps (more_declarations (data_declaration n qs cs) ds) e = absurd (true≢false (sym e))
goes_on k all x ps (more_declarations (newtype_declaration n qs c) ds) e = absurd (true≢false (sym e))
goes_on k all x ps (more_declarations (synonym_declaration n qs t) ds) e = absurd (true≢false (sym e))
goes_on k all x ps (more_declarations (signature ns t) ds) e = absurd (true≢false (sym e))
goes_on k all x ps (more_declarations (pattern_binding l c p r) ds) e = absurd (true≢false (sym e))
goes_on k all x ps (more_declarations (clause n qs r) ds) e = at (goes_on k all n.text qs ds) (is_continued n.text qs ds) refl
  where
    same : n.text ≡ x
    same = sym ((bytes_eq-Decides x n.text).0 (first_true (same_text x n.text) (has_patterns ps && has_patterns qs) e))

    at : (is_continued n.text qs ds ≡ true → GoesOn k all n.text ds) → (b : Bool) → is_continued n.text qs ds ≡ b → GoesOn k all x (more_declarations (clause n qs r) ds)
    at next true h =
        let g = next h in record {
          name = g.name;
          clauses = clause_of k qs r g.clauses;
          others = g.others;
          is = ap (λ b. one_more k all n qs r (bindings_of k all ds) b) h
              ∙ (ap (add_clause (clause_of k qs r)) g.is ∙ (add_bound (clause_of k qs r) g.name (signature_of n.text all) g.clauses g.others ∙ ap (λ z. bound_by g.name (signature_of z all) (clause_of k qs r g.clauses) g.others) same));
        }
    at next false h = record {
      name = name_of n;
      clauses = clause_of k qs r typed.no_clause;
      others = bindings_of k all ds;
      is = ap (λ b. one_more k all n qs r (bindings_of k all ds) b) h ∙ ap (λ z. bound_by (name_of n) (signature_of z all) (clause_of k qs r typed.no_clause) (bindings_of k all ds)) same;
    }

module _ (C : Assumptions) (ps : typed.Patterns) (gs : typed.RightSides) (ws : Bindings) where
  abbrev One : Option Monotype → Type 0
  One o = AtDeclared o (λ t. DeriveClauses C (typed.clause ps gs ws typed.no_clause) t)

  -- a clause before those of a binding
  clause_added : (x : Name) (o : Option Monotype) (cs : Clauses) (D : Bindings) → SignedHas C (bound_by x o (typed.clause ps gs ws cs) D) ↔ (One o × SignedHas C (bound_by x o cs D))
  clause_added x None cs D = ((λ h. (tt, h)), (λ h. h.1))
  clause_added x (Some s) cs D = ((λ h. ((λ us. ((h.0 us).0, tt)), ((λ us. (h.0 us).1), h.1))), (λ h. ((λ us. ((h.0 us).0, h.1.0 us)), h.1.1)))

  -- a binding of one clause before others
  clause_alone : (x : Name) (o : Option Monotype) (D : Bindings) → SignedHas C (bound_by x o (typed.clause ps gs ws typed.no_clause) D) ↔ (One o × SignedHas C D)
  clause_alone x None D = ((λ h. (tt, h)), (λ h. h.1))
  clause_alone x (Some s) D = ((λ h. h), (λ h. h))

signed_cons : (k : Known) (all : Declarations) (C : Assumptions) (d : Declaration) (ds : Declarations) → SignedHas C (bindings_of k all (more_declarations d ds)) ↔ (SignedClauseHas k all C d × SignedHas C (bindings_of k all ds))
signed_cons k all C (data_declaration n qs cs) ds = ((λ h. (tt, h)), (λ h. h.1))
signed_cons k all C (newtype_declaration n qs c) ds = ((λ h. (tt, h)), (λ h. h.1))
signed_cons k all C (synonym_declaration n qs t) ds = ((λ h. (tt, h)), (λ h. h.1))
signed_cons k all C (signature ns t) ds = ((λ h. (tt, h)), (λ h. h.1))
signed_cons k all C (pattern_binding l c p r) ds = ((λ h. (tt, h)), (λ h. h.1))
signed_cons k all C (clause n ps r) ds = at (is_continued n.text ps ds) refl
  where
    at : (b : Bool) → is_continued n.text ps ds ≡ b → SignedHas C (one_more k all n ps r (bindings_of k all ds) (is_continued n.text ps ds)) ↔ (SignedClauseHas k all C (clause n ps r) × SignedHas C (bindings_of k all ds))
    at true h =
        let g = goes_on k all n.text ps ds h in
        let added = clause_added C (patterns_of k ps) (right_sides_of k r) (where_of k r) g.name (signature_of n.text all) g.clauses g.others in
        let here = ap (λ b. one_more k all n ps r (bindings_of k all ds) b) h ∙ (ap (add_clause (clause_of k ps r)) g.is ∙ add_bound (clause_of k ps r) g.name (signature_of n.text all) g.clauses g.others) in (
          (λ p. (let q = added.0 (subst (SignedHas C) here p) in (q.0, subst (SignedHas C) (sym g.is) q.1))),
          (λ p. subst (SignedHas C) (sym here) (added.1 (p.0, subst (SignedHas C) g.is p.1))),
        )
    at false h =
        let alone = clause_alone C (patterns_of k ps) (right_sides_of k r) (where_of k r) (name_of n) (signature_of n.text all) (bindings_of k all ds) in
        let here = ap (λ b. one_more k all n ps r (bindings_of k all ds) b) h in ((λ p. alone.0 (subst (SignedHas C) here p)), (λ p. subst (SignedHas C) (sym here) (alone.1 p)))

pub signed_each : (k : Known) (all : Declarations) (C : Assumptions) (ds : List Declaration) → SignedHas C (bindings_of k all (declarations ds)) ↔ SignedClausesHave k all C ds
signed_each k all C [] = ((λ h d o. absurd o), (λ h. tt))
signed_each k all C (d ∷ ds) =
    let one = signed_cons k all C d (declarations ds) in
    let rest = signed_each k all C ds in (
      (λ h e o. ⊎_elim (λ i. subst (SignedClauseHas k all C) (sym i) (one.0 h).0) (λ i. rest.0 (one.0 h).1 e i) o),
      (λ h. one.1 (h d (inl refl), rest.1 (λ e o. h e (inr o)))),
    )

-- The end

signed_more : (D : Bindings) (A A' : Assumptions) → ((x : Name) → BindingsMention x D → (t : Monotype) → Has A x t → Has A' x t) → SignedHas A D → SignedHas A' D
signed_more no_binding A A' m h = tt
signed_more (unsigned x cs D) A A' m h = signed_more D A A' (λ y j. m y (inr j)) h
signed_more (signed x s cs D) A A' m h = ((λ us. DeriveClauses-more cs A A' (put us s) (λ y j. m y (inl j)) (h.0 us)), signed_more D A A' (λ y j. m y (inr j)) h.1)
signed_more (matched x p cs D) A A' m h = signed_more D A A' (λ y j. m y (inr j)) h

groups_done : (k : Known) (decls : List Declaration) (gs : List (List ℕ)) (i : ℕ) (s0 s : Solving) (es0 es : List Assumed) → length gs ≤ i → (st : ListStage k decls gs i s0 es0 s es) → (y : Name) → IsUnsigned y (list_of k decls) → st.finished y ≡ true
groups_done k decls gs i s0 s es0 es l st = all_done st.tests (subst (λ z. AreTestsOf st.tests (map (map (node_name k (declarations decls))) z)) (past_end gs i l) st.tests_are) st.order
  where
    all_done : (tests : List (Name → Bool)) → AreTestsOf tests [] → IsOrder (list_of k decls) st.layout.own st.finished tests → (y : Name) → IsUnsigned y (list_of k decls) → st.finished y ≡ true
    all_done [] f o = o
    all_done (g ∷ tests) f o = absurd f

module _ (k : Known) (decls : List Declaration) (gs : List (List ℕ)) (i : ℕ) (s0 s : Solving) (es0 es : List Assumed) (l : length gs ≤ i) (a : AreAssumed s0.given es0) (st : ListStage k decls gs i s0 es0 s es) where
  abbrev Asked : (ℕ → Monotype) → Type 0
  Asked r = SignedHas (assumptions_put r (bind_all (names (list_of k decls)) st.schemes (assumptions es0))) (list_of k decls)

  are_alike : AreAlike (assumptions es) (bind_all (names (list_of k decls)) st.schemes (assumptions es0))
  are_alike = alike (list_of k decls) (assumptions es0) st.finished st.schemes es (groups_done k decls gs i s0 s es0 es l st) st.sees

  to_asked : (r : ℕ → Monotype) → SignedAll k (declarations decls) decls es r → Asked r
  to_asked r p = signed_more (list_of k decls) _ _ (λ x j t h. (are_alike r x (written_list k (declarations decls) (declarations decls) x j) t).0 h) ((signed_each k (declarations decls) (assumptions_put r (assumptions es)) decls).1 p)

  from_asked : (r : ℕ → Monotype) → Asked r → SignedAll k (declarations decls) decls es r
  from_asked r p = (signed_each k (declarations decls) (assumptions_put r (assumptions es)) decls).0 (signed_more (list_of k decls) _ _ (λ x j t h. (are_alike r x (written_list k (declarations decls) (declarations decls) x j) t).1 h) p)

  pub signed_end : (s1 : Solving) (es1 : List Assumed) → es1 ≡ es → AreAssumed s.given es → Extends es0 es → SolvedBy (SignedAll k (declarations decls) decls es) s s1 → IsBound (list_of k decls) s0 es0 s1 es1
  signed_end s1 es1 e b x solved =
      subst (IsBound (list_of k decls) s0 es0 s1) (sym e)
      (record {
        schemes = st.schemes;
        added = x.0;
        entries = x.1;
        assumed = are_alike;
        given = assumed_later s.given s1.given es (let g = solved.grows in omega arith) b;
        listed = stage_listed (list_of k decls) st.layout (assumptions es0) st.finished st.schemes s0 s s1 (assumed_below s0.given es0 a) st.stage (groups_done k decls gs i s0 s es0 es l st)
            (solved_same {P = SignedAll k (declarations decls) decls es} {Q = Asked} s s1 to_asked from_asked solved);
      })

  pub signed_end_refused : (e : UnifyFault) → Refuses (SignedAll k (declarations decls) decls es) s e → RefusesList (list_of k decls) s0 es0 e
  signed_end_refused Memory n = tt
  signed_end_refused Clash n = λ r u B' d.
      let ds = list_of k decls in
      let A = assumptions es0 in
      let follows = Following (bind_all (names ds) B' (assumptions_put r A)) in
      let b = st.stage.complete r u (bind_all (names ds) B' (assumptions_put r A)) (to_stage ds st.layout A r B' d) in
      let c = stage_last ds st.layout.own st.layout.units A follows st.finished st.schemes (groups_done k decls gs i s0 s es0 es l st) st.stage.schemes.declared b.0 b.3 in
      n b.0 b.2 (from_asked b.0 c.0)
