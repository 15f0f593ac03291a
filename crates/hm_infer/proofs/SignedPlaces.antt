-- The places that are found are those of the signed names that are type faults.
use Rattle.std.proofs.Common.{◌≡◌, ℕ, zero, suc, ◌<◌, ◌≤◌, Bool, true, false, List, [], ◌∷◌, drop, length, map, get_or, Option, Some, Contains, inl, inr, ◌⊎◌, ⊎_elim, refl, sym, ap, ◌∙◌, subst, arith, true≢false}
use Rattle.std.specs.List.{slice_get}
use Rattle.std.proofs.lemmas.Option.{get_or_from_slice_get, slice_get_within}
use native.Mathlib.Decide.{ℕ_discrete}
use Rattle.hm_typing.specs.Names.{Identifier as Name, local, IsOneOf, IsDistinct}
use Rattle.hm_typing.specs.Assumptions.{Assumptions, bind_all}
use Rattle.hm_typing.specs.Mentions.{RightSidesMention, BindingsMention}
use Rattle.hm_typing.specs.Orders.{AreNumberedGroups, AreTestsOf, IsOrder}
use Rattle.hm_typing.specs.Syntax as typed
use Rattle.hm_typing.specs.Syntax.{names}
use Rattle.hm_typing.specs.Units.{BindingMentions, IsSigned, IsUnsigned}
use Rattle.hm_typing.specs.Verdicts.{IsTypeFault}
use Rattle.hm_typing.proofs.Bridge.{one_kind}
use Rattle.hm_typing.proofs.Faults.{SignedOf}
use Rattle.hm_syntax.specs.Trees.{Declaration, data_declaration, newtype_declaration, synonym_declaration, signature, clause, pattern_binding, Declarations}
use Rattle.hm_syntax.specs.Lists.{declarations}
use Rattle.hm_names.specs.Syntax.{Known, name_of, patterns_of, right_sides_of, where_of}
use Rattle.hm_infer_dependencies.proofs.Mentioned.{patterns_among, right_side_same}
use Rattle.hm_infer_dependencies.proofs.Named.{names_fit, fit_back, fit_variable, names_unsigned, place_of, at_place}
use Rattle.hm_infer_dependencies.proofs.Reached.{names_long, never_right}
use Rattle.hm_infer_dependencies.specs.Groups.{node_name, node_names}
use Rattle.hm_infer_dependencies.specs.Nodes.{list_nodes}
use Rattle.hm_infer_dependencies.specs.References.{DeclarationRefers}
use Rattle.hm_names_keys.specs.Variables.{Variable, identifier}
use Rattle.hm_infer_dependencies.specs.Walks.{IsNodeWith}
use Rattle.hm_infer_expressions.specs.Dependences.{IsReferred, TellsNodes}
use Rattle.hm_infer_context.specs.Environments.{Assumed, AreAssumed, assumptions}
use Rattle.hm_infer.specs.JudgedUnits.{UnitsJudged}
use Rattle.hm_infer.specs.SignedFaults.{AreSignedFaults, BeginsRun, InRun, IsFaultAt, Refuses, Waits, goes_on}
use Rattle.hm_infer_expressions.specs.SignedLists.{SignedClauseHas}
use Rattle.hm_infer_expressions.specs.Stages.{IsListFound, list_of}
use Rattle.hm_infer.proofs.FirstTold.{AreByText}
use Rattle.hm_infer_expressions.proofs.ListSteps.{past_end}
use Rattle.hm_infer_expressions.proofs.OpenedForms.{written_list}
use Rattle.hm_infer_expressions.proofs.PrincipalLists.{closed_assumptions}
use Rattle.hm_infer.proofs.SignedClauses.{DeclarationMentions, IsClauseOf, before_named, clauses_have, clauses_together, first_clause, mention_at, mention_from, named_along, search, signed_from}
use Rattle.hm_infer.proofs.SignedVerdicts.{fault_free, fault_refused, schemes_closed, signed_alike, signed_fault}

opposite : {X : Type 0} {b : Bool} → b ≡ true → b ≡ false → X
opposite e f = absurd (true≢false (sym e ∙ f))

off : (b : Bool) → (b ≡ true → ⊥) → b ≡ false
off true f = absurd (f refl)
off false f = refl

at_index : (ds : List Declaration) (q : ℕ) → q < length ds → (d : Declaration) × (slice_get ds q ≡ Some d)
at_index [] q l = absurd (omega (arith, l))
at_index (d ∷ ds) zero l = (d, refl)
at_index (d ∷ ds) (suc q) l = at_index ds q (omega (arith, l))

below : (a b : ℕ) → (a ≤ b) ⊎ (b < a)
below zero b = inl (omega arith)
below (suc a) zero = inr (omega arith)
below (suc a) (suc b) = ⊎_elim (λ c. inl (omega (arith, c))) (λ c. inr (omega (arith, c))) (below a b)

refused_means : (w b : Bool) (k : Known) (all : Declarations) (C : Assumptions) (d : Declaration) → Refuses w b k all C d → b ≡ true → ¬ (SignedClauseHas k all C d)
refused_means true b k all C d r e = opposite e r
refused_means false true k all C d r e = r
refused_means false false k all C d r e = absurd (true≢false (sym e))

typed_means : (w b : Bool) (k : Known) (all : Declarations) (C : Assumptions) (d : Declaration) → Refuses w b k all C d → w ≡ false → b ≡ false → SignedClauseHas k all C d
typed_means true b k all C d r e f = absurd (true≢false e)
typed_means false true k all C d r e f = absurd (true≢false f)
typed_means false false k all C d r e f = r

waits_not : (w : Bool) (nodes : List (Option Variable)) (table : List Bool) (d : Declaration) → Waits w nodes table d → w ≡ false → TellsNodes true table (IsReferred nodes d)
waits_not true nodes table d t e = absurd (true≢false e)
waits_not false nodes table d t e = t

-- a declaration that hasn't a declared type is a clause
a_clause : (k : Known) (all : Declarations) (C : Assumptions) (d : Declaration) → ¬ (SignedClauseHas k all C d) → (x : Name) × IsClauseOf x d
a_clause k all C (data_declaration n ps cs) f = absurd (f tt)
a_clause k all C (newtype_declaration n ps b) f = absurd (f tt)
a_clause k all C (synonym_declaration n ps b) f = absurd (f tt)
a_clause k all C (signature ns b) f = absurd (f tt)
a_clause k all C (clause n ps r) f = (name_of n, refl)
a_clause k all C (pattern_binding l c p r) f = absurd (f tt)

-- the binding of a signed name begins at a place
pub record SignedAt (k : Known) (decls : List Declaration) (x : Name) (p : ℕ) : Type 0 where
  pub declaration : Declaration
  pub at : slice_get decls p ≡ Some declaration
  pub of_name : IsClauseOf x declaration
  pub is_signed : IsSigned x (list_of k decls)
  pub first : (q : ℕ) (d : Declaration) → q < p → slice_get decls q ≡ Some d → ¬ (IsClauseOf x d)

module _ (k : Known) (decls : List Declaration) (text : List ℕ → Name) (t : AreByText text decls) (nodes : List (Option Variable)) (rows : List (List ℕ)) (found : IsListFound k decls nodes rows) (gs : List (List ℕ)) (groups : AreNumberedGroups (list_of k decls) (node_name k (declarations decls)) (length nodes) gs)
    (base es : List Assumed) (closed : AreAssumed 0 base) (closed_es : AreAssumed 0 es) (table : List Bool) (u : UnitsJudged k decls gs (length nodes) (length gs) base es table) (places : List ℕ) (told : AreSignedFaults k (declarations decls) (assumptions es) nodes table decls places) where
  abbrev all : Declarations
  all = declarations decls

  distinct : IsDistinct (names (list_of k decls))
  distinct = u.layout.units.0

  all_finished : (x : Name) → IsUnsigned x (list_of k decls) → u.finished x ≡ true
  all_finished = at u.tests (subst (λ z. AreTestsOf u.tests (map (map (node_name k (declarations decls))) z)) (past_end gs (length gs) (omega arith)) u.tests_are) u.order
    where
      at : (tests : List (Name → Bool)) → AreTestsOf tests [] → IsOrder (list_of k decls) u.layout.own u.finished tests → (x : Name) → IsUnsigned x (list_of k decls) → u.finished x ≡ true
      at [] f o = o
      at (g ∷ gs) f o = absurd f

  within : (j : ℕ) (y : Name) → slice_get (node_names k (declarations decls) (declarations decls)) j ≡ Some y → j < length nodes
  within j y e = subst (λ m. j < m) (sym (ap length found.nodes_are ∙ names_long k (declarations decls) (declarations decls))) (slice_get_within (node_names k (declarations decls) (declarations decls)) j y e)

  -- the table tells what is typed, by names
  status_at : (j : ℕ) (y : Name) → slice_get (node_names k (declarations decls) (declarations decls)) j ≡ Some y → get_or table j false ≡ u.status y
  status_at j y e = u.table j (within j y e) ∙ ap u.status (get_or_from_slice_get (node_names k (declarations decls) (declarations decls)) j y (local []) e)

  mentioned_node : (x : Name) (d : Declaration) → IsClauseOf x d → (j : ℕ) → IsNodeWith (list_nodes (declarations decls) (declarations decls)) (λ v. DeclarationRefers v d) j → (y : Name) × (DeclarationMentions k y d × (slice_get (node_names k (declarations decls) (declarations decls)) j ≡ Some y))
  mentioned_node x (data_declaration n ps cs) i j h = absurd i
  mentioned_node x (newtype_declaration n ps b) i j h = absurd i
  mentioned_node x (synonym_declaration n ps b) i j h = absurd i
  mentioned_node x (signature ns b) i j h = absurd i
  mentioned_node x (clause n ps r) i j h = (
    identifier h.variable,
    (
      ((λ a. h.holds.0 ((patterns_among k h.variable ps).0 a)), (right_side_same k h.variable r).1 h.holds.1),
      fit_variable (list_nodes (declarations decls) (declarations decls)) (node_names k (declarations decls) (declarations decls)) j h.variable (names_fit k (declarations decls) (declarations decls)) h.node,
    ),
  )
  mentioned_node x (pattern_binding l c p r) i j h = absurd i

  node_mentioned : (x : Name) (d : Declaration) → IsClauseOf x d → (j : ℕ) (y : Name) → slice_get (node_names k (declarations decls) (declarations decls)) j ≡ Some y → DeclarationMentions k y d → IsNodeWith (list_nodes (declarations decls) (declarations decls)) (λ v. DeclarationRefers v d) j
  node_mentioned x (data_declaration n ps cs) i j y e h = absurd i
  node_mentioned x (newtype_declaration n ps b) i j y e h = absurd i
  node_mentioned x (synonym_declaration n ps b) i j y e h = absurd i
  node_mentioned x (signature ns b) i j y e h = absurd i
  node_mentioned x (clause n ps r) i j y e h = ⊎_elim
      (λ g. record {
        variable = g.0;
        node = g.1;
        holds = ((λ q. h.0 (subst (λ z. IsOneOf z (typed.patterns_names (patterns_of k ps))) (sym g.2) ((patterns_among k g.0 ps).1 q))), (right_side_same k g.0 r).0 (subst (λ z. ¬ (IsOneOf z (typed.names (where_of k r))) × (RightSidesMention z (right_sides_of k r) ⊎ BindingsMention z (where_of k r))) g.2 h.1));
      })
      (λ own. absurd (never_right k y own r h.1.1))
      (fit_back (list_nodes (declarations decls) (declarations decls)) (node_names k (declarations decls) (declarations decls)) j y (names_fit k (declarations decls) (declarations decls)) e)
  node_mentioned x (pattern_binding l c p r) i j y e h = absurd i

  module _ (x : Name) (sx : IsSigned x (list_of k decls)) where
    -- clauses that refer to typed nodes alone
    all_free : ((q : ℕ) (d : Declaration) → slice_get decls q ≡ Some d → IsClauseOf x d → TellsNodes true table (IsReferred nodes d)) → (y : Name) → BindingMentions x y (list_of k decls) → IsUnsigned y (list_of k decls) → u.status y ≡ true
    all_free f y m i =
        let a = mention_at k (declarations decls) text x y decls t (λ v. one_kind (list_of k decls) distinct x sx v) m in
        let p = place_of y (node_names k (declarations decls) (declarations decls)) ((names_unsigned k (declarations decls) (declarations decls) y).1 i) in
        sym (status_at p.0 y p.1) ∙ f a.0 a.1.0 a.1.1.0 a.1.1.1.0 p.0 (subst (λ z. IsNodeWith z (λ v. DeclarationRefers v a.1.0) p.0) (sym found.nodes_are) (node_mentioned x a.1.0 a.1.1.1.0 p.0 y p.1 a.1.1.1.1))

    none_waits : ((y : Name) → BindingMentions x y (list_of k decls) → IsUnsigned y (list_of k decls) → u.status y ≡ true) → (q : ℕ) (d : Declaration) → slice_get decls q ≡ Some d → IsClauseOf x d → get_or told.waiting q false ≡ false
    none_waits f q d e i = off (get_or told.waiting q false) (λ w. at (subst (λ z. Waits z nodes table d) w (told.are_waiting.each q d e)))
      where
        at : TellsNodes false table (IsReferred nodes d) → ⊥
        at h =
            let m = mentioned_node x d i h.0 (subst (λ z. IsNodeWith z (λ v. DeclarationRefers v d) h.0) found.nodes_are h.1.0) in
            let n = mention_from k (declarations decls) text x m.0 decls t q d e i m.1.0 in
            opposite (status_at h.0 m.0 m.1.1 ∙ f m.0 n ((names_unsigned k (declarations decls) (declarations decls) m.0).0 (at_place m.0 (node_names k (declarations decls) (declarations decls)) h.0 m.1.1))) h.1.1

    alike : ((y : Name) → BindingMentions x y (list_of k decls) → IsUnsigned y (list_of k decls) → u.status y ≡ true) → (SignedOf (λ y. x ≡ y) (assumptions es) (list_of k decls) → SignedOf (λ y. x ≡ y) (bind_all (names (list_of k decls)) u.schemes (assumptions base)) (list_of k decls)) × (SignedOf (λ y. x ≡ y) (bind_all (names (list_of k decls)) u.schemes (assumptions base)) (list_of k decls) → SignedOf (λ y. x ≡ y) (assumptions es) (list_of k decls))
    alike f = signed_alike (list_of k decls) (assumptions base) u.status u.schemes es u.sees (closed_assumptions es closed_es) (schemes_closed (list_of k decls) (assumptions base) (closed_assumptions base closed) u.layout u.finished u.status u.schemes u.units all_finished) x (λ y m. written_list k (declarations decls) (declarations decls) y m) f

  -- a place that is found

  back_named : (x : Name) (p q : ℕ) (d : Declaration) → slice_get decls q ≡ Some d → IsClauseOf x d → p ≤ q → ((i : ℕ) → p ≤ i → i < q → goes_on (drop i decls) ≡ true) → (b : Declaration) × ((slice_get decls p ≡ Some b) × IsClauseOf x b)
  back_named x zero zero d e i l g = (d, (e, i))
  back_named x (suc p) zero d e i l g = absurd (omega (arith, l))
  back_named x p (suc q) d e i l g = at (ℕ_discrete p (suc q)) (λ b f j m. back_named x p q b f j m (λ c n o. g c n (omega (arith, o))))
    where
      at : Dec (p ≡ suc q) → ((b : Declaration) → slice_get decls q ≡ Some b → IsClauseOf x b → p ≤ q → (b : Declaration) × ((slice_get decls p ≡ Some b) × IsClauseOf x b)) → (b : Declaration) × ((slice_get decls p ≡ Some b) × IsClauseOf x b)
      at (yes s) next = (d, (ap (slice_get decls) s ∙ e, i))
      at (no n) next = let h = before_named k (declarations decls) text x decls q d e i t (g q (omega (arith, l, n)) (omega arith)) in next h.0 h.1.0 h.1.1 (omega (arith, l, n))

  -- all clauses of x stand from p on, where its first one begins a binding
  not_before : (x : Name) (p q : ℕ) (b d : Declaration) → BeginsRun decls p → slice_get decls p ≡ Some b → IsClauseOf x b → slice_get decls q ≡ Some d → IsClauseOf x d → ¬ (q < p)
  not_before x zero q b d r e i f j l = absurd (omega (arith, l))
  not_before x (suc p) q b d r e i f j l = opposite (clauses_together k (declarations decls) text x decls q (suc p) d b f j e i t distinct (omega (arith, l)) p (omega (arith, l)) (omega arith)) (r p refl)

  in_run : (x : Name) (p q : ℕ) (b d : Declaration) → BeginsRun decls p → slice_get decls p ≡ Some b → IsClauseOf x b → slice_get decls q ≡ Some d → IsClauseOf x d → InRun decls p q
  in_run x p q b d r e i f j = at (below p q)
    where
      at : (p ≤ q) ⊎ (q < p) → InRun decls p q
      at (inl l) = record { behind = l; inside = slice_get_within decls q d f; each = λ m a c. clauses_together k (declarations decls) text x decls p q b d e i f j t distinct l m a c }
      at (inr l) = absurd (not_before x p q b d r e i f j l)

  pub place_told : (p : ℕ) → Contains places p → (x : Name) × (SignedAt k decls x p × IsTypeFault (assumptions base) (list_of k decls) x)
  place_told p o = at (told.exact p).0 o
    where
      at : (Contains places p → (p < length decls) × IsFaultAt decls told.waiting told.refused p) → Contains places p → (x : Name) × (SignedAt k decls x p × IsTypeFault (assumptions base) (list_of k decls) x)
      at g o =
          let f = (g o).1 in
          let q = f.refused_one.0 in
          let run = f.refused_one.1.0 in
          let d = at_index decls f.refused_one.0 f.refused_one.1.0.inside in
          let never = refused_means (get_or told.waiting f.refused_one.0 false) (get_or told.refused f.refused_one.0 false) k (declarations decls) (assumptions es) d.0 (told.are_refused.each f.refused_one.0 d.0 d.1) f.refused_one.1.1 in
          let x = a_clause k (declarations decls) (assumptions es) d.0 never in
          let sx = signed_from k (declarations decls) text (assumptions es) x.0 decls f.refused_one.0 d.0 t d.1 x.1 never in
          let b = back_named x.0 p f.refused_one.0 d.0 d.1 x.1 f.refused_one.1.0.behind f.refused_one.1.0.each in
          let free = all_free x.0 sx (λ j c e i. waits_not (get_or told.waiting j false) nodes table c (told.are_waiting.each j c e) (off (get_or told.waiting j false) (λ w. f.free (j, (in_run x.0 p j b.0 c f.begins b.1.0 b.1.1 e i, w))))) in (
            x.0,
            (
              record { declaration = b.0; at = b.1.0; of_name = b.1.1; is_signed = sx; first = λ j c l e i. not_before x.0 p j b.0 c f.begins b.1.0 b.1.1 e i l },
              signed_fault (list_of k decls) (assumptions base) (closed_assumptions base closed) u.layout u.finished u.status u.schemes u.units all_finished x.0 sx free
                  (λ h. never ((clauses_have k (declarations decls) text (assumptions es) x.0 decls t).0 ((alike x.0 sx free).1 h) f.refused_one.0 d.0 d.1 x.1)),
            ),
          )

  -- and each signed fault has its place

  pub fault_placed : (x : Name) → IsSigned x (list_of k decls) → IsTypeFault (assumptions base) (list_of k decls) x → (p : ℕ) × (Contains places p × SignedAt k decls x p)
  fault_placed x sx f = found_one (search x decls told.refused)
    where
      free : (y : Name) → BindingMentions x y (list_of k decls) → IsUnsigned y (list_of k decls) → u.status y ≡ true
      free = fault_free (list_of k decls) (assumptions base) (closed_assumptions base closed) u.layout u.finished u.status u.schemes u.units all_finished x sx f

      found_one : ((q : ℕ) × ((d : Declaration) × ((slice_get decls q ≡ Some d) × (IsClauseOf x d × (get_or told.refused q false ≡ true))))) ⊎ ((q : ℕ) (d : Declaration) → slice_get decls q ≡ Some d → IsClauseOf x d → get_or told.refused q false ≡ false) → (p : ℕ) × (Contains places p × SignedAt k decls x p)
      found_one (inr n) = absurd (fault_refused (list_of k decls) (assumptions base) (closed_assumptions base closed) u.layout u.finished u.status u.schemes u.units all_finished x sx f
          ((alike x sx free).0 ((clauses_have k (declarations decls) text (assumptions es) x decls t).1 (λ q d e i. typed_means (get_or told.waiting q false) (get_or told.refused q false) k (declarations decls) (assumptions es) d (told.are_refused.each q d e) (none_waits x sx free q d e i) (n q d e i)))))
      found_one (inl h) =
          let s = first_clause k (declarations decls) text x decls h.0 h.1.0 h.1.1.0 h.1.1.1.0 t in
          let run = in_run x s.0 h.0 s.1.0 h.1.0 s.1.1.1.0 s.1.1.1.1.0 s.1.1.1.1.1 h.1.1.0 h.1.1.1.0 in (
            s.0,
            (
              (told.exact s.0).1 (
                slice_get_within decls s.0 s.1.0 s.1.1.1.1.0,
                record {
                  begins = s.1.1.1.0;
                  free = λ w. (let d = at_index decls w.0 w.1.0.inside in opposite w.1.1 (none_waits x sx free w.0 d.0 d.1 (named_along k (declarations decls) text x decls s.0 w.0 s.1.0 d.0 s.1.1.1.1.0 s.1.1.1.1.1 d.1 t w.1.0.behind w.1.0.each)));
                  refused_one = (h.0, (run, h.1.1.1.1));
                },
              ),
              record { declaration = s.1.0; at = s.1.1.1.1.0; of_name = s.1.1.1.1.1; is_signed = sx; first = λ j c l e i. not_before x s.0 j s.1.0 c s.1.1.1.0 s.1.1.1.1.0 s.1.1.1.1.1 e i l },
            ),
          )
