-- The declarations of a group are those that begin bindings of its unit.
use Rattle.std.proofs.Common.{◌≡◌, ℕ, zero, suc, ◌<◌, ◌≤◌, Bool, true, false, cond, List, [], ◌∷◌, ◌++◌, map, drop, length, Option, Some, None, inl, inr, ⊎_elim, refl, sym, ap, ◌∙◌, subst, arith, true≢false}
use Rattle.std.specs.Bool.{Decides}
use Rattle.std.specs.List.{slice_get}
use Rattle.std.proofs.lemmas.Option.{get_or_from_slice_get, slice_get_within}
use Rattle.hm_typing.specs.Names.{Identifier as Name, local, binding, IsDistinct, IsOneOf}
use Rattle.hm_typing.specs.Schemes.{Monotype}
use Rattle.hm_typing.specs.Syntax as typed
use Rattle.hm_typing.specs.Units.{IsSigned, IsUnsigned}
use Rattle.hm_typing.proofs.Bridge.{one_kind}
use Rattle.hm_typing.proofs.Matching.{AreTogether, own_name}
use Rattle.hm_syntax.specs.Names.{Identifier}
use Rattle.hm_syntax.specs.Trees.{Patterns, RightSide, Declaration, data_declaration, newtype_declaration, synonym_declaration, signature, clause, pattern_binding, Declarations}
use Rattle.hm_syntax.specs.Lists.{declarations}
use Rattle.hm_names.specs.ModuleCores.{ModuleCore}
use Rattle.hm_names.specs.Syntax.{Known, name_of, pattern_of, bindings_of, is_continued, add_clause, bound_by, declaration_count}
use Rattle.hm_names.specs.Texts.{same_text}
use Rattle.hm_names.specs.Variables.{pattern_variables}
use Rattle.hm_names.proofs.Meant.{text_decides}
use Rattle.hm_infer_dependencies.specs.Checked.{BeginsUnsigned}
use Rattle.hm_infer_dependencies.specs.Groups.{node_name, node_names}
use Rattle.hm_infer_dependencies.specs.GroupMembers.{AreMembersOf}
use Rattle.hm_infer_dependencies.specs.Members.{AreRows}
use Rattle.hm_infer_dependencies.specs.Nodes.{owner}
use Rattle.hm_infer_dependencies.specs.declared.members.Member.{Member}
use Rattle.hm_infer_dependencies.proofs.Reached.{FirstIs, head_owner}
use Rattle.hm_infer_dependencies.proofs.Owned.{drop_at, names_up, own_name_at, owner_begins}
use Rattle.hm_infer_expressions.specs.BoundNames.{names_at}
use Rattle.hm_infer.proofs.FirstTold.{AreByText, FirstTold, IsAside, IsWithin, first_told, told_by}
use Rattle.hm_infer.proofs.FirstTold as first
use Rattle.hm_infer_expressions.proofs.GroupAnswers.{in_names}
use Rattle.hm_infer.proofs.UnitSteps.{named_in}

-- What stands first of a run of clauses

first_added : (x : Name) (f : typed.Clauses → typed.Clauses) (bs : typed.Bindings) → FirstIs x bs → FirstIs x (add_clause f bs)
first_added x f typed.no_binding h = h
first_added x f (typed.unsigned z cs ds) h = h
first_added x f (typed.signed z s cs ds) h = h
first_added x f (typed.matched z p cs ds) h = h

first_run : (b : Bool) (f : typed.Clauses → typed.Clauses) (x y : Name) (s : Option Monotype) (cs : typed.Clauses) (bs : typed.Bindings) → y ≡ x → (b ≡ true → FirstIs y bs) → FirstIs y (cond b (add_clause f bs) (bound_by x s cs bs))
first_run true f x y s cs bs e h = first_added y f bs (h refl)
first_run false f x y None cs bs e h = e
first_run false f x y (Some s) cs bs e h = e

one_first : (x y : Name) (bs : typed.Bindings) → FirstIs x bs → BeginsUnsigned y bs → x ≡ y
one_first x y typed.no_binding f b = absurd b
one_first x y (typed.unsigned z cs ds) f b = f ∙ sym b
one_first x y (typed.signed z s cs ds) f b = absurd b
one_first x y (typed.matched z p cs ds) f b = absurd b

signed_run : (b : Bool) (f : typed.Clauses → typed.Clauses) (x z : Name) (s : Option Monotype) (cs : typed.Clauses) (bs : typed.Bindings) → IsSigned z bs → IsSigned z (cond b (add_clause f bs) (bound_by x s cs bs))
signed_run true f x z s cs typed.no_binding i = i
signed_run true f x z s cs (typed.unsigned y ds bs) i = i
signed_run true f x z s cs (typed.signed y t ds bs) i = i
signed_run true f x z s cs (typed.matched y p ds bs) i = i
signed_run false f x z None cs bs i = i
signed_run false f x z (Some s) cs bs i = inr i

together_run : (own : Name → Name → Bool) (b : Bool) (f : typed.Clauses → typed.Clauses) (x : Name) (s : Option Monotype) (cs : typed.Clauses) (bs : typed.Bindings) → AreTogether own (cond b (add_clause f bs) (bound_by x s cs bs)) → AreTogether own bs
together_run own true f x s cs typed.no_binding t = t
together_run own true f x s cs (typed.unsigned y ds bs) t = t
together_run own true f x s cs (typed.signed y u ds bs) t = t
together_run own true f x s cs (typed.matched y p ds bs) t = t
together_run own false f x None cs bs t = t
together_run own false f x (Some s) cs bs t = t

-- Whole lists

module _ (k : Known) (all : Declarations) where
  signed_more : (d : Declaration) (ds : List Declaration) (z : Name) → IsSigned z (bindings_of k all (declarations ds)) → IsSigned z (bindings_of k all (declarations (d ∷ ds)))
  signed_more (data_declaration n ps cs) ds z i = i
  signed_more (newtype_declaration n ps b) ds z i = i
  signed_more (synonym_declaration n ps b) ds z i = i
  signed_more (signature ns b) ds z i = i
  signed_more (clause n ps r) ds z i = signed_run (is_continued n.text ps (declarations ds)) _ (name_of n) z _ _ (bindings_of k all (declarations ds)) i
  signed_more (pattern_binding l c p r) ds z i = i

  signed_up : (decls : List Declaration) (i : ℕ) (z : Name) → IsSigned z (bindings_of k all (declarations (drop i decls))) → IsSigned z (bindings_of k all (declarations decls))
  signed_up decls zero z s = s
  signed_up [] (suc i) z s = s
  signed_up (d ∷ decls) (suc i) z s = signed_more d decls z (signed_up decls i z s)

  together_less : (own : Name → Name → Bool) (d : Declaration) (ds : List Declaration) → AreTogether own (bindings_of k all (declarations (d ∷ ds))) → AreTogether own (bindings_of k all (declarations ds))
  together_less own (data_declaration n ps cs) ds t = t
  together_less own (newtype_declaration n ps b) ds t = t
  together_less own (synonym_declaration n ps b) ds t = t
  together_less own (signature ns b) ds t = t
  together_less own (clause n ps r) ds t = together_run own (is_continued n.text ps (declarations ds)) _ (name_of n) _ _ (bindings_of k all (declarations ds)) t
  together_less own (pattern_binding l c p r) ds t = t.1

  together_down : (own : Name → Name → Bool) (decls : List Declaration) (i : ℕ) → AreTogether own (bindings_of k all (declarations decls)) → AreTogether own (bindings_of k all (declarations (drop i decls)))
  together_down own decls zero t = t
  together_down own [] (suc i) t = t
  together_down own (d ∷ decls) (suc i) t = together_down own decls i (together_less own d decls t)

  module _ (text : List ℕ → Name) where
    run_is : (x : List ℕ) (ps : Patterns) (ds : List Declaration) → is_continued x ps (declarations ds) ≡ true → AreByText text ds → FirstIs (text x) (bindings_of k all (declarations ds))
    run_is x ps [] e t = absurd (true≢false (sym e))
    run_is x ps (data_declaration n qs cs ∷ ds) e t = absurd (true≢false (sym e))
    run_is x ps (newtype_declaration n qs b ∷ ds) e t = absurd (true≢false (sym e))
    run_is x ps (synonym_declaration n qs b ∷ ds) e t = absurd (true≢false (sym e))
    run_is x ps (signature ns b ∷ ds) e t = absurd (true≢false (sym e))
    run_is x ps (clause n qs r ∷ ds) e t =
        let same : x ≡ n.text = (text_decides x n.text).0 (first.both (same_text x n.text) _ e) in
        subst (λ z. FirstIs (text z) (bindings_of k all (declarations (clause n qs r ∷ ds)))) (sym same) (first_run (is_continued n.text qs (declarations ds)) _ (name_of n) (text n.text) _ _ (bindings_of k all (declarations ds)) (sym t.0) (λ f. run_is n.text qs ds f t.1))
    run_is x ps (pattern_binding line column p r ∷ ds) e t = absurd (true≢false (sym e))

    clause_is : (n : Identifier) (ps : Patterns) (r : RightSide) (ds : List Declaration) → AreByText text (clause n ps r ∷ ds) → FirstIs (name_of n) (bindings_of k all (declarations (clause n ps r ∷ ds)))
    clause_is n ps r ds t = subst (λ z. FirstIs z (bindings_of k all (declarations (clause n ps r ∷ ds)))) (sym t.0) (first_run (is_continued n.text ps (declarations ds)) _ (name_of n) (text n.text) _ _ (bindings_of k all (declarations ds)) (sym t.0) (λ f. run_is n.text ps ds f t.1))

text_down : (text : List ℕ → Name) (decls : List Declaration) (i : ℕ) → AreByText text decls → AreByText text (drop i decls)
text_down text decls zero t = t
text_down text [] (suc i) t = t
text_down text (d ∷ decls) (suc i) t = text_down text decls i (first.rest_by_text text d decls t)

off : (b : Bool) → (b ≡ true → ⊥) → b ≡ false
off true f = absurd (f refl)
off false f = refl

module _ (c : ModuleCore) (k : Known) (home : k.home ≡ c.name) (decls : List Declaration) (text : List ℕ → Name) (texts : AreByText text decls) (distinct : IsDistinct (typed.names (bindings_of k (declarations decls) (declarations decls)))) (own : Name → Name → Bool) (together : AreTogether own (bindings_of k (declarations decls) (declarations decls)))
    (n : ℕ) (many : n ≡ length (node_names k (declarations decls) (declarations decls))) (apart : (i j : ℕ) → i < n → j < n → node_name k (declarations decls) i ≡ node_name k (declarations decls) j → i ≡ j)
    (group : List ℕ) (numbers : (j : ℕ) → IsOneOf j group → j < n) (U : Name → Bool) (tests : (y : Name) → Decides (U y) (IsOneOf y (names_at k (declarations decls) group))) (whole : (x y : Name) → own x y ≡ true → U x ≡ U y) (unsigned_names : (j : ℕ) → j < n → IsUnsigned (node_name k (declarations decls) j) (bindings_of k (declarations decls) (declarations decls))) where
  at_node : (i : ℕ) (x : Name) (p : ℕ) → slice_get (node_names k (declarations decls) (declarations (drop p decls))) i ≡ Some x → (i < n) × (node_name k (declarations decls) i ≡ x)
  at_node i x p e =
      let f = names_up k (declarations decls) decls p i x e in
      (subst (λ m. i < m) (sym many) (slice_get_within (node_names k (declarations decls) (declarations decls)) i x f), get_or_from_slice_get (node_names k (declarations decls) (declarations decls)) i x (local []) f)

  in_unit : (o : ℕ) (x : Name) → IsOneOf o group → node_name k (declarations decls) o ≡ x → U x ≡ true
  in_unit o x i e = subst (λ z. U z ≡ true) e ((tests (node_name k (declarations decls) o)).1 (in_names k (declarations decls) group o i))

  -- the number of a name of the unit
  unit_number : (o : ℕ) (x : Name) → o < n → node_name k (declarations decls) o ≡ x → U x ≡ true → IsOneOf o group
  unit_number o x l e u =
      let h = named_in k (declarations decls) group x ((tests x).0 u) in
      subst (λ i. IsOneOf i group) (apart h.0 o (numbers h.0 h.1.0) l (h.1.1 ∙ sym e)) h.1.0

  unit_unsigned : (x : Name) → U x ≡ true → IsUnsigned x (bindings_of k (declarations decls) (declarations decls))
  unit_unsigned x u =
      let h = named_in k (declarations decls) group x ((tests x).0 u) in
      subst (λ z. IsUnsigned z (bindings_of k (declarations decls) (declarations decls))) h.1.1 (unsigned_names h.0 (numbers h.0 h.1.0))

  suffix : (p : ℕ) (d : Declaration) → slice_get decls p ≡ Some d → (P : List Declaration → Type 0) → P (drop p decls) → P (d ∷ drop (suc p) decls)
  suffix p d e P h = subst P (drop_at decls p d e) h

  -- the names of a pattern binding are of one unit
  pattern_alike : (line column : ℕ) (q : Rattle.hm_syntax.specs.Trees.Pattern) (r : RightSide) (ds : List Declaration) → AreTogether own (bindings_of k (declarations decls) (declarations (pattern_binding line column q r ∷ ds))) → (m : Identifier) → IsOneOf m (pattern_variables q) →
      U (name_of m) ≡ U (binding k.home (declaration_count (declarations ds)))
  pattern_alike line column q r ds t m i = whole (name_of m) (binding k.home (declaration_count (declarations ds)))
      (t.0 (name_of m) (binding k.home (declaration_count (declarations ds))) (left (pattern_names m i)) (own_name (binding k.home (declaration_count (declarations ds))) (pattern_of k q)))
    where
      mapped : (vs : List Identifier) → IsOneOf m vs → IsOneOf (name_of m) (map name_of vs)
      mapped [] o = o
      mapped (v ∷ vs) (inl e) = inl (ap name_of e)
      mapped (v ∷ vs) (inr o) = inr (mapped vs o)

      pattern_names : (m1 : Identifier) → IsOneOf m (pattern_variables q) → IsOneOf (name_of m) (typed.pattern_names (pattern_of k q))
      pattern_names m1 o = subst (IsOneOf (name_of m)) (sym (first.names_of_pattern k q)) (mapped (pattern_variables q) o)

      left_of : (xs ys : List Name) → IsOneOf (name_of m) xs → IsOneOf (name_of m) (xs ++ ys)
      left_of [] ys o = absurd o
      left_of (x ∷ xs) ys (inl e) = inl e
      left_of (x ∷ xs) ys (inr o) = inr (left_of xs ys o)

      left : IsOneOf (name_of m) (typed.pattern_names (pattern_of k q)) → IsOneOf (name_of m) (typed.matched_names (binding k.home (declaration_count (declarations ds))) (pattern_of k q))
      left o = left_of (typed.pattern_names (pattern_of k q)) (binding k.home (declaration_count (declarations ds)) ∷ []) o

  -- a declaration of the group
  pub is_within : (p : ℕ) (d : Declaration) → slice_get decls p ≡ Some d → (o : ℕ) → owner (declarations decls) (declarations (drop p decls)) ≡ Some o → IsOneOf o group → IsWithin c k home (declarations decls) text U d (length (drop (suc p) decls))
  is_within p (data_declaration m ps cs) e o w i = none (suffix p (data_declaration m ps cs) e (λ z. owner (declarations decls) (declarations z) ≡ Some o) w)
    where
      none : None ≡ Some o → ⊥
      none h = cc
  is_within p (newtype_declaration m ps b) e o w i = none (suffix p (newtype_declaration m ps b) e (λ z. owner (declarations decls) (declarations z) ≡ Some o) w)
    where
      none : None ≡ Some o → ⊥
      none h = cc
  is_within p (synonym_declaration m ps b) e o w i = none (suffix p (synonym_declaration m ps b) e (λ z. owner (declarations decls) (declarations z) ≡ Some o) w)
    where
      none : None ≡ Some o → ⊥
      none h = cc
  is_within p (signature ns b) e o w i = none (suffix p (signature ns b) e (λ z. owner (declarations decls) (declarations z) ≡ Some o) w)
    where
      none : None ≡ Some o → ⊥
      none h = cc
  is_within p (clause m ps r) e o w i =
      let ds = drop (suc p) decls in
      let h = owner_begins k (declarations decls) (declarations (clause m ps r ∷ drop (suc p) decls)) o tt (suffix p (clause m ps r) e (λ z. owner (declarations decls) (declarations z) ≡ Some o) w) in
      let t = suffix p (clause m ps r) e (AreByText text) (text_down text decls p texts) in
      let same : name_of m ≡ h.0 = one_first (name_of m) h.0 (bindings_of k (declarations decls) (declarations (clause m ps r ∷ drop (suc p) decls))) (clause_is k (declarations decls) text m ps r ds t) h.2 in
      in_unit o (name_of m) i ((at_node o h.0 p (subst (λ z. slice_get (node_names k (declarations decls) (declarations z)) o ≡ Some h.0) (sym (drop_at decls p (clause m ps r) e)) h.1)).1 ∙ sym same)
  is_within p (pattern_binding line column q r) e o w i =
      let ds = drop (suc p) decls in
      let b = own_name_at k (declarations decls) (declarations (drop (suc p) decls)) line column q r o (suffix p (pattern_binding line column q r) e (λ z. owner (declarations decls) (declarations z) ≡ Some o) w) in
      let t = suffix p (pattern_binding line column q r) e (λ z. AreTogether own (bindings_of k (declarations decls) (declarations z))) (together_down k (declarations decls) own decls p together) in
      let u = in_unit o (binding k.home (declaration_count (declarations ds))) i (at_node o (binding k.home (declaration_count (declarations ds))) p (subst (λ z. slice_get (node_names k (declarations decls) (declarations z)) o ≡ Some (binding k.home (declaration_count (declarations ds)))) (sym (drop_at decls p (pattern_binding line column q r) e)) b)).1 in
      ((λ m v. pattern_alike line column q r ds t m v ∙ u), subst (λ z. U z ≡ true) (first.own_number c k home (declarations decls) text U ds) u)

  -- a declaration of no node of the group
  pub is_aside : (p : ℕ) (d : Declaration) → slice_get decls p ≡ Some d → ((o : ℕ) → owner (declarations decls) (declarations (drop p decls)) ≡ Some o → ¬ (IsOneOf o group)) → IsAside c k home (declarations decls) text U d (length (drop (suc p) decls))
  is_aside p (data_declaration m ps cs) e f = tt
  is_aside p (newtype_declaration m ps b) e f = tt
  is_aside p (synonym_declaration m ps b) e f = tt
  is_aside p (signature ns b) e f = tt
  is_aside p (clause m ps r) e f = off (U (name_of m)) (λ u. ⊎_elim
      (λ s. one_kind (bindings_of k (declarations decls) (declarations decls)) distinct (name_of m) (signed_up k (declarations decls) decls p (name_of m) (subst (λ z. IsSigned (name_of m) (bindings_of k (declarations decls) (declarations z))) (sym (drop_at decls p (clause m ps r) e)) s)) (unit_unsigned (name_of m) u))
      (λ j. owned u j.0 j.1)
      (head_owner k (declarations decls) (declarations (clause m ps r ∷ drop (suc p) decls)) (name_of m) tt is))
    where
      is : FirstIs (name_of m) (bindings_of k (declarations decls) (declarations (clause m ps r ∷ drop (suc p) decls)))
      is = clause_is k (declarations decls) text m ps r (drop (suc p) decls) (suffix p (clause m ps r) e (AreByText text) (text_down text decls p texts))

      owned : U (name_of m) ≡ true → (o : ℕ) → owner (declarations decls) (declarations (clause m ps r ∷ drop (suc p) decls)) ≡ Some o → ⊥
      owned u o w =
          let h = owner_begins k (declarations decls) (declarations (clause m ps r ∷ drop (suc p) decls)) o tt w in
          let same : name_of m ≡ h.0 = one_first (name_of m) h.0 (bindings_of k (declarations decls) (declarations (clause m ps r ∷ drop (suc p) decls))) is h.2 in
          let at = at_node o h.0 p (subst (λ z. slice_get (node_names k (declarations decls) (declarations z)) o ≡ Some h.0) (sym (drop_at decls p (clause m ps r) e)) h.1) in
          f o (subst (λ z. owner (declarations decls) (declarations z) ≡ Some o) (sym (drop_at decls p (clause m ps r) e)) w) (unit_number o (name_of m) at.0 (at.1 ∙ sym same) u)
  is_aside p (pattern_binding line column q r) e f = ((λ m v. pattern_alike line column q r (drop (suc p) decls) t m v ∙ outside), subst (λ z. U z ≡ false) (first.own_number c k home (declarations decls) text U (drop (suc p) decls)) outside)
    where
      t : AreTogether own (bindings_of k (declarations decls) (declarations (pattern_binding line column q r ∷ drop (suc p) decls)))
      t = suffix p (pattern_binding line column q r) e (λ z. AreTogether own (bindings_of k (declarations decls) (declarations z))) (together_down k (declarations decls) own decls p together)

      owned : U (binding k.home (declaration_count (declarations (drop (suc p) decls)))) ≡ true → (o : ℕ) → owner (declarations decls) (declarations (pattern_binding line column q r ∷ drop (suc p) decls)) ≡ Some o → ⊥
      owned u o w =
          let b = own_name_at k (declarations decls) (declarations (drop (suc p) decls)) line column q r o w in
          let at = at_node o (binding k.home (declaration_count (declarations (drop (suc p) decls)))) p (subst (λ z. slice_get (node_names k (declarations decls) (declarations z)) o ≡ Some (binding k.home (declaration_count (declarations (drop (suc p) decls))))) (sym (drop_at decls p (pattern_binding line column q r) e)) b) in
          f o (subst (λ z. owner (declarations decls) (declarations z) ≡ Some o) (sym (drop_at decls p (pattern_binding line column q r) e)) w) (unit_number o (binding k.home (declaration_count (declarations (drop (suc p) decls)))) at.0 at.1 u)

      outside : U (binding k.home (declaration_count (declarations (drop (suc p) decls)))) ≡ false
      outside = off (U (binding k.home (declaration_count (declarations (drop (suc p) decls))))) (λ u. owned u _ refl)

  -- the first declaration of a group tells its unit
  pub unit_told : (rows : List (List ℕ)) → AreRows decls n rows → (ms : List Member) → AreMembersOf rows group ms → (m : Member) → IsOneOf m ms → ((o : Member) → IsOneOf o ms → m.place ≤ o.place) → (d : Declaration) → slice_get decls m.place ≡ Some d → FirstTold c k home (declarations decls) text U decls (told_by d)
  unit_told rows are ms members m one least d e =
      let h = (members m).0 one in
      first_told c k home (declarations decls) text U decls m.place d e
      (λ j z l g. is_aside j z g (λ o w i. too_early j l (least (record { place = j; node = o }) ((members (record { place = j; node = o })).1 (i, (are.each o j).1 (slice_get_within decls j z g, w))))))
      (is_within m.place d e m.node ((are.each m.node m.place).0 h.1).1 h.0) texts
    where
      too_early : (j : ℕ) → j < m.place → m.place ≤ j → ⊥
      too_early j l g = omega (arith, l, g)
