-- The clauses of a name with a signature: what they have, what they mention, and that they stand together.
use Rattle.std.proofs.Common.{◌≡◌, ℕ, zero, suc, ◌<◌, ◌≤◌, Bool, true, false, cond, List, [], ◌∷◌, ◌++◌, drop, get_or, Option, Some, None, inl, inr, ◌⊎◌, ⊎_elim, ◌↔◌, refl, sym, ap, ◌∙◌, subst, arith, true≢false}
use Rattle.std.specs.List.{slice_get}
use Rattle.hm_typing.specs.Names.{Identifier as Name, IsOneOf, IsDistinct}
use Rattle.hm_typing.specs.Schemes.{Monotype}
use Rattle.hm_typing.specs.Assumptions.{Assumptions}
use Rattle.hm_typing.specs.SecondForm.{DeriveClauses}
use Rattle.hm_typing.specs.Syntax as typed
use Rattle.hm_typing.specs.Syntax.{Bindings, Clauses, no_binding, unsigned, signed, matched, names}
use Rattle.hm_typing.specs.Units.{BindingMentions, IsSigned, IsUnsigned}
use Rattle.hm_typing.proofs.Faults.{SignedOf}
use Rattle.hm_typing.proofs.Names.{name_discrete}
use Rattle.hm_syntax.specs.Names.{Identifier}
use Rattle.hm_syntax.specs.Trees.{Patterns, RightSide, Declaration, clause, data_declaration, newtype_declaration, synonym_declaration, signature, pattern_binding, Declarations}
use Rattle.hm_syntax.specs.Lists.{declarations}
use Rattle.hm_names.specs.Syntax.{Known, add_clause, bindings_of, bound_by, is_continued, name_of, patterns_of, right_sides_of, signature_of, where_of}
use Rattle.hm_names.specs.Texts.{same_text}
use Rattle.hm_names.proofs.Meant.{text_decides}
use Rattle.hm_infer_dependencies.proofs.Mentioned.{ClauseMentions, begins}
use Rattle.hm_infer_dependencies.proofs.Reached.{FirstIs, clause_binding}
use Rattle.hm_infer.specs.SignedFaults.{BeginsRun, goes_on}
use Rattle.hm_infer_expressions.specs.SignedLists.{AtDeclared, SignedClauseHas}
use Rattle.hm_infer.proofs.FirstTold.{AreByText, both, rest_by_text}

some_one : {X : Type 0} {a b : X} → Some a ≡ Some b → a ≡ b
some_one h = cc

none_some : {X Y : Type 0} {a : X} → None ≡ Some a → Y
none_some h = cc

-- a clause of the binding of x
abbrev pub IsClauseOf : Name → Declaration → Type 0
IsClauseOf x (data_declaration n ps cs) = ⊥
IsClauseOf x (newtype_declaration n ps b) = ⊥
IsClauseOf x (synonym_declaration n ps b) = ⊥
IsClauseOf x (signature ns b) = ⊥
IsClauseOf x (clause n ps r) = x ≡ name_of n
IsClauseOf x (pattern_binding l c p r) = ⊥

is_clause_of : (x : Name) (d : Declaration) → Dec (IsClauseOf x d)
is_clause_of x (data_declaration n ps cs) = no (λ h. h)
is_clause_of x (newtype_declaration n ps b) = no (λ h. h)
is_clause_of x (synonym_declaration n ps b) = no (λ h. h)
is_clause_of x (signature ns b) = no (λ h. h)
is_clause_of x (clause n ps r) = name_discrete x (name_of n)
is_clause_of x (pattern_binding l c p r) = no (λ h. h)

-- it mentions y
abbrev pub DeclarationMentions : Known → Name → Declaration → Type 0
DeclarationMentions k y (data_declaration n ps cs) = ⊥
DeclarationMentions k y (newtype_declaration n ps b) = ⊥
DeclarationMentions k y (synonym_declaration n ps b) = ⊥
DeclarationMentions k y (signature ns b) = ⊥
DeclarationMentions k y (clause n ps r) = ClauseMentions y (patterns_of k ps) (right_sides_of k r) (where_of k r)
DeclarationMentions k y (pattern_binding l c p r) = ⊥

flag_none : (x : Name) (d : Declaration) (ds : List Declaration) (b : Bool) (flags : List Bool) → (IsClauseOf x d → b ≡ false) → ((q : ℕ) (c : Declaration) → slice_get ds q ≡ Some c → IsClauseOf x c → get_or flags q false ≡ false) → (q : ℕ) (c : Declaration) → slice_get (d ∷ ds) q ≡ Some c → IsClauseOf x c → get_or (b ∷ flags) q false ≡ false
flag_none x d ds b flags h f zero c e i = h (subst (IsClauseOf x) (sym (some_one e)) i)
flag_none x d ds b flags h f (suc q) c e i = f q c e i

-- a clause with a flag is found, or none has it
pub search : (x : Name) (ds : List Declaration) (flags : List Bool) → ((q : ℕ) × ((d : Declaration) × ((slice_get ds q ≡ Some d) × (IsClauseOf x d × (get_or flags q false ≡ true))))) ⊎ ((q : ℕ) (d : Declaration) → slice_get ds q ≡ Some d → IsClauseOf x d → get_or flags q false ≡ false)
search x [] flags = inr (λ q d e i. none_some e)
search x (d ∷ ds) [] = inr (λ q c e i. refl)
search x (d ∷ ds) (b ∷ flags) = at (is_clause_of x d) b (search x ds flags)
  where
    at : Dec (IsClauseOf x d) → (b : Bool) → ((q : ℕ) × ((c : Declaration) × ((slice_get ds q ≡ Some c) × (IsClauseOf x c × (get_or flags q false ≡ true))))) ⊎ ((q : ℕ) (c : Declaration) → slice_get ds q ≡ Some c → IsClauseOf x c → get_or flags q false ≡ false) →
        ((q : ℕ) × ((c : Declaration) × ((slice_get (d ∷ ds) q ≡ Some c) × (IsClauseOf x c × (get_or (b ∷ flags) q false ≡ true))))) ⊎ ((q : ℕ) (c : Declaration) → slice_get (d ∷ ds) q ≡ Some c → IsClauseOf x c → get_or (b ∷ flags) q false ≡ false)
    at (yes i) true r = inl (zero, (d, (refl, (i, refl))))
    at (yes i) false (inl h) = inl (suc h.0, h.1)
    at (no n) true (inl h) = inl (suc h.0, h.1)
    at (no n) false (inl h) = inl (suc h.0, h.1)
    at (yes i) false (inr f) = inr (flag_none x d ds false flags (λ j. refl) f)
    at (no n) true (inr f) = inr (flag_none x d ds true flags (λ j. absurd (n j)) f)
    at (no n) false (inr f) = inr (flag_none x d ds false flags (λ j. refl) f)

-- Lists of bindings, declaration by declaration

names-add : (x : Name) (f : Clauses → Clauses) (bs : Bindings) → IsOneOf x (names bs) → IsOneOf x (names (add_clause f bs))
names-add x f no_binding o = o
names-add x f (unsigned z cs D) o = o
names-add x f (signed z s cs D) o = o
names-add x f (matched z p cs D) o = o

distinct-add : (f : Clauses → Clauses) (bs : Bindings) → IsDistinct (names (add_clause f bs)) → IsDistinct (names bs)
distinct-add f no_binding o = o
distinct-add f (unsigned z cs D) o = o
distinct-add f (signed z s cs D) o = o
distinct-add f (matched z p cs D) o = o

unsigned-add : (x : Name) (f : Clauses → Clauses) (bs : Bindings) → IsUnsigned x bs → IsUnsigned x (add_clause f bs)
unsigned-add x f no_binding o = o
unsigned-add x f (unsigned z cs D) o = o
unsigned-add x f (signed z s cs D) o = o
unsigned-add x f (matched z p cs D) o = o

unsigned_run : (b : Bool) (f : Clauses → Clauses) (x z : Name) (o : Option Monotype) (cs : Clauses) (bs : Bindings) → IsUnsigned x bs → IsUnsigned x (cond b (add_clause f bs) (bound_by z o cs bs))
unsigned_run true f x z o cs bs u = unsigned-add x f bs u
unsigned_run false f x z None cs bs u = inr u
unsigned_run false f x z (Some s) cs bs u = u

distinct_run : (b : Bool) (f : Clauses → Clauses) (z : Name) (o : Option Monotype) (cs : Clauses) (bs : Bindings) → IsDistinct (names (cond b (add_clause f bs) (bound_by z o cs bs))) → IsDistinct (names bs)
distinct_run true f z o cs bs d = distinct-add f bs d
distinct_run false f z None cs bs d = d.1
distinct_run false f z (Some s) cs bs d = d.1

signed-add : (x : Name) (f : Clauses → Clauses) (bs : Bindings) → IsSigned x bs → IsSigned x (add_clause f bs)
signed-add x f no_binding o = o
signed-add x f (unsigned z cs D) o = o
signed-add x f (signed z s cs D) o = o
signed-add x f (matched z p cs D) o = o

signed_run : (b : Bool) (f : Clauses → Clauses) (x z : Name) (o : Option Monotype) (cs : Clauses) (bs : Bindings) → IsSigned x bs → IsSigned x (cond b (add_clause f bs) (bound_by z o cs bs))
signed_run true f x z o cs bs u = signed-add x f bs u
signed_run false f x z None cs bs u = u
signed_run false f x z (Some s) cs bs u = inr u

names_run : (b : Bool) (f : Clauses → Clauses) (x z : Name) (o : Option Monotype) (cs : Clauses) (bs : Bindings) → IsOneOf x (names bs) → IsOneOf x (names (cond b (add_clause f bs) (bound_by z o cs bs)))
names_run true f x z o cs bs u = names-add x f bs u
names_run false f x z None cs bs u = inr u
names_run false f x z (Some s) cs bs u = inr u

names_after : (x : Name) (xs ys : List Name) → IsOneOf x ys → IsOneOf x (xs ++ ys)
names_after x [] ys o = o
names_after x (z ∷ xs) ys o = inr (names_after x xs ys o)

distinct_after : (xs ys : List Name) → IsDistinct (xs ++ ys) → IsDistinct ys
distinct_after [] ys d = d
distinct_after (x ∷ xs) ys d = distinct_after xs ys d.1

module _ (k : Known) (all : Declarations) where
  abbrev list : List Declaration → Bindings
  list ds = bindings_of k all (declarations ds)

  pub unsigned_more : (d : Declaration) (ds : List Declaration) (x : Name) → IsUnsigned x (bindings_of k all (declarations ds)) → IsUnsigned x (bindings_of k all (declarations (d ∷ ds)))
  unsigned_more (data_declaration n ps cs) ds x u = u
  unsigned_more (newtype_declaration n ps b) ds x u = u
  unsigned_more (synonym_declaration n ps b) ds x u = u
  unsigned_more (signature ns b) ds x u = u
  unsigned_more (clause n ps r) ds x u = unsigned_run (is_continued n.text ps (declarations ds)) _ x (name_of n) _ _ (bindings_of k all (declarations ds)) u
  unsigned_more (pattern_binding l c p r) ds x u = inr u

  distinct_less : (d : Declaration) (ds : List Declaration) → IsDistinct (names (bindings_of k all (declarations (d ∷ ds)))) → IsDistinct (names (bindings_of k all (declarations ds)))
  distinct_less (data_declaration n ps cs) ds t = t
  distinct_less (newtype_declaration n ps b) ds t = t
  distinct_less (synonym_declaration n ps b) ds t = t
  distinct_less (signature ns b) ds t = t
  distinct_less (clause n ps r) ds t = distinct_run (is_continued n.text ps (declarations ds)) _ (name_of n) _ _ (bindings_of k all (declarations ds)) t
  distinct_less (pattern_binding l c p r) ds t = distinct_after _ (names (bindings_of k all (declarations ds))) t

  module _ (text : List ℕ → Name) where
    -- the binding that a declaration goes on
    record GoesOn (x : List ℕ) (ds : List Declaration) : Type 0 where
      clauses : Clauses
      others : Bindings
      is : bindings_of k all (declarations ds) ≡ bound_by (text x) (signature_of x all) clauses others

    abbrev clause_of : Patterns → RightSide → Clauses → Clauses
    clause_of ps r cs = typed.clause (patterns_of k ps) (right_sides_of k r) (where_of k r) cs

    abbrev one_more : Identifier → Patterns → RightSide → Bindings → Bool → Bindings
    one_more n ps r D b = cond b (add_clause (clause_of ps r) D) (bound_by (name_of n) (signature_of n.text all) (clause_of ps r typed.no_clause) D)

    add_bound : (c : Clauses → Clauses) (x : Name) (o : Option Monotype) (cs : Clauses) (D : Bindings) → add_clause c (bound_by x o cs D) ≡ bound_by x o (c cs) D
    add_bound c x None cs D = refl
    add_bound c x (Some s) cs D = refl

    binding_with : (n : Identifier) (ps : Patterns) (r : RightSide) (ds : List Declaration) → name_of n ≡ text n.text → (is_continued n.text ps (declarations ds) ≡ true → GoesOn n.text ds) → GoesOn n.text (clause n ps r ∷ ds)
    binding_with n ps r ds t next = at (is_continued n.text ps (declarations ds)) refl
      where
        at : (b : Bool) → is_continued n.text ps (declarations ds) ≡ b → GoesOn n.text (clause n ps r ∷ ds)
        at true h =
            let g = next h in record {
              clauses = clause_of ps r g.clauses;
              others = g.others;
              is = ap (λ b. one_more n ps r (bindings_of k all (declarations ds)) b) h ∙ (ap (add_clause (clause_of ps r)) g.is ∙ add_bound (clause_of ps r) (text n.text) (signature_of n.text all) g.clauses g.others);
            }
        at false h = record {
          clauses = clause_of ps r typed.no_clause;
          others = bindings_of k all (declarations ds);
          is = ap (λ b. one_more n ps r (bindings_of k all (declarations ds)) b) h ∙ ap (λ z. bound_by z (signature_of n.text all) (clause_of ps r typed.no_clause) (bindings_of k all (declarations ds))) t;
        }

    follows : (x : List ℕ) (ps : Patterns) (ds : List Declaration) → is_continued x ps (declarations ds) ≡ true → AreByText text ds → GoesOn x ds
    follows x ps [] e t = absurd (true≢false (sym e))
    follows x ps (data_declaration n qs cs ∷ ds) e t = absurd (true≢false (sym e))
    follows x ps (newtype_declaration n qs c ∷ ds) e t = absurd (true≢false (sym e))
    follows x ps (synonym_declaration n qs b ∷ ds) e t = absurd (true≢false (sym e))
    follows x ps (signature ns b ∷ ds) e t = absurd (true≢false (sym e))
    follows x ps (pattern_binding l c p r ∷ ds) e t = absurd (true≢false (sym e))
    follows x ps (clause n qs r ∷ ds) e t = subst (λ z. GoesOn z (clause n qs r ∷ ds)) (sym ((text_decides x n.text).0 (both (same_text x n.text) _ e))) (binding_with n qs r ds t.0 (λ f. follows n.text qs ds f t.1))

    -- the binding that a clause begins or goes on
    binding_at : (n : Identifier) (ps : Patterns) (r : RightSide) (ds : List Declaration) → AreByText text (clause n ps r ∷ ds) → GoesOn n.text (clause n ps r ∷ ds)
    binding_at n ps r ds t = binding_with n ps r ds t.0 (λ f. follows n.text ps ds f t.1)

    -- What the clauses have

    module _ (C : Assumptions) (x : Name) where
      module _ (ps : typed.Patterns) (gs : typed.RightSides) (ws : Bindings) where
        abbrev One : Option Monotype → Type 0
        One o = AtDeclared o (λ t. DeriveClauses C (typed.clause ps gs ws typed.no_clause) t)

        clause_added : (n : Name) (o : Option Monotype) (cs : Clauses) (D : Bindings) → SignedOf (λ y. x ≡ y) C (bound_by n o (typed.clause ps gs ws cs) D) ↔ ((x ≡ n → One o) × SignedOf (λ y. x ≡ y) C (bound_by n o cs D))
        clause_added n None cs D = ((λ h. ((λ e. tt), h)), (λ h. h.1))
        clause_added n (Some s) cs D = ((λ h. ((λ e us. ((h.0 e us).0, tt)), ((λ e us. (h.0 e us).1), h.1))), (λ h. ((λ e us. ((h.0 e us).0, h.1.0 e us)), h.1.1)))

        clause_alone : (n : Name) (o : Option Monotype) (D : Bindings) → SignedOf (λ y. x ≡ y) C (bound_by n o (typed.clause ps gs ws typed.no_clause) D) ↔ ((x ≡ n → One o) × SignedOf (λ y. x ≡ y) C D)
        clause_alone n None D = ((λ h. ((λ e. tt), h)), (λ h. h.1))
        clause_alone n (Some s) D = ((λ h. h), (λ h. h))

      signed_cons : (d : Declaration) (ds : List Declaration) → AreByText text (d ∷ ds) → SignedOf (λ y. x ≡ y) C (bindings_of k all (declarations (d ∷ ds))) ↔ ((IsClauseOf x d → SignedClauseHas k all C d) × SignedOf (λ y. x ≡ y) C (bindings_of k all (declarations ds)))
      signed_cons (data_declaration n qs cs) ds t = ((λ h. ((λ i. tt), h)), (λ h. h.1))
      signed_cons (newtype_declaration n qs c) ds t = ((λ h. ((λ i. tt), h)), (λ h. h.1))
      signed_cons (synonym_declaration n qs b) ds t = ((λ h. ((λ i. tt), h)), (λ h. h.1))
      signed_cons (signature ns b) ds t = ((λ h. ((λ i. tt), h)), (λ h. h.1))
      signed_cons (pattern_binding l c p r) ds t = ((λ h. ((λ i. tt), h)), (λ h. h.1))
      signed_cons (clause n ps r) ds t = at (is_continued n.text ps (declarations ds)) refl
        where
          at : (b : Bool) → is_continued n.text ps (declarations ds) ≡ b → SignedOf (λ y. x ≡ y) C (one_more n ps r (bindings_of k all (declarations ds)) (is_continued n.text ps (declarations ds))) ↔ ((x ≡ name_of n → SignedClauseHas k all C (clause n ps r)) × SignedOf (λ y. x ≡ y) C (bindings_of k all (declarations ds)))
          at true h =
              let g = follows n.text ps ds h t.1 in
              let added = clause_added (patterns_of k ps) (right_sides_of k r) (where_of k r) (text n.text) (signature_of n.text all) g.clauses g.others in
              let here = ap (λ b. one_more n ps r (bindings_of k all (declarations ds)) b) h ∙ (ap (add_clause (clause_of ps r)) g.is ∙ add_bound (clause_of ps r) (text n.text) (signature_of n.text all) g.clauses g.others) in (
                (λ p. (let q = added.0 (subst (SignedOf (λ y. x ≡ y) C) here p) in ((λ e. q.0 (e ∙ t.0)), subst (SignedOf (λ y. x ≡ y) C) (sym g.is) q.1))),
                (λ p. subst (SignedOf (λ y. x ≡ y) C) (sym here) (added.1 ((λ e. p.0 (e ∙ sym t.0)), subst (SignedOf (λ y. x ≡ y) C) g.is p.1))),
              )
          at false h =
              let alone = clause_alone (patterns_of k ps) (right_sides_of k r) (where_of k r) (name_of n) (signature_of n.text all) (bindings_of k all (declarations ds)) in
              let here = ap (λ b. one_more n ps r (bindings_of k all (declarations ds)) b) h in ((λ p. alone.0 (subst (SignedOf (λ y. x ≡ y) C) here p)), (λ p. subst (SignedOf (λ y. x ≡ y) C) (sym here) (alone.1 p)))

      have_more : (d : Declaration) (ds : List Declaration) → (IsClauseOf x d → SignedClauseHas k all C d) → ((q : ℕ) (c : Declaration) → slice_get ds q ≡ Some c → IsClauseOf x c → SignedClauseHas k all C c) → (q : ℕ) (c : Declaration) → slice_get (d ∷ ds) q ≡ Some c → IsClauseOf x c → SignedClauseHas k all C c
      have_more d ds h f zero c e i = subst (SignedClauseHas k all C) (some_one e) (h (subst (IsClauseOf x) (sym (some_one e)) i))
      have_more d ds h f (suc q) c e i = f q c e i

      pub clauses_have : (ds : List Declaration) → AreByText text ds → SignedOf (λ y. x ≡ y) C (bindings_of k all (declarations ds)) ↔ ((q : ℕ) (d : Declaration) → slice_get ds q ≡ Some d → IsClauseOf x d → SignedClauseHas k all C d)
      clauses_have [] t = ((λ h q d e i. none_some e), (λ h. tt))
      clauses_have (d ∷ ds) t =
          let one = signed_cons d ds t in
          let rest = clauses_have ds (rest_by_text text d ds t) in (
            (λ h. have_more d ds (one.0 h).0 (rest.0 (one.0 h).1)),
            (λ h. one.1 ((λ i. h zero d refl i), rest.1 (λ q c e i. h (suc q) c e i))),
          )

    -- The first name of a list

    first_bound : (x z : Name) (o : Option Monotype) (cs : Clauses) (D : Bindings) → x ≡ z → FirstIs x (bound_by z o cs D)
    first_bound x z None cs D e = e
    first_bound x z (Some s) cs D e = e

    one_name : (x z : Name) (bs : Bindings) → FirstIs x bs → FirstIs z bs → x ≡ z
    one_name x z no_binding f g = absurd f
    one_name x z (unsigned v cs D) f g = f ∙ sym g
    one_name x z (signed v s cs D) f g = f ∙ sym g
    one_name x z (matched v p cs D) f g = f ∙ sym g

    first_name : (n : Identifier) (ps : Patterns) (r : RightSide) (ds : List Declaration) → AreByText text (clause n ps r ∷ ds) → FirstIs (name_of n) (bindings_of k all (declarations (clause n ps r ∷ ds)))
    first_name n ps r ds t = let g = binding_at n ps r ds t in subst (FirstIs (name_of n)) (sym g.is) (first_bound (name_of n) (text n.text) (signature_of n.text all) g.clauses g.others t.0)

    bound_listed : (z : Name) (o : Option Monotype) (cs : Clauses) (D : Bindings) → IsOneOf z (names (bound_by z o cs D))
    bound_listed z None cs D = inl refl
    bound_listed z (Some s) cs D = inl refl

    head_listed : (n : Identifier) (ps : Patterns) (r : RightSide) (ds : List Declaration) → AreByText text (clause n ps r ∷ ds) → IsOneOf (name_of n) (names (bindings_of k all (declarations (clause n ps r ∷ ds))))
    head_listed n ps r ds t =
        let g = binding_at n ps r ds t in
        subst (λ z. IsOneOf z (names (bindings_of k all (declarations (clause n ps r ∷ ds))))) (sym t.0) (subst (λ b. IsOneOf (text n.text) (names b)) (sym g.is) (bound_listed (text n.text) (signature_of n.text all) g.clauses g.others))

    -- a clause whose variable has a signature
    pub head_signed : (n : Identifier) (ps : Patterns) (r : RightSide) (ds : List Declaration) (s : Monotype) → AreByText text (clause n ps r ∷ ds) → signature_of n.text all ≡ Some s → IsSigned (name_of n) (bindings_of k all (declarations (clause n ps r ∷ ds)))
    head_signed n ps r ds s t e =
        let g = binding_at n ps r ds t in
        subst (IsSigned (name_of n)) (sym (g.is ∙ ap (λ o. bound_by (text n.text) o g.clauses g.others) e)) (inl t.0)

    module _ (C : Assumptions) (x : Name) where
      signed_head : (d : Declaration) (ds : List Declaration) → AreByText text (d ∷ ds) → IsClauseOf x d → ¬ (SignedClauseHas k all C d) → IsSigned x (bindings_of k all (declarations (d ∷ ds)))
      signed_head (data_declaration n ps cs) ds t i f = absurd i
      signed_head (newtype_declaration n ps b) ds t i f = absurd i
      signed_head (synonym_declaration n ps b) ds t i f = absurd i
      signed_head (signature ns b) ds t i f = absurd i
      signed_head (clause n ps r) ds t i f = subst (λ z. IsSigned z (bindings_of k all (declarations (clause n ps r ∷ ds)))) (sym i) (at (signature_of n.text all) refl f)
        where
          at : (o : Option Monotype) → signature_of n.text all ≡ o → ¬ (AtDeclared o (λ s. DeriveClauses C (typed.clause (patterns_of k ps) (right_sides_of k r) (where_of k r) typed.no_clause) s)) → IsSigned (name_of n) (bindings_of k all (declarations (clause n ps r ∷ ds)))
          at None e g = absurd (g tt)
          at (Some s) e g = head_signed n ps r ds s t e
      signed_head (pattern_binding l c p r) ds t i f = absurd i

      signed_more : (d : Declaration) (ds : List Declaration) → IsSigned x (bindings_of k all (declarations ds)) → IsSigned x (bindings_of k all (declarations (d ∷ ds)))
      signed_more (data_declaration n ps cs) ds i = i
      signed_more (newtype_declaration n ps b) ds i = i
      signed_more (synonym_declaration n ps b) ds i = i
      signed_more (signature ns b) ds i = i
      signed_more (clause n ps r) ds i = signed_run (is_continued n.text ps (declarations ds)) _ x (name_of n) _ _ (bindings_of k all (declarations ds)) i
      signed_more (pattern_binding l c p r) ds i = i

      -- a clause that hasn't the declared type has one that is declared
      pub signed_from : (ds : List Declaration) (q : ℕ) (d : Declaration) → AreByText text ds → slice_get ds q ≡ Some d → IsClauseOf x d → ¬ (SignedClauseHas k all C d) → IsSigned x (bindings_of k all (declarations ds))
      signed_from [] q d t e i f = none_some e
      signed_from (b ∷ ds) zero d t e i f = signed_head b ds t (subst (IsClauseOf x) (sym (some_one e)) i) (subst (λ z. ¬ (SignedClauseHas k all C z)) (sym (some_one e)) f)
      signed_from (b ∷ ds) (suc q) d t e i f = signed_more b ds (signed_from ds q d (rest_by_text text b ds t) e i f)

    -- What the clauses mention

    module _ (x y : Name) where
      pub mention_at : (ds : List Declaration) → AreByText text ds → ¬ (IsUnsigned x (bindings_of k all (declarations ds))) → BindingMentions x y (bindings_of k all (declarations ds)) → (q : ℕ) × ((d : Declaration) × ((slice_get ds q ≡ Some d) × (IsClauseOf x d × DeclarationMentions k y d)))
      mention_at [] t u m = absurd m
      mention_at (data_declaration n ps cs ∷ ds) t u m = let h = mention_at ds t u m in (suc h.0, h.1)
      mention_at (newtype_declaration n ps b ∷ ds) t u m = let h = mention_at ds t u m in (suc h.0, h.1)
      mention_at (synonym_declaration n ps b ∷ ds) t u m = let h = mention_at ds t u m in (suc h.0, h.1)
      mention_at (signature ns b ∷ ds) t u m = let h = mention_at ds t u m in (suc h.0, h.1)
      mention_at (clause n ps r ∷ ds) t u m = ⊎_elim
          (λ h. (zero, (clause n ps r, (refl, (one_name x (name_of n) (bindings_of k all (declarations (clause n ps r ∷ ds))) h.0 (first_name n ps r ds t), h.1)))))
          (λ h. let g = mention_at ds t.1 (λ v. u (unsigned_more (clause n ps r) ds x v)) h in (suc g.0, g.1))
          ((clause_binding (is_continued n.text ps (declarations ds)) x y (name_of n) (signature_of n.text all) (patterns_of k ps) (right_sides_of k r) (where_of k r) (bindings_of k all (declarations ds)) (begins k all (declarations ds) n.text ps)).0 m)
      mention_at (pattern_binding l c p r ∷ ds) t u m = ⊎_elim
          (λ h. absurd (u (inl h.0)))
          (λ h. let g = mention_at ds t (λ v. u (inr v)) h in (suc g.0, g.1))
          m

      mention_more : (d : Declaration) (ds : List Declaration) → BindingMentions x y (bindings_of k all (declarations ds)) → BindingMentions x y (bindings_of k all (declarations (d ∷ ds)))
      mention_more (data_declaration n ps cs) ds m = m
      mention_more (newtype_declaration n ps b) ds m = m
      mention_more (synonym_declaration n ps b) ds m = m
      mention_more (signature ns b) ds m = m
      mention_more (clause n ps r) ds m = (clause_binding (is_continued n.text ps (declarations ds)) x y (name_of n) (signature_of n.text all) (patterns_of k ps) (right_sides_of k r) (where_of k r) (bindings_of k all (declarations ds)) (begins k all (declarations ds) n.text ps)).1 (inr m)
      mention_more (pattern_binding l c p r) ds m = inr m

      mention_head : (d : Declaration) (ds : List Declaration) → AreByText text (d ∷ ds) → IsClauseOf x d → DeclarationMentions k y d → BindingMentions x y (bindings_of k all (declarations (d ∷ ds)))
      mention_head (data_declaration n ps cs) ds t i m = absurd i
      mention_head (newtype_declaration n ps b) ds t i m = absurd i
      mention_head (synonym_declaration n ps b) ds t i m = absurd i
      mention_head (signature ns b) ds t i m = absurd i
      mention_head (clause n ps r) ds t i m = (clause_binding (is_continued n.text ps (declarations ds)) x y (name_of n) (signature_of n.text all) (patterns_of k ps) (right_sides_of k r) (where_of k r) (bindings_of k all (declarations ds)) (begins k all (declarations ds) n.text ps)).1
          (inl (subst (λ z. FirstIs z (bindings_of k all (declarations (clause n ps r ∷ ds)))) (sym i) (first_name n ps r ds t), m))
      mention_head (pattern_binding l c p r) ds t i m = absurd i

      pub mention_from : (ds : List Declaration) → AreByText text ds → (q : ℕ) (d : Declaration) → slice_get ds q ≡ Some d → IsClauseOf x d → DeclarationMentions k y d → BindingMentions x y (bindings_of k all (declarations ds))
      mention_from [] t q d e i m = none_some e
      mention_from (c ∷ ds) t zero d e i m = mention_head c ds t (subst (IsClauseOf x) (sym (some_one e)) i) (subst (DeclarationMentions k y) (sym (some_one e)) m)
      mention_from (c ∷ ds) t (suc q) d e i m = mention_more c ds (mention_from ds (rest_by_text text c ds t) q d e i m)

    -- Runs

    module _ (x : Name) where
      names_more : (d : Declaration) (ds : List Declaration) → IsOneOf x (names (bindings_of k all (declarations ds))) → IsOneOf x (names (bindings_of k all (declarations (d ∷ ds))))
      names_more (data_declaration n ps cs) ds o = o
      names_more (newtype_declaration n ps b) ds o = o
      names_more (synonym_declaration n ps b) ds o = o
      names_more (signature ns b) ds o = o
      names_more (clause n ps r) ds o = names_run (is_continued n.text ps (declarations ds)) _ x (name_of n) _ _ (bindings_of k all (declarations ds)) o
      names_more (pattern_binding l c p r) ds o = names_after x _ (names (bindings_of k all (declarations ds))) o

      listed_head : (d : Declaration) (ds : List Declaration) → AreByText text (d ∷ ds) → IsClauseOf x d → IsOneOf x (names (bindings_of k all (declarations (d ∷ ds))))
      listed_head (data_declaration n ps cs) ds t i = absurd i
      listed_head (newtype_declaration n ps b) ds t i = absurd i
      listed_head (synonym_declaration n ps b) ds t i = absurd i
      listed_head (signature ns b) ds t i = absurd i
      listed_head (clause n ps r) ds t i = subst (λ z. IsOneOf z (names (bindings_of k all (declarations (clause n ps r ∷ ds))))) (sym i) (head_listed n ps r ds t)
      listed_head (pattern_binding l c p r) ds t i = absurd i

      listed : (ds : List Declaration) (q : ℕ) (d : Declaration) → AreByText text ds → slice_get ds q ≡ Some d → IsClauseOf x d → IsOneOf x (names (bindings_of k all (declarations ds)))
      listed [] q d t e i = none_some e
      listed (c ∷ ds) zero d t e i = listed_head c ds t (subst (IsClauseOf x) (sym (some_one e)) i)
      listed (c ∷ ds) (suc q) d t e i = names_more c ds (listed ds q d (rest_by_text text c ds t) e i)

      alone_run : (b : Bool) (f : Clauses → Clauses) (z : Name) (o : Option Monotype) (cs : Clauses) (bs : Bindings) → x ≡ z → IsOneOf x (names bs) → IsDistinct (names (cond b (add_clause f bs) (bound_by z o cs bs))) → b ≡ true
      alone_run true f z o cs bs e i d = refl
      alone_run false f z None cs bs e i d = absurd (d.0 (subst (λ v. IsOneOf v (names bs)) e i))
      alone_run false f z (Some s) cs bs e i d = absurd (d.0 (subst (λ v. IsOneOf v (names bs)) e i))

      goes_from : (d : Declaration) (ds : List Declaration) → IsClauseOf x d → IsOneOf x (names (bindings_of k all (declarations ds))) → IsDistinct (names (bindings_of k all (declarations (d ∷ ds)))) → goes_on (d ∷ ds) ≡ true
      goes_from (data_declaration n ps cs) ds i o u = absurd i
      goes_from (newtype_declaration n ps b) ds i o u = absurd i
      goes_from (synonym_declaration n ps b) ds i o u = absurd i
      goes_from (signature ns b) ds i o u = absurd i
      goes_from (clause n ps r) ds i o u = alone_run (is_continued n.text ps (declarations ds)) _ (name_of n) _ _ (bindings_of k all (declarations ds)) i o u
      goes_from (pattern_binding l c p r) ds i o u = absurd i

      -- the first declaration is a clause of x
      abbrev pub HeadOf : List Declaration → Type 0
      HeadOf [] = ⊥
      HeadOf (d ∷ ds) = IsClauseOf x d

      same_names : (n m : Identifier) → name_of n ≡ text n.text → name_of m ≡ text m.text → n.text ≡ m.text → name_of n ≡ name_of m
      same_names n m a b e = a ∙ (ap text e ∙ sym b)

      continued_names : (n : Identifier) (ps : Patterns) (ds : List Declaration) → name_of n ≡ text n.text → is_continued n.text ps (declarations ds) ≡ true → AreByText text ds → HeadOf ds ↔ (x ≡ name_of n)
      continued_names n ps [] a e t = absurd (true≢false (sym e))
      continued_names n ps (data_declaration m qs cs ∷ ds) a e t = absurd (true≢false (sym e))
      continued_names n ps (newtype_declaration m qs c ∷ ds) a e t = absurd (true≢false (sym e))
      continued_names n ps (synonym_declaration m qs b ∷ ds) a e t = absurd (true≢false (sym e))
      continued_names n ps (signature ns b ∷ ds) a e t = absurd (true≢false (sym e))
      continued_names n ps (pattern_binding l c p r ∷ ds) a e t = absurd (true≢false (sym e))
      continued_names n ps (clause m qs r ∷ ds) a e t =
          let same : name_of n ≡ name_of m = same_names n m a t.0 ((text_decides n.text m.text).0 (both (same_text n.text m.text) _ e)) in
          ((λ i. i ∙ sym same), (λ i. i ∙ same))

      -- where a declaration goes on a binding both are clauses of it
      on_head : (d : Declaration) (ds : List Declaration) → AreByText text (d ∷ ds) → goes_on (d ∷ ds) ≡ true → HeadOf ds ↔ IsClauseOf x d
      on_head (data_declaration n ps cs) ds t e = absurd (true≢false (sym e))
      on_head (newtype_declaration n ps b) ds t e = absurd (true≢false (sym e))
      on_head (synonym_declaration n ps b) ds t e = absurd (true≢false (sym e))
      on_head (signature ns b) ds t e = absurd (true≢false (sym e))
      on_head (clause n ps r) ds t e = continued_names n ps ds t.0 e t.1
      on_head (pattern_binding l c p r) ds t e = absurd (true≢false (sym e))

      run_on : (ds : List Declaration) (q : ℕ) (d : Declaration) → HeadOf ds → slice_get ds q ≡ Some d → IsClauseOf x d → AreByText text ds → IsDistinct (names (bindings_of k all (declarations ds))) → (i : ℕ) → i < q → goes_on (drop i ds) ≡ true
      run_on [] q d h e c t u i l = absurd h
      run_on (b ∷ ds) zero d h e c t u i l = absurd (omega (arith, l))
      run_on (b ∷ ds) (suc q) d h e c t u zero l = goes_from b ds h (listed ds q d (rest_by_text text b ds t) e c) u
      run_on (b ∷ ds) (suc q) d h e c t u (suc i) l =
          let g = goes_from b ds h (listed ds q d (rest_by_text text b ds t) e c) u in
          run_on ds q d ((on_head b ds t g).1 h) e c (rest_by_text text b ds t) (distinct_less b ds u) i (omega (arith, l))

      -- clauses of x stand together
      pub clauses_together : (ds : List Declaration) (p q : ℕ) (b d : Declaration) → slice_get ds p ≡ Some b → IsClauseOf x b → slice_get ds q ≡ Some d → IsClauseOf x d → AreByText text ds → IsDistinct (names (bindings_of k all (declarations ds))) → p ≤ q → (i : ℕ) → p ≤ i → i < q → goes_on (drop i ds) ≡ true
      clauses_together [] p q b d e h f c t u l i m n = none_some e
      clauses_together (a ∷ ds) zero q b d e h f c t u l i m n = run_on (a ∷ ds) q d (subst (IsClauseOf x) (sym (some_one e)) h) f c t u i n
      clauses_together (a ∷ ds) (suc p) zero b d e h f c t u l i m n = absurd (omega (arith, l))
      clauses_together (a ∷ ds) (suc p) (suc q) b d e h f c t u l zero m n = absurd (omega (arith, m))
      clauses_together (a ∷ ds) (suc p) (suc q) b d e h f c t u l (suc i) m n = clauses_together ds p q b d e h f c (rest_by_text text a ds t) (distinct_less a ds u) (omega (arith, l)) i (omega (arith, m)) (omega (arith, n))

      run_named : (ds : List Declaration) (q : ℕ) (d : Declaration) → HeadOf ds → slice_get ds q ≡ Some d → AreByText text ds → ((i : ℕ) → i < q → goes_on (drop i ds) ≡ true) → IsClauseOf x d
      run_named [] q d h e t f = absurd h
      run_named (b ∷ ds) zero d h e t f = subst (IsClauseOf x) (some_one e) h
      run_named (b ∷ ds) (suc q) d h e t f = run_named ds q d ((on_head b ds t (f zero (omega arith))).1 h) e (rest_by_text text b ds t) (λ i l. f (suc i) (omega (arith, l)))

      -- what goes on a clause of x is one
      pub named_along : (ds : List Declaration) (p q : ℕ) (b d : Declaration) → slice_get ds p ≡ Some b → IsClauseOf x b → slice_get ds q ≡ Some d → AreByText text ds → p ≤ q → ((i : ℕ) → p ≤ i → i < q → goes_on (drop i ds) ≡ true) → IsClauseOf x d
      named_along [] p q b d e h f t l g = none_some e
      named_along (a ∷ ds) zero q b d e h f t l g = run_named (a ∷ ds) q d (subst (IsClauseOf x) (sym (some_one e)) h) f t (λ i m. g i (omega arith) m)
      named_along (a ∷ ds) (suc p) zero b d e h f t l g = absurd (omega (arith, l))
      named_along (a ∷ ds) (suc p) (suc q) b d e h f t l g = named_along ds p q b d e h f (rest_by_text text a ds t) (omega (arith, l)) (λ i m n. g (suc i) (omega (arith, m)) (omega (arith, n)))

      head_of : (ds : List Declaration) (d : Declaration) → slice_get ds 0 ≡ Some d → IsClauseOf x d → HeadOf ds
      head_of [] d e i = none_some e
      head_of (b ∷ ds) d e i = subst (IsClauseOf x) (sym (some_one e)) i

      -- what a clause of x goes on is one
      pub before_named : (ds : List Declaration) (q : ℕ) (d : Declaration) → slice_get ds (suc q) ≡ Some d → IsClauseOf x d → AreByText text ds → goes_on (drop q ds) ≡ true → (b : Declaration) × ((slice_get ds q ≡ Some b) × IsClauseOf x b)
      before_named [] q d e i t g = none_some e
      before_named (b ∷ ds) zero d e i t g = (b, (refl, (on_head b ds t g).0 (head_of ds d e i)))
      before_named (b ∷ ds) (suc q) d e i t g = before_named ds q d e i (rest_by_text text b ds t) g

      -- the first clause of x
      pub first_clause : (ds : List Declaration) (q : ℕ) (d : Declaration) → slice_get ds q ≡ Some d → IsClauseOf x d → AreByText text ds → (p : ℕ) × ((b : Declaration) × ((p ≤ q) × (BeginsRun ds p × ((slice_get ds p ≡ Some b) × IsClauseOf x b))))
      first_clause ds zero d e i t = (zero, (d, (omega arith, ((λ j h. absurd (omega (arith, h))), (e, i)))))
      first_clause ds (suc q) d e i t = at (goes_on (drop q ds)) refl (λ b f j. first_clause ds q b f j t)
        where
          at : (c : Bool) → goes_on (drop q ds) ≡ c → ((b : Declaration) → slice_get ds q ≡ Some b → IsClauseOf x b → (p : ℕ) × ((b : Declaration) × ((p ≤ q) × (BeginsRun ds p × ((slice_get ds p ≡ Some b) × IsClauseOf x b))))) →
              (p : ℕ) × ((b : Declaration) × ((p ≤ suc q) × (BeginsRun ds p × ((slice_get ds p ≡ Some b) × IsClauseOf x b))))
          at true g next = let h = before_named ds q d e i t g in let r = next h.0 h.1.0 h.1.1 in (r.0, (r.1.0, ((let l = r.1.1.0 in omega (arith, l)), r.1.1.1)))
          at false g next = (suc q, (d, (omega arith, ((λ j h. ap (λ z. goes_on (drop z ds)) (let k = h in omega (arith, k)) ∙ g), (e, i)))))
