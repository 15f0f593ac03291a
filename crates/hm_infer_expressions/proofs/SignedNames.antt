-- Signatures, and the variables that they bind.
use Rattle.std.proofs.Common.{◌≡◌, ℕ, ◌-◌, ◌<◌, Bool, true, false, cond, nat_lt, ◌||◌, List, [], ◌∷◌, ◌++◌, Option, Some, None, option_map, bytes_eq, inl, inr, ⊎_elim, ◌↔◌, refl, sym, ap, ap₂, ◌∙◌, subst, arith}
use Rattle.std.specs.Map.{update}
use Rattle.std.specs.Borrow.{Bor}
use Rattle.std.proofs.lemmas.Map.{update_same, update_other}
use Rattle.std.proofs.lemmas.Bool.{cases_Bool, both_ways}
use Rattle.std.proofs.lemmas.Bool.Decides.{nat_tests}
use Rattle.std.proofs.lemmas.Slice.Eq.{bytes_eq-Decides}
use Rattle.indexmap.specs.IndexMap.{get_by}
use Rattle.hm_types.specs.Types.{Var, App, done, more, put_all}
use Rattle.hm_types.specs.Monotypes.{Mono, Monos, var, rigid}
use Rattle.hm_typing.specs.Names.{Identifier as Name}
use Rattle.hm_typing.specs.Schemes.{Monotype, Scheme, Free, Quantified, closed}
use Rattle.hm_typing.specs.Programs.{monotype_of, variable_of}
use Rattle.hm_typing.specs.Syntax as typed
use Rattle.hm_typing.specs.Syntax.{Bindings, Clauses, no_binding, unsigned, signed, matched}
use Rattle.hm_typing.specs.Units.{IsSigned}
use Rattle.hm_typing.specs.Orders.{SignedAre}
use Rattle.hm_syntax.specs.Names.{Identifier}
use Rattle.hm_syntax.specs.Trees.{TypeTree, Patterns, RightSide, Declaration, data_declaration, newtype_declaration, synonym_declaration, signature, clause, pattern_binding, Declarations, more_declarations}
use Rattle.hm_syntax.specs.declared.ast.DeclKind.{DeclKind}
use Rattle.hm_syntax.specs.declared.ast.DeclKind.TheVariants.{DataType, Newtype, Synonym, Signature, Clause, Pattern}
use Rattle.hm_syntax.specs.Views.OfExpressions.{declaration_of}
use Rattle.hm_names.specs.Syntax.{Known, bindings_of, bound_by, add_clause, is_continued, is_signed_among, name_of, patterns_of, right_sides_of, signature_of, where_of}
use Rattle.hm_names.specs.Texts.{same_text}
use Rattle.hm_names.specs.Types.{declared_type}
use Rattle.hm_unify.specs.WellFormed.{IsWellFormed, AreWellFormed}
use Rattle.hm_infer_context.specs.Environments.{Assumed, OpenScheme, scheme_in, slot}
use Rattle.hm_infer_expressions.specs.SignedLists.{Signatures, declared_in, AreSignatures, BindsSigned, BindsDeclaration}
use Rattle.hm_infer_dependencies.proofs.MemberLists.{one_pushed}
use Rattle.hm_infer_expressions.proofs.Naming.{binds_more, binds_none, same_scheme}

-- A name more

same_cond : {X : Type 0} (b : Bool) (o : X) → cond b o o ≡ o
same_cond true o = refl
same_cond false o = refl

pub name_step : (x : List ℕ) (t : Bor TypeTree) (old new : Signatures) (n : Identifier) (key : List ℕ) (left rest : List Identifier) → key ≡ n.text → left ≡ n ∷ rest →
    get_by (λ k. bytes_eq x k.now) new ≡ update bytes_eq (λ q. get_by (λ k. bytes_eq q k.now) old) key (Some t) x →
    cond (is_signed_among x rest) (Some (declared_type t.now)) (declared_in new x) ≡ cond (is_signed_among x left) (Some (declared_type t.now)) (declared_in old x)
name_step x t old new n key left rest e f u = ⊎_elim same other (cases_Bool (bytes_eq key x))
  where
    T : Option Monotype
    T = Some (declared_type t.now)

    after : {b : Bool} → same_text x n.text ≡ b → cond (is_signed_among x left) T (declared_in old x) ≡ cond (b || is_signed_among x rest) T (declared_in old x)
    after h = ap (λ ns. cond (is_signed_among x ns) T (declared_in old x)) f ∙ ap (λ b. cond (b || is_signed_among x rest) T (declared_in old x)) h

    same : bytes_eq key x ≡ true → cond (is_signed_among x rest) T (declared_in new x) ≡ cond (is_signed_among x left) T (declared_in old x)
    same s =
        let there : declared_in new x ≡ T = ap (option_map (λ k. declared_type k.now)) (u ∙ update_same bytes_eq (λ q. get_by (λ k. bytes_eq q k.now) old) key (Some t) x s) in
        let here : same_text x n.text ≡ true = (bytes_eq-Decides x n.text).1 (sym ((bytes_eq-Decides key x).0 s) ∙ e) in
        ap (cond (is_signed_among x rest) T) there ∙ (same_cond (is_signed_among x rest) T ∙ sym (after here))

    other : bytes_eq key x ≡ false → cond (is_signed_among x rest) T (declared_in new x) ≡ cond (is_signed_among x left) T (declared_in old x)
    other s =
        let there : declared_in new x ≡ declared_in old x = ap (option_map (λ k. declared_type k.now)) (u ∙ update_other bytes_eq (λ q. get_by (λ k. bytes_eq q k.now) old) key (Some t) x s) in
        let apart : same_text x n.text ≡ false = ⊎_elim (λ h. absurd (both_ways (bytes_eq key x) s ((bytes_eq-Decides key x).1 (e ∙ sym ((bytes_eq-Decides x n.text).0 h))))) (λ h. h) (cases_Bool (same_text x n.text)) in
        ap (cond (is_signed_among x rest) T) there ∙ sym (after apart)

pub names_done : (x : List ℕ) (s : Option Monotype) (table : Signatures) (left : List Identifier) (all : Option Monotype) → left ≡ [] → cond (is_signed_among x left) s (declared_in table x) ≡ all → declared_in table x ≡ all
names_done x s table left all e h = sym (ap (λ ns. cond (is_signed_among x ns) s (declared_in table x)) e) ∙ h

-- A signature before other declarations

pub signature_added : (ns : List Identifier) (t : TypeTree) (d : Declaration) (old new : Signatures) → d ≡ signature ns t → ((x : List ℕ) → declared_in new x ≡ cond (is_signed_among x ns) (Some (declared_type t)) (declared_in old x)) → (ds : Declarations) → AreSignatures ds old → AreSignatures (more_declarations d ds) new
signature_added ns t d old new e h ds a x = h x ∙ (ap (cond (is_signed_among x ns) (Some (declared_type t))) (a x) ∙ ap (λ z. signature_of x (more_declarations z ds)) (sym e))

-- What a declared scheme is

mutual
  scheme_closed : (k : ℕ) (t : Mono) → IsWellFormed k t → scheme_in (record { quantified = k; body = t }) ≡ closed (monotype_of t)
  scheme_closed k (Var (var n)) w = let h : n < k = w in let e : nat_lt n k ≡ true = grind (arith, nat_tests) in ap (λ b. Var (cond b (Quantified n) (Free (Rattle.hm_infer_context.specs.Problems.number (var (n - k)))))) e
  scheme_closed k (Var (rigid n)) w = let h : n < k = w in let e : nat_lt n k ≡ true = grind (arith, nat_tests) in ap (λ b. Var (cond b (Quantified n) (Free (Rattle.hm_infer_context.specs.Problems.number (rigid (n - k)))))) e
  scheme_closed k (App h ts) w = ap (App h) (all_schemes_closed k ts w.1)

  all_schemes_closed : (k : ℕ) (ts : Monos) → AreWellFormed k ts → put_all (λ l. Var (slot k l)) ts ≡ put_all (λ a. Var (Quantified a)) (put_all variable_of ts)
  all_schemes_closed k done w = refl
  all_schemes_closed k (more t ts) w = ap₂ more (scheme_closed k t w.0) (all_schemes_closed k ts w.1)

-- Which variables of a list are bound

pub signed_none : (es : List Assumed) → BindsSigned no_binding es es
signed_none es σ d = ([], ((λ x. ((λ o. o), (λ o. o))), binds_none σ es))

binds_same : (D D' : Bindings) (base es : List Assumed) → ((σ : Name → Scheme) → SignedAre σ D' → SignedAre σ D) → ((x : Name) → IsSigned x D ↔ IsSigned x D') → BindsSigned D base es → BindsSigned D' base es
binds_same D D' base es f g b σ d = let c = b σ (f σ d) in (c.0, ((λ x. ((λ o. (g x).0 ((c.1.0 x).0 o)), (λ i. (c.1.0 x).1 ((g x).1 i)))), c.1.1))

added_are : (c : Clauses → Clauses) (σ : Name → Scheme) (D : Bindings) → SignedAre σ (add_clause c D) → SignedAre σ D
added_are c σ no_binding d = d
added_are c σ (unsigned x cs D) d = d
added_are c σ (signed x s cs D) d = d
added_are c σ (matched x p cs D) d = d

added_signed : (c : Clauses → Clauses) (x : Name) (D : Bindings) → IsSigned x D ↔ IsSigned x (add_clause c D)
added_signed c x no_binding = ((λ h. h), (λ h. h))
added_signed c x (unsigned y cs D) = ((λ h. h), (λ h. h))
added_signed c x (signed y s cs D) = ((λ h. h), (λ h. h))
added_signed c x (matched y p cs D) = ((λ h. h), (λ h. h))

-- a binding with a signature before others
signed_more : (y : Name) (t : Monotype) (cs : Clauses) (D : Bindings) (s : OpenScheme) (base es es' : List Assumed) → es' ≡ record { name = y; scheme = s } ∷ es → scheme_in s ≡ closed t → BindsSigned D base es → BindsSigned (signed y t cs D) base es'
signed_more y t cs D s base es es' e f b σ d =
    let c = b σ d.1 in (
      c.0 ++ y ∷ [],
      (
        (λ x. (
          (λ o. ⊎_elim (λ h. inr ((c.1.0 x).0 h)) inl ((one_pushed x y c.0).0 o)),
          (λ i. (one_pushed x y c.0).1 (⊎_elim inr (λ h. inl ((c.1.0 x).1 h)) i)),
        )),
        binds_more c.0 σ base es es' y s c.1.1 e (same_scheme (scheme_in s) (σ y) (f ∙ sym d.0)),
      ),
    )

-- a declaration that is no clause
abbrev pub IsOther : Declaration → Type 0
IsOther (data_declaration n ps cs) = Unit {0}
IsOther (newtype_declaration n ps c) = Unit {0}
IsOther (synonym_declaration n ps t) = Unit {0}
IsOther (signature ns t) = Unit {0}
IsOther (clause n ps r) = ⊥
IsOther (pattern_binding l c p r) = Unit {0}

pub is_other : (kind : DeclKind) (d : Declaration) → declaration_of kind ≡ d → ((n : _) (ps : _) (r : _) → kind ≡ Clause n ps r → ⊥) → IsOther d
is_other kind d e h = subst IsOther e (at kind h)
  where
    at : (z : DeclKind) → ((n : _) (ps : _) (r : _) → z ≡ Clause n ps r → ⊥) → IsOther (declaration_of z)
    at (DataType n ps cs) h = tt
    at (Newtype n ps c) h = tt
    at (Synonym n ps t) h = tt
    at (Signature ns t) h = tt
    at (Clause n ps r) h = h n ps r refl
    at (Pattern place p r) h = tt

pub binds_other : (k : Known) (all : Declarations) (d : Declaration) (ds : Declarations) (es : List Assumed) → IsOther d → BindsDeclaration k all d ds es es
binds_other k all (data_declaration n ps cs) ds es o base b = b
binds_other k all (newtype_declaration n ps c) ds es o base b = b
binds_other k all (synonym_declaration n ps t) ds es o base b = b
binds_other k all (signature ns t) ds es o base b = b
binds_other k all (clause n ps r) ds es o base b = absurd o
binds_other k all (pattern_binding l c p r) ds es o base b = b

-- a declaration more

module _ (k : Known) (all : Declarations) (n : Identifier) (ps : Patterns) (r : RightSide) (ds : Declarations) where
  abbrev own : Clauses
  own = typed.clause (patterns_of k ps) (right_sides_of k r) (where_of k r) typed.no_clause

  abbrev on : Clauses → Clauses
  on cs = typed.clause (patterns_of k ps) (right_sides_of k r) (where_of k r) cs

  abbrev rest : Bindings
  rest = bindings_of k all ds

  clause_is : (b : Bool) (o : Option Monotype) → is_continued n.text ps ds ≡ b → signature_of n.text all ≡ o → bindings_of k all (more_declarations (clause n ps r) ds) ≡ cond b (add_clause on rest) (bound_by (name_of n) o own rest)
  clause_is b o h g = ap (λ z. cond z (add_clause on rest) (bound_by (name_of n) (signature_of n.text all) own rest)) h ∙ ap (λ z. cond b (add_clause on rest) (bound_by (name_of n) z own rest)) g

  pub binds_continued : (es : List Assumed) → is_continued n.text ps ds ≡ true → BindsDeclaration k all (clause n ps r) ds es es
  binds_continued es h base b = subst (λ D. BindsSigned D base es) (sym (clause_is true (signature_of n.text all) h refl)) (binds_same rest (add_clause on rest) base es (λ σ d. added_are on σ rest d) (λ x. added_signed on x rest) b)

  pub binds_unsigned : (es : List Assumed) → is_continued n.text ps ds ≡ false → signature_of n.text all ≡ None → BindsDeclaration k all (clause n ps r) ds es es
  binds_unsigned es h g base b = subst (λ D. BindsSigned D base es) (sym (clause_is false None h g)) b

  pub binds_declared : (es es' : List Assumed) (t : Monotype) (count : ℕ) (body : Mono) → is_continued n.text ps ds ≡ false → signature_of n.text all ≡ Some t → IsWellFormed count body → monotype_of body ≡ t →
      es' ≡ record { name = name_of n; scheme = record { quantified = count; body = body } } ∷ es → BindsDeclaration k all (clause n ps r) ds es es'
  binds_declared es es' t count body h g w e f base b =
      subst (λ D. BindsSigned D base es') (sym (clause_is false (Some t) h g))
      (signed_more (name_of n) t own rest (record { quantified = count; body = body }) base es es' f (scheme_closed count body w ∙ ap closed e) b)
