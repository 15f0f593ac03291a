-- A binding with a signature that is a fault is told by its first clause.
use Rattle.std.proofs.Common.{◌≡◌, ℕ, false, zero, suc, ◌<◌, Bool, List, [], ◌∷◌, ◌++◌, map, length, Option, Some, None, Contains, inl, inr, ◌⊎◌, refl, sym, ap, ◌∙◌, subst, arith}
use Rattle.std.specs.List.{slice_get}
use Rattle.hm_typing.specs.Names.{Identifier as Name, IsOneOf}
use Rattle.hm_typing.specs.Orders.{AreNumberedGroups}
use Rattle.hm_typing.specs.Syntax as typed
use Rattle.hm_typing.specs.Syntax.{names}
use Rattle.hm_typing.specs.Units.{IsSigned, IsUnsigned, SameUnit}
use Rattle.hm_typing.specs.Verdicts.{IsFirstIn, IsTypeFault}
use Rattle.hm_typing.proofs.Bridge.{one_kind, signed_name}
use Rattle.hm_typing.proofs.Judge.{Reaches-unsigned}
use Rattle.hm_typing.proofs.Names.{name_discrete}
use Rattle.hm_syntax.specs.Names.{Identifier}
use Rattle.hm_syntax.specs.Trees.{Declaration, data_declaration, newtype_declaration, synonym_declaration, signature, clause, pattern_binding, Declarations}
use Rattle.hm_syntax.specs.Lists.{declarations}
use Rattle.hm_names.specs.Cores.{IsSomeCore, known}
use Rattle.hm_names.specs.ModuleCores.{ModuleCore}
use Rattle.hm_names.specs.Syntax.{Known, bindings_of, name_of, pattern_of}
use Rattle.hm_names.specs.Untyped.{Begins, by_clause, by_pattern, by_number, IsTold, here, behind}
use Rattle.hm_names.specs.Variables.{pattern_variables}
use Rattle.hm_infer_dependencies.specs.Groups.{node_name}
use Rattle.hm_names_keys.specs.Variables.{Variable}
use Rattle.hm_infer_context.specs.Environments.{Assumed, AreAssumed, assumptions}
use Rattle.hm_infer.specs.JudgedUnits.{UnitsJudged}
use Rattle.hm_infer.specs.SignedFaults.{AreSignedFaults}
use Rattle.hm_infer_expressions.specs.Stages.{IsListFound, list_of}
use Rattle.hm_infer.proofs.FirstTold.{AreByText, core_by_text, names_of_pattern, own_number, told_by}
use Rattle.hm_infer.proofs.SignedClauses.{IsClauseOf, unsigned_more}
use Rattle.hm_infer.proofs.SignedPlaces.{SignedAt, fault_placed, place_told}

some_one : {X : Type 0} {a b : X} → Some a ≡ Some b → a ≡ b
some_one h = cc

none_some : {X Y : Type 0} {a : X} → None ≡ Some a → Y
none_some h = cc

contained : (vs : List Identifier) (n : Identifier) → Contains vs n → IsOneOf n vs
contained [] n h = absurd (let l = h.1 in omega (arith, l))
contained (v ∷ vs) n (zero, l, e) = inl (sym e)
contained (v ∷ vs) n (suc i, l, e) = inr (contained vs n (i, omega (arith, l), e))

mapped : (m : Identifier) (vs : List Identifier) → IsOneOf m vs → IsOneOf (name_of m) (map name_of vs)
mapped m [] o = o
mapped m (v ∷ vs) (inl e) = inl (ap name_of e)
mapped m (v ∷ vs) (inr o) = inr (mapped m vs o)

left_of : (x : Name) (xs ys : List Name) → IsOneOf x xs → IsOneOf x (xs ++ ys)
left_of x [] ys o = absurd o
left_of x (z ∷ xs) ys (inl e) = inl e
left_of x (z ∷ xs) ys (inr o) = inr (left_of x xs ys o)

right_of : (x : Name) (xs ys : List Name) → IsOneOf x ys → IsOneOf x (xs ++ ys)
right_of x [] ys o = o
right_of x (z ∷ xs) ys o = inr (right_of x xs ys o)

module _ (c : ModuleCore) (k : Known) (home : k.home ≡ c.name) (all : Declarations) (x : Name) where
  -- what begins the binding of a name that isn't unsigned is a clause of it
  pub clause_begins : (d : Declaration) (ds : List Declaration) (o : Identifier) → ¬ (IsUnsigned x (bindings_of k all (declarations (d ∷ ds)))) → Begins c x d (length ds) o → IsClauseOf x d
  clause_begins (data_declaration n ps cs) ds o u h = elim h [ ]
  clause_begins (newtype_declaration n ps b) ds o u h = elim h [ ]
  clause_begins (synonym_declaration n ps b) ds o u h = elim h [ ]
  clause_begins (signature ns b) ds o u h = elim h [ ]
  clause_begins (clause n ps r) ds o u (by_clause e) = e
  clause_begins (pattern_binding l m p r) ds o u (by_pattern {n = n} i e) =
      absurd (u (inl (left_of x (typed.pattern_names (pattern_of k p)) _ (subst (IsOneOf x) (sym (names_of_pattern k p)) (subst (λ z. IsOneOf z (map name_of (pattern_variables p))) (sym e) (mapped n (pattern_variables p) (contained (pattern_variables p) n i)))))))
  clause_begins (pattern_binding l m p r) ds o u (by_number e) =
      absurd (u (inl (right_of x (typed.pattern_names (pattern_of k p)) _ (inl (e ∙ sym (own_number c k home all (λ y. x) (λ y. false) ds))))))

  pub begun : (d : Declaration) (j : ℕ) → IsClauseOf x d → Begins c x d j (told_by d)
  begun (data_declaration n ps cs) j i = absurd i
  begun (newtype_declaration n ps b) j i = absurd i
  begun (synonym_declaration n ps b) j i = absurd i
  begun (signature ns b) j i = absurd i
  begun (clause n ps r) j i = by_clause i
  begun (pattern_binding l m p r) j i = absurd i

  -- the first clause tells the name
  told_at : (ds : List Declaration) (p : ℕ) (d : Declaration) → ¬ (IsUnsigned x (bindings_of k all (declarations ds))) → slice_get ds p ≡ Some d → IsClauseOf x d → ((q : ℕ) (e : Declaration) → q < p → slice_get ds q ≡ Some e → ¬ (IsClauseOf x e)) → IsTold c x ds (told_by d)
  told_at [] p d u e i f = none_some e
  told_at (b ∷ ds) zero d u e i f = subst (λ z. IsTold c x (b ∷ ds) (told_by z)) (some_one e) (here (begun b (length ds) (subst (IsClauseOf x) (sym (some_one e)) i)))
  told_at (b ∷ ds) (suc p) d u e i f = behind (λ o h. f zero b (omega arith) refl (clause_begins b ds o u h)) (told_at ds p d (λ v. u (unsigned_more k all b ds x v)) e i (λ q a l g. f (suc q) a (omega (arith, l)) g))

-- a signed name is the first of its unit, in which it is alone
first_alone : (ds : typed.Bindings) (x : Name) (ys : List Name) → ((y : Name) → SameUnit ds x y → x ≡ y) → IsOneOf x ys → IsFirstIn ds x ys
first_alone ds x [] f o = o
first_alone ds x (y ∷ ys) f o = at (name_discrete x y) (first_alone ds x ys f) o
  where
    rest : ¬ (x ≡ y) → (x ≡ y) ⊎ IsOneOf x ys → IsOneOf x ys
    rest n (inl e) = absurd (n e)
    rest n (inr p) = p

    at : Dec (x ≡ y) → (IsOneOf x ys → IsFirstIn ds x ys) → IsOneOf x (y ∷ ys) → IsFirstIn ds x (y ∷ ys)
    at (yes e) next p = inl e
    at (no n) next p = inr ((λ s. n (f y s)), next (rest n p))

-- the first name of a unit, that is a fault and told by the declaration at a place
pub record SignedTold (c : ModuleCore) (base : List Assumed) (x : Name) (p : ℕ) : Type 0 where
  pub start : SignedAt (known c) c.decls x p
  pub first : IsFirstIn (list_of (known c) c.decls) x (names (list_of (known c) c.decls))
  pub is_fault : IsTypeFault (assumptions base) (list_of (known c) c.decls) x
  pub told : IsTold c x c.decls (told_by start.declaration)

module _ (c : ModuleCore) (s : IsSomeCore c) (nodes : List (Option Variable)) (rows : List (List ℕ)) (found : IsListFound (known c) c.decls nodes rows) (gs : List (List ℕ)) (groups : AreNumberedGroups (list_of (known c) c.decls) (node_name (known c) (declarations c.decls)) (length nodes) gs)
    (base es : List Assumed) (closed : AreAssumed 0 base) (closed_es : AreAssumed 0 es) (table : List Bool) (u : UnitsJudged (known c) c.decls gs (length nodes) (length gs) base es table) (places : List ℕ) (told : AreSignedFaults (known c) (declarations c.decls) (assumptions es) nodes table c.decls places) where
  texts : (own : List ℕ → Name) × AreByText own c.decls
  texts = core_by_text c s

  signed_told : (x : Name) (p : ℕ) → SignedAt (known c) c.decls x p → IsTypeFault (assumptions base) (list_of (known c) c.decls) x → SignedTold c base x p
  signed_told x p a f = record {
    start = a;
    first = first_alone (list_of (known c) c.decls) x (names (list_of (known c) c.decls)) alone (signed_name (list_of (known c) c.decls) x a.is_signed);
    is_fault = f;
    told = told_at c (known c) refl (declarations c.decls) x c.decls p a.declaration (λ v. one_kind (list_of (known c) c.decls) u.layout.units.0 x a.is_signed v) a.at a.of_name a.first;
  }
    where
      alone : (y : Name) → SameUnit (list_of (known c) c.decls) x y → x ≡ y
      alone y (inl e) = e
      alone y (inr r) = absurd (one_kind (list_of (known c) c.decls) u.layout.units.0 x a.is_signed (Reaches-unsigned (list_of (known c) c.decls) r.1))

  -- each place that is found tells a signed name that is a fault
  pub place_tells : (p : ℕ) → Contains places p → (x : Name) × SignedTold c base x p
  place_tells p o = let h = place_told (known c) c.decls texts.0 texts.1 nodes rows found gs groups base es closed closed_es table u places told p o in (h.0, signed_told h.0 p h.1.0 h.1.1)

  -- and each such name is told by one
  pub fault_tells : (x : Name) → IsSigned x (list_of (known c) c.decls) → IsTypeFault (assumptions base) (list_of (known c) c.decls) x → (p : ℕ) × (Contains places p × SignedTold c base x p)
  fault_tells x i f = let h = fault_placed (known c) c.decls texts.0 texts.1 nodes rows found gs groups base es closed closed_es table u places told x i f in (h.0, (h.1.0, signed_told x h.0 h.1.1 f))
