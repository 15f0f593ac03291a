-- The pairs of what a declaration declares.
use Rattle.std.proofs.Common.{◌≡◌, ℕ, false, List, [], ◌∷◌, ◌⊎◌, inl, inr, ⊎_elim, refl, sym, ap, ◌∙◌, subst, Contains, Bor, map, zero, suc, arith}
use Rattle.std.proofs.lemmas.List.{get_or-map, length-map}
use Rattle.std.proofs.lemmas.List.Elements.{Contains-append_left, Contains-append_right, Contains-push}
use Rattle.hm_syntax.specs.Names.{Identifier}
use Rattle.hm_syntax.specs.Lists.{constructors}
use Rattle.hm_syntax.specs.Trees.{TypeTree, Pattern, Patterns, RightSide, DataConstructor, Declaration, data_declaration, newtype_declaration, synonym_declaration, clause, pattern_binding}
use Rattle.hm_names.specs.declared.namespace.Namespace.{Namespace}
use Rattle.hm_names.specs.declared.namespace.Namespace.TheVariants.{Types, Constructors, Values}
use Rattle.hm_names.specs.Bindings.{Pair, Adds, IsPairOf, IsDeclaredPair, IsOwnPair}
use Rattle.hm_names.specs.Entities.{DeclaredBy, a_data_type, a_newtype, a_synonym, a_constructor, a_newtype_constructor, a_variable, a_matched_variable, named, constructor_name, constructor_list}
use Rattle.hm_names.specs.Variables.{pattern_variables}
use Rattle.hm_syntax.specs.declared.ast.Module.{Module}
use Rattle.hm_names.proofs.AddedPairs.{adds_like, adds_then, ForEach}

pub listed : (cs : List DataConstructor) → constructor_list (constructors cs) ≡ cs
listed [] = refl
listed (c ∷ cs) = ap (λ l. c ∷ l) (listed cs)

pub contains_map : {X Y : Type 0} (f : X → Y) (xs : List X) (y : Y) → Contains (map f xs) y → (x : X) × (Contains xs x × (f x ≡ y))
contains_map f [] y (k, h, e) = absurd (omega (arith, h))
contains_map f (x ∷ xs) y (zero, h, e) = (x, (Contains-append_left (x ∷ []) xs x (Contains-push [] x), e))
contains_map f (x ∷ xs) y (suc k, h, e) = let r = contains_map f xs y (k, omega (arith, h), e) in (r.0, (Contains-append_right (x ∷ []) xs r.0 r.1.0, r.1.1))

pub map_contains : {X Y : Type 0} (f : X → Y) (xs : List X) (x : X) → Contains xs x → Contains (map f xs) (f x)
map_contains f xs x (i, inside, at) = (i, rw (length-map xs f) inside, get_or-map f xs i x (f x) inside ∙ ap f at)

pub none_in : {X : Type 0} (x : X) → Contains [] x → ⊥
none_in x (k, h, e) = omega (arith, h)

module _ (m : List ℕ) where
  abbrev pub OwnPair : Namespace → List ℕ → Pair → Type 0
  OwnPair s x p = IsPairOf false m s x (named m x) p

  own_at : (s : Namespace) (x y : List ℕ) (p : Pair) → x ≡ y → OwnPair s x p → OwnPair s y p
  own_at s x y p e i = subst (λ z. OwnPair s z p) e i

  own_there : (d : Declaration) (s : Namespace) (x : List ℕ) (p : Pair) → DeclaredBy x d s → OwnPair s x p → IsDeclaredPair m d p
  own_there d s x p h i = record {
    declared = subst (λ t. DeclaredBy p.text d t) (sym i.space_is) (subst (λ t. DeclaredBy t d s) (sym i.text_is) h);
    pair = record { space_is = refl; qualifier_is = i.qualifier_is; text_is = refl; entity_is = i.entity_is ∙ ap (λ t. named m t) (sym i.text_is) };
  }

  declared_like : (old new : List Pair) (d : Declaration) (Q : Pair → Type 0) → ((p : Pair) → Q p → IsDeclaredPair m d p) → ((x : List ℕ) (s : Namespace) → DeclaredBy x d s → (p : Pair) → OwnPair s x p → Q p) → Adds old new Q → Adds old new (IsDeclaredPair m d)
  declared_like old new d Q there back a = adds_like old new Q (IsDeclaredPair m d) there (λ p i. back p.text p.space i.declared p i.pair) a

  pub data_adds : (old mid new : List Pair) (n : Identifier) (ps : List Identifier) (cs : List DataConstructor) → Adds old mid (OwnPair Types n.text) → Adds mid new (ForEach (λ (c : DataConstructor). OwnPair Constructors (constructor_name c).text) cs) → Adds old new (IsDeclaredPair m (data_declaration n ps (constructors cs)))
  data_adds old mid new n ps cs a b = declared_like old new (data_declaration n ps (constructors cs)) (λ p. OwnPair Types n.text p ⊎ ForEach (λ (c : DataConstructor). OwnPair Constructors (constructor_name c).text) cs p)
      (λ p h. ⊎_elim (λ t. own_there (data_declaration n ps (constructors cs)) Types n.text p (a_data_type refl) t)
      (λ (c, (k, q)). own_there (data_declaration n ps (constructors cs)) Constructors (constructor_name c).text p (a_constructor (subst (λ l. Contains l c) (sym (listed cs)) k) refl) q) h)
      back (adds_then old mid new (OwnPair Types n.text) (ForEach (λ (c : DataConstructor). OwnPair Constructors (constructor_name c).text) cs) a b)
    where
      back : (x : List ℕ) (s : Namespace) → DeclaredBy x (data_declaration n ps (constructors cs)) s → (p : Pair) → OwnPair s x p → OwnPair Types n.text p ⊎ ForEach (λ (c : DataConstructor). OwnPair Constructors (constructor_name c).text) cs p
      back x s (a_data_type e) p i = inl (own_at Types x n.text p (sym e) i)
      back x s (a_constructor {c = c} k e) p i = inr (c, (subst (λ l. Contains l c) (listed cs) k, own_at Constructors x (constructor_name c).text p (sym e) i))

  pub newtype_adds : (old mid new : List Pair) (n : Identifier) (ps : List Identifier) (c : DataConstructor) → Adds old mid (OwnPair Types n.text) → Adds mid new (OwnPair Constructors (constructor_name c).text) → Adds old new (IsDeclaredPair m (newtype_declaration n ps c))
  newtype_adds old mid new n ps c a b = declared_like old new (newtype_declaration n ps c) (λ p. OwnPair Types n.text p ⊎ OwnPair Constructors (constructor_name c).text p)
      (λ p h. ⊎_elim (λ t. own_there (newtype_declaration n ps c) Types n.text p (a_newtype refl) t) (λ q. own_there (newtype_declaration n ps c) Constructors (constructor_name c).text p (a_newtype_constructor refl) q) h)
      back (adds_then old mid new (OwnPair Types n.text) (OwnPair Constructors (constructor_name c).text) a b)
    where
      back : (x : List ℕ) (s : Namespace) → DeclaredBy x (newtype_declaration n ps c) s → (p : Pair) → OwnPair s x p → OwnPair Types n.text p ⊎ OwnPair Constructors (constructor_name c).text p
      back x s (a_newtype e) p i = inl (own_at Types x n.text p (sym e) i)
      back x s (a_newtype_constructor e) p i = inr (own_at Constructors x (constructor_name c).text p (sym e) i)

  pub synonym_adds : (old new : List Pair) (n : Identifier) (ps : List Identifier) (t : TypeTree) → Adds old new (OwnPair Types n.text) → Adds old new (IsDeclaredPair m (synonym_declaration n ps t))
  synonym_adds old new n ps t a = declared_like old new (synonym_declaration n ps t) (OwnPair Types n.text) (λ p h. own_there (synonym_declaration n ps t) Types n.text p (a_synonym refl) h) back a
    where
      back : (x : List ℕ) (s : Namespace) → DeclaredBy x (synonym_declaration n ps t) s → (p : Pair) → OwnPair s x p → OwnPair Types n.text p
      back x s (a_synonym e) p i = own_at Types x n.text p (sym e) i

  pub clause_adds : (old new : List Pair) (n : Identifier) (ps : Patterns) (r : RightSide) → Adds old new (OwnPair Values n.text) → Adds old new (IsDeclaredPair m (clause n ps r))
  clause_adds old new n ps r a = declared_like old new (clause n ps r) (OwnPair Values n.text) (λ p h. own_there (clause n ps r) Values n.text p (a_variable refl) h) back a
    where
      back : (x : List ℕ) (s : Namespace) → DeclaredBy x (clause n ps r) s → (p : Pair) → OwnPair s x p → OwnPair Values n.text p
      back x s (a_variable e) p i = own_at Values x n.text p (sym e) i

  pub pattern_adds : (old new : List Pair) (line column : ℕ) (q : Pattern) (r : RightSide) → Adds old new (ForEach (λ (n : Identifier). OwnPair Values n.text) (pattern_variables q)) → Adds old new (IsDeclaredPair m (pattern_binding line column q r))
  pattern_adds old new line column q r a = declared_like old new (pattern_binding line column q r) (ForEach (λ (n : Identifier). OwnPair Values n.text) (pattern_variables q))
      (λ p (n, (k, h)). own_there (pattern_binding line column q r) Values n.text p (a_matched_variable k refl) h) back a
    where
      back : (x : List ℕ) (s : Namespace) → DeclaredBy x (pattern_binding line column q r) s → (p : Pair) → OwnPair s x p → ForEach (λ (n : Identifier). OwnPair Values n.text) (pattern_variables q) p
      back x s (a_matched_variable {n = n} k e) p i = (n, (k, own_at Values x n.text p (sym e) i))

  -- names that are lent
  pub lent_adds : (old new : List Pair) (ns : List (Bor Identifier)) (vs : List Identifier) → map (λ n. n.now) ns ≡ vs → Adds old new (ForEach (λ (n : Bor Identifier). OwnPair Values n.now.text) ns) → Adds old new (ForEach (λ (n : Identifier). OwnPair Values n.text) vs)
  lent_adds old new ns vs is a = subst (λ l. Adds old new (ForEach (λ (n : Identifier). OwnPair Values n.text) l)) is
      (adds_like old new (ForEach (λ (n : Bor Identifier). OwnPair Values n.now.text) ns) (ForEach (λ (n : Identifier). OwnPair Values n.text) (map (λ n. n.now) ns))
      (λ p (n, ((i, inside, at), h)). (n.now, ((i, rw (length-map ns (λ b. b.now)) inside, get_or-map (λ b. b.now) ns i n n.now inside ∙ ap (λ b. b.now) at), h)))
      (λ p (n, (k, h)). let b = contains_map (λ (b : Bor Identifier). b.now) ns n k in (b.0, (b.1.0, subst (λ (z : Identifier). OwnPair Values z.text p) (sym b.1.1) h))) a)

-- the pairs of what a module declares
pub module_adds : (old new : List Pair) (m : Module) → Adds old new (ForEach (λ (d : Declaration). IsDeclaredPair m.header.name.text d) m.decls) → Adds old new (IsOwnPair m)
module_adds old new m a = adds_like old new (ForEach (λ (d : Declaration). IsDeclaredPair m.header.name.text d) m.decls) (IsOwnPair m)
    (λ p (d, (k, h)). record { declared = record { declaration = d; stands = k; declares = h.declared }; pair = h.pair })
    (λ p h. (h.declared.declaration, (h.declared.stands, record { declared = h.declared.declares; pair = h.pair }))) a
