-- The first declaration of a unit tells the unit's first name.
use Rattle.std.proofs.Common.{◌≡◌, ℕ, zero, suc, ◌<◌, Bool, true, false, cond, ◌&&◌, List, [], ◌∷◌, ◌++◌, map, drop, length, Option, Some, None, Contains, inl, inr, ◌⊎◌, ⊎_elim, refl, sym, ap, ap₂, ◌∙◌, subst, subst₂, arith, true≢false}
use Rattle.std.specs.List.{slice_get}
use Rattle.hm_typing.specs.Names.{Identifier as Name, global, binding, IsOneOf}
use Rattle.hm_typing.specs.Schemes.{Monotype}
use Rattle.hm_typing.specs.Syntax as typed
use Rattle.hm_typing.specs.Units.{SameUnit}
use Rattle.hm_typing.specs.Verdicts.{IsFirstIn}
use Rattle.hm_typing.proofs.Judge.{opposite}
use Rattle.hm_syntax.specs.Names.{Identifier}
use Rattle.hm_syntax.specs.Trees.{Pattern, variable_pattern, bound_pattern, constructor_pattern, literal_pattern, wildcard_pattern, tuple_pattern, list_pattern, lazy_pattern, Patterns, no_patterns, more_patterns, RightSide, Declaration, data_declaration, newtype_declaration, synonym_declaration, signature, clause, pattern_binding, Declarations}
use Rattle.hm_syntax.specs.Lists.{declarations}
use Rattle.hm_names.specs.ModuleCores.{ModuleCore}
use Rattle.hm_names.specs.Variables.{pattern_variables, patterns_variables}
use Rattle.hm_names.specs.Texts.{same_text}
use Rattle.hm_names.specs.Syntax.{Known, name_of, pattern_of, patterns_of, bindings_of, is_continued, add_clause, bound_by, declaration_count}
use Rattle.hm_syntax.specs.declared.ast.Module.{Module}
use Rattle.hm_names.specs.declared.cores.Exported.{Exported}
use Rattle.hm_names.specs.Cores.{IsSomeCore, kept}
use Rattle.hm_names.specs.Entities.{own as own_entity}
use Rattle.hm_names.specs.Resolved.{Resolver, top, declaration_with}
use Rattle.hm_names.specs.Untyped.{Begins, by_clause, by_pattern, by_number, IsTold, here, behind, bare, first_text}
use Rattle.hm_names.proofs.Meant.{text_decides}

some_one : {X : Type 0} {a b : X} → Some a ≡ Some b → a ≡ b
some_one h = cc

none_some : {X Y : Type 0} {a : X} → None ≡ Some a → Y
none_some h = cc

-- the name by which a declaration tells its binding
abbrev pub told_by : Declaration → Identifier
told_by (data_declaration n ps cs) = bare 0 0 []
told_by (newtype_declaration n ps c) = bare 0 0 []
told_by (synonym_declaration n ps t) = bare 0 0 []
told_by (signature ns t) = bare 0 0 []
told_by (clause n ps r) = bare n.line n.column n.text
told_by (pattern_binding l c p r) = bare l c (first_text (pattern_variables p))

-- the names of clauses are told by their texts
abbrev pub AreByText : (List ℕ → Name) → List Declaration → Type 0
AreByText own [] = Unit {0}
AreByText own (data_declaration n ps cs ∷ ds) = AreByText own ds
AreByText own (newtype_declaration n ps c ∷ ds) = AreByText own ds
AreByText own (synonym_declaration n ps t ∷ ds) = AreByText own ds
AreByText own (signature ns t ∷ ds) = AreByText own ds
AreByText own (clause n ps r ∷ ds) = (name_of n ≡ own n.text) × AreByText own ds
AreByText own (pattern_binding l c p r ∷ ds) = AreByText own ds

pub rest_by_text : (own : List ℕ → Name) (d : Declaration) (ds : List Declaration) → AreByText own (d ∷ ds) → AreByText own ds
rest_by_text own (data_declaration n ps cs) ds t = t
rest_by_text own (newtype_declaration n ps b) ds t = t
rest_by_text own (synonym_declaration n ps b) ds t = t
rest_by_text own (signature ns b) ds t = t
rest_by_text own (clause n ps r) ds t = t.1
rest_by_text own (pattern_binding line column p r) ds t = t

-- Names of bindings

pub names-add_clause : (f : typed.Clauses → typed.Clauses) (bs : typed.Bindings) → typed.names (add_clause f bs) ≡ typed.names bs
names-add_clause f typed.no_binding = refl
names-add_clause f (typed.unsigned x cs ds) = refl
names-add_clause f (typed.signed x s cs ds) = refl
names-add_clause f (typed.matched x p cs ds) = refl

pub names-bound_by : (x : Name) (s : Option Monotype) (cs : typed.Clauses) (ds : typed.Bindings) → typed.names (bound_by x s cs ds) ≡ x ∷ typed.names ds
names-bound_by x None cs ds = refl
names-bound_by x (Some s) cs ds = refl

names_run : (b : Bool) (f : typed.Clauses → typed.Clauses) (x y : Name) (s : Option Monotype) (cs : typed.Clauses) (bs : typed.Bindings) → x ≡ y → (b ≡ true → (ys : List Name) × (typed.names bs ≡ y ∷ ys)) → (ys : List Name) × (typed.names (cond b (add_clause f bs) (bound_by x s cs bs)) ≡ y ∷ ys)
names_run true f x y s cs bs e h = let r = h refl in (r.0, names-add_clause f bs ∙ r.1)
names_run false f x y s cs bs e h = (typed.names bs, names-bound_by x s cs bs ∙ ap (λ z. z ∷ typed.names bs) e)

pub both : (a b : Bool) → (a && b) ≡ true → a ≡ true
both true b e = refl
both false b e = e

map-++ : {X Y : Type 0} (f : X → Y) (xs ys : List X) → map f (xs ++ ys) ≡ map f xs ++ map f ys
map-++ f [] ys = refl
map-++ f (x ∷ xs) ys = ap (λ z. f x ∷ z) (map-++ f xs ys)

mutual
  pub names_of_pattern : (k : Known) (p : Pattern) → typed.pattern_names (pattern_of k p) ≡ map name_of (pattern_variables p)
  names_of_pattern k (variable_pattern n) = refl
  names_of_pattern k (bound_pattern n p) = ap (λ z. name_of n ∷ z) (names_of_pattern k p)
  names_of_pattern k (constructor_pattern n ps) = names_of_patterns k ps
  names_of_pattern k (literal_pattern l) = refl
  names_of_pattern k wildcard_pattern = refl
  names_of_pattern k (tuple_pattern ps) = names_of_patterns k ps
  names_of_pattern k (list_pattern ps) = names_of_patterns k ps
  names_of_pattern k (lazy_pattern p) = names_of_pattern k p

  names_of_patterns : (k : Known) (ps : Patterns) → typed.patterns_names (patterns_of k ps) ≡ map name_of (patterns_variables ps)
  names_of_patterns k no_patterns = refl
  names_of_patterns k (more_patterns p ps) = ap₂ (λ a b. a ++ b) (names_of_pattern k p) (names_of_patterns k ps) ∙ sym (map-++ name_of (pattern_variables p) (patterns_variables ps))

count_of : (ds : List Declaration) → declaration_count (declarations ds) ≡ length ds
count_of [] = refl
count_of (d ∷ ds) = ap suc (count_of ds)

contained : (vs : List Identifier) (n : Identifier) → Contains vs n → IsOneOf n vs
contained [] n h = absurd (let l = h.1 in omega (arith, l))
contained (v ∷ vs) n (zero, l, e) = inl (sym e)
contained (v ∷ vs) n (suc i, l, e) = inr (contained vs n (i, omega (arith, l), e))

module _ (c : ModuleCore) (k : Known) (home : k.home ≡ c.name) (all : Declarations) (own : List ℕ → Name) (U : Name → Bool) where
  -- x is the first of the unit
  abbrev pub FirstOf : Name → List Name → Type 0
  FirstOf x [] = ⊥
  FirstOf x (y ∷ ys) = ((x ≡ y) × (U y ≡ true)) ⊎ ((U y ≡ false) × FirstOf x ys)

  pub first_member : (x : Name) (ys : List Name) → FirstOf x ys → U x ≡ true
  first_member x [] f = absurd f
  first_member x (y ∷ ys) (inl p) = subst (λ z. U z ≡ true) (sym p.0) p.1
  first_member x (y ∷ ys) (inr p) = first_member x ys p.1

  -- the declaration begins no binding of the unit
  abbrev pub IsAside : Declaration → ℕ → Type 0
  IsAside (data_declaration n ps cs) j = Unit {0}
  IsAside (newtype_declaration n ps t) j = Unit {0}
  IsAside (synonym_declaration n ps t) j = Unit {0}
  IsAside (signature ns t) j = Unit {0}
  IsAside (clause n ps r) j = U (name_of n) ≡ false
  IsAside (pattern_binding line column p r) j = ((n : Identifier) → IsOneOf n (pattern_variables p) → U (name_of n) ≡ false) × (U (binding c.name j) ≡ false)

  -- it begins one
  abbrev pub IsWithin : Declaration → ℕ → Type 0
  IsWithin (data_declaration n ps cs) j = ⊥
  IsWithin (newtype_declaration n ps t) j = ⊥
  IsWithin (synonym_declaration n ps t) j = ⊥
  IsWithin (signature ns t) j = ⊥
  IsWithin (clause n ps r) j = U (name_of n) ≡ true
  IsWithin (pattern_binding line column p r) j = ((n : Identifier) → IsOneOf n (pattern_variables p) → U (name_of n) ≡ true) × (U (binding c.name j) ≡ true)

  pub record FirstTold (ds : List Declaration) (n : Identifier) : Type 0 where
    pub name : Name
    pub first : FirstOf name (typed.names (bindings_of k all (declarations ds)))
    pub told : IsTold c name ds n

  -- Declarations before

  past_run : (b : Bool) (f : typed.Clauses → typed.Clauses) (x z : Name) (s : Option Monotype) (cs : typed.Clauses) (bs : typed.Bindings) → U x ≡ false → FirstOf z (typed.names bs) → FirstOf z (typed.names (cond b (add_clause f bs) (bound_by x s cs bs)))
  past_run true f x z s cs bs u o = subst (FirstOf z) (sym (names-add_clause f bs)) o
  past_run false f x z s cs bs u o = subst (FirstOf z) (sym (names-bound_by x s cs bs)) (inr (u, o))

  past_names : (vs : List Identifier) (b : Name) (ys : List Name) (x : Name) → ((n : Identifier) → IsOneOf n vs → U (name_of n) ≡ false) → U b ≡ false → FirstOf x ys → FirstOf x ((map name_of vs ++ (b ∷ [])) ++ ys)
  past_names [] b ys x f u o = inr (u, o)
  past_names (v ∷ vs) b ys x f u o = inr (f v (inl refl), past_names vs b ys x (λ n i. f n (inr i)) u o)

  not_begun : (d : Declaration) (j : ℕ) (x : Name) → IsAside d j → U x ≡ true → (o : Identifier) → ¬ (Begins c x d j o)
  not_begun (data_declaration n ps cs) j x a u o h = elim h [ ]
  not_begun (newtype_declaration n ps t) j x a u o h = elim h [ ]
  not_begun (synonym_declaration n ps t) j x a u o h = elim h [ ]
  not_begun (signature ns t) j x a u o h = elim h [ ]
  not_begun (clause n ps r) j x a u o (by_clause e) = opposite (subst (λ z. U z ≡ true) e u) a
  not_begun (pattern_binding line column p r) j x a u o (by_pattern {n = n} i e) = opposite (subst (λ z. U z ≡ true) e u) (a.0 n (contained (pattern_variables p) n i))
  not_begun (pattern_binding line column p r) j x a u o (by_number e) = opposite (subst (λ z. U z ≡ true) e u) a.1

  pub own_number : (ds : List Declaration) → binding k.home (declaration_count (declarations ds)) ≡ binding c.name (length ds)
  own_number ds = ap₂ binding home (count_of ds)

  past : (d : Declaration) (ds : List Declaration) (x : Name) → IsAside d (length ds) → FirstOf x (typed.names (bindings_of k all (declarations ds))) → FirstOf x (typed.names (bindings_of k all (declarations (d ∷ ds))))
  past (data_declaration n ps cs) ds x a o = o
  past (newtype_declaration n ps t) ds x a o = o
  past (synonym_declaration n ps t) ds x a o = o
  past (signature ns t) ds x a o = o
  past (clause n ps r) ds x a o = past_run (is_continued n.text ps (declarations ds)) _ (name_of n) x _ _ (bindings_of k all (declarations ds)) a o
  past (pattern_binding line column p r) ds x a o =
      subst₂ (λ zs b. FirstOf x ((zs ++ (b ∷ [])) ++ typed.names (bindings_of k all (declarations ds)))) (sym (names_of_pattern k p)) (sym (own_number ds))
      (past_names (pattern_variables p) (binding c.name (length ds)) (typed.names (bindings_of k all (declarations ds))) x a.0 a.1 o)

  skip : (d : Declaration) (ds : List Declaration) (n : Identifier) → IsAside d (length ds) → FirstTold ds n → FirstTold (d ∷ ds) n
  skip d ds n a t = record {
    name = t.name;
    first = past d ds t.name a t.first;
    told = behind (not_begun d (length ds) t.name a (first_member t.name (typed.names (bindings_of k all (declarations ds))) t.first)) t.told;
  }

  -- The first of the unit

  run_first : (x : List ℕ) (ps : Patterns) (ds : List Declaration) → is_continued x ps (declarations ds) ≡ true → AreByText own ds → (ys : List Name) × (typed.names (bindings_of k all (declarations ds)) ≡ own x ∷ ys)
  run_first x ps [] e t = absurd (true≢false (sym e))
  run_first x ps (data_declaration n qs cs ∷ ds) e t = absurd (true≢false (sym e))
  run_first x ps (newtype_declaration n qs b ∷ ds) e t = absurd (true≢false (sym e))
  run_first x ps (synonym_declaration n qs b ∷ ds) e t = absurd (true≢false (sym e))
  run_first x ps (signature ns b ∷ ds) e t = absurd (true≢false (sym e))
  run_first x ps (clause n qs r ∷ ds) e t =
      let h = names_run (is_continued n.text qs (declarations ds)) _ (name_of n) (own n.text) _ _ (bindings_of k all (declarations ds)) t.0 (λ f. run_first n.text qs ds f t.1) in
      let same : x ≡ n.text = (text_decides x n.text).0 (both (same_text x n.text) _ e) in
      (h.0, h.1 ∙ ap (λ z. own z ∷ h.0) (sym same))
  run_first x ps (pattern_binding line column p r ∷ ds) e t = absurd (true≢false (sym e))

  clause_first : (n : Identifier) (ps : Patterns) (r : RightSide) (ds : List Declaration) → AreByText own (clause n ps r ∷ ds) → (ys : List Name) × (typed.names (bindings_of k all (declarations (clause n ps r ∷ ds))) ≡ own n.text ∷ ys)
  clause_first n ps r ds t = names_run (is_continued n.text ps (declarations ds)) _ (name_of n) (own n.text) _ _ (bindings_of k all (declarations ds)) t.0 (λ e. run_first n.text ps ds e t.1)

  at_pattern : (vs : List Identifier) (b : Name) (ys : List Name) → ((n : Identifier) → IsOneOf n vs → U (name_of n) ≡ true) → U b ≡ true →
      (x : Name) × (FirstOf x ((map name_of vs ++ (b ∷ [])) ++ ys) × (((n : Identifier) × (Contains vs n × (x ≡ name_of n))) ⊎ (x ≡ b)))
  at_pattern [] b ys f u = (b, (inl (refl, u), inr refl))
  at_pattern (v ∷ vs) b ys f u = (name_of v, (inl (refl, f v (inl refl)), inl (v, ((0, omega arith, refl), refl))))

  at_here : (d : Declaration) (ds : List Declaration) → IsWithin d (length ds) → AreByText own (d ∷ ds) → FirstTold (d ∷ ds) (told_by d)
  at_here (data_declaration n ps cs) ds w t = absurd w
  at_here (newtype_declaration n ps b) ds w t = absurd w
  at_here (synonym_declaration n ps b) ds w t = absurd w
  at_here (signature ns b) ds w t = absurd w
  at_here (clause n ps r) ds w t =
      let h = clause_first n ps r ds t in record {
        name = name_of n;
        first = subst (FirstOf (name_of n)) (sym h.1) (inl (t.0, subst (λ z. U z ≡ true) t.0 w));
        told = here (by_clause refl);
      }
  at_here (pattern_binding line column p r) ds w t =
      let h = at_pattern (pattern_variables p) (binding c.name (length ds)) (typed.names (bindings_of k all (declarations ds))) w.0 w.1 in record {
        name = h.0;
        first = subst₂ (λ zs b. FirstOf h.0 ((zs ++ (b ∷ [])) ++ typed.names (bindings_of k all (declarations ds)))) (sym (names_of_pattern k p)) (sym (own_number ds)) h.1.0;
        told = ⊎_elim (λ q. here (by_pattern q.1.0 q.1.1)) (λ e. here (by_number e)) h.1.1;
      }

  -- the first declaration of the unit tells the unit's first name
  pub first_told : (decls : List Declaration) (i : ℕ) (d : Declaration) → slice_get decls i ≡ Some d → ((j : ℕ) (e : Declaration) → j < i → slice_get decls j ≡ Some e → IsAside e (length (drop (suc j) decls))) → IsWithin d (length (drop (suc i) decls)) → AreByText own decls → FirstTold decls (told_by d)
  first_told [] i d e f w t = none_some e
  first_told (b ∷ ds) zero d e f w t = subst (λ z. FirstTold (b ∷ ds) (told_by z)) (some_one e) (at_here b ds (subst (λ z. IsWithin z (length ds)) (sym (some_one e)) w) t)
  first_told (b ∷ ds) (suc i) d e f w t = skip b ds (told_by d) (f zero b (omega arith) refl) (first_told ds i d e (λ j z l g. f (suc j) z (omega arith) g) w (rest_by_text own b ds t))

  -- which is the first name of its unit
  pub is_first_in : (ds : typed.Bindings) (x : Name) (ys : List Name) → ((y : Name) → SameUnit ds x y → U y ≡ true) → FirstOf x ys → IsFirstIn ds x ys
  is_first_in ds x [] f o = o
  is_first_in ds x (y ∷ ys) f (inl p) = inl p.0
  is_first_in ds x (y ∷ ys) f (inr p) = inr ((λ s. opposite (f y s) p.0), is_first_in ds x ys f p.1)

-- The clauses of a core are named by their texts

by_text : (m : Module) (r : Resolver) (es : List Exported) (ds : List Declaration) → AreByText (λ x. global (own_entity m x)) (map (kept es) (map (declaration_with r (top m) []) ds))
by_text m r es [] = tt
by_text m r es (data_declaration n ps cs ∷ ds) = by_text m r es ds
by_text m r es (newtype_declaration n ps b ∷ ds) = by_text m r es ds
by_text m r es (synonym_declaration n ps b ∷ ds) = by_text m r es ds
by_text m r es (signature ns b ∷ ds) = by_text m r es ds
by_text m r es (clause n ps g ∷ ds) = (refl, by_text m r es ds)
by_text m r es (pattern_binding l c p g ∷ ds) = by_text m r es ds

pub core_by_text : (c : ModuleCore) → IsSomeCore c → (own : List ℕ → Name) × AreByText own c.decls
core_by_text c s = ((λ x. global (own_entity s.module_of x)), subst (AreByText (λ x. global (own_entity s.module_of x))) (sym s.is_core.trees) (by_text s.module_of s.is_core.resolver c.exported_types s.module_of.decls))
