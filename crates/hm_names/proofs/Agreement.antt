-- Of a well-formed module each two resolutions are the same.
use Rattle.std.proofs.Common.{◌≡◌, ℕ, zero, suc, ◌<◌, ◌≤◌, List, [], ◌∷◌, length, map, None, Some, ◌⊎◌, inl, inr, refl, sym, ap, ap₂, ◌∙◌, subst, Contains, arith}
use Rattle.std.proofs.lemmas.List.Elements.{Contains-append_left, Contains-append_right, Contains-append_cases}
use Rattle.hm_types.specs.declared.Entity.{Entity}
use Rattle.hm_types.specs.Interfaces.{Exports as Interface}
use Rattle.hm_syntax.specs.Names.{Identifier}
use Rattle.hm_syntax.specs.Trees.{TypeTree, variable_type, constructor_type, function_type, tuple_type, list_type, unit_type, TypeTrees, no_types, more_types, DataConstructor, data_constructor, DataConstructors, no_constructors, more_constructors, Pattern, variable_pattern, bound_pattern, constructor_pattern, literal_pattern, wildcard_pattern, tuple_pattern, list_pattern, lazy_pattern, Patterns, no_patterns, more_patterns, Expression, variable_expression, constructor_expression, literal_expression, application, lambda, let_expression, if_expression, case_expression, tuple_expression, list_expression, typed_expression, Expressions, no_expressions, more_expressions, Declaration, data_declaration, newtype_declaration, synonym_declaration, signature, clause, pattern_binding, Declarations, no_declarations, more_declarations, RightSide, right_side, Bodies, no_bodies, plain_body, guarded_body, alternative, Alternatives, no_alternatives, more_alternatives}
use Rattle.hm_syntax.specs.Lists.{declarations}
use Rattle.hm_syntax.specs.declared.ast.Module.{Module}
use Rattle.hm_names.specs.declared.faults.Kind.{Kind}
use Rattle.hm_names.specs.declared.faults.Kind.TheVariants.{Unbound, Ambiguous}
use Rattle.hm_names.specs.declared.namespace.Namespace.{Namespace}
use Rattle.hm_names.specs.declared.namespace.Namespace.TheVariants.{Types, Constructors, Values}
use Rattle.hm_names.specs.Variables.{constructors_in, constructors_in_all}
use Rattle.hm_names.specs.Expansion.{expanded}
use Rattle.hm_names.specs.Types.{entity_of, synonym_of}
use Rattle.hm_names.specs.Scope.{Means, IsUnbound, IsAmbiguous}
use Rattle.hm_names.specs.Special.{IsSpecial, special_of}
use Rattle.hm_names.specs.Described.{TypeMeaning, algebraic, declared_synonym, imported_synonym, TypeDescription, type_meant}
use Rattle.hm_names.specs.Walk.{Locals, Node, at_expression, at_pattern, Rule, InType, InTypes, InConstructor, InConstructors, InPattern, InPatterns, InExpression, InExpressions, InAlternatives, InRightSide, InBodies, InDeclarations, InDeclaration, with_patterns, with_list}
use Rattle.hm_names.specs.Resolved.{Resolver, IsResolver, synonym_meant, type_with, types_with, Binders, bare, top, pattern_with, patterns_with, constructor_with, constructors_with, expression_with, expressions_with, alternatives_with, right_side_with, bodies_with, declarations_with, declaration_with, resolved}
use Rattle.hm_names.specs.Faults.Arities.{RefersTo, refers, Reaches, directly}
use Rattle.hm_names.specs.Faults.Names.{IsLocal, Uses, a_variable, a_constructor, a_pattern, a_type_constructor, NameFault, unbound, ambiguous}
use Rattle.hm_names.specs.Faults.Phases.{IsWellFormed, Naming, fault}
use Rattle.hm_names.proofs.Members.{none_in, cases, first, rest, contains_dec, text_discrete, entity_discrete, name_discrete, optional_synonym_discrete}
use Rattle.hm_names.proofs.Somewhere.{some_declarations}
use Rattle.hm_names.proofs.Synonyms.{is_described, IsDeclared, is_declared, one_more, not_recursive}

abbrev pub Wrong : Module → List Interface → Rule
Wrong m fs xs k = (d : Kind) × ((n : Identifier) × NameFault m fs xs k d n)

-- a well-formed module has no wrong names
pub nothing_wrong : (m : Module) (fs : List Interface) → IsWellFormed m fs → ¬ (InDeclarations (Wrong m fs) [] (declarations m.decls))
nothing_wrong m fs w h =
    let p = some_declarations {F = Kind} (λ d xs t. (n : Identifier) × NameFault m fs xs t d n) [] (declarations m.decls) h in
    let q = some_declarations {F = Identifier} (λ n xs t. NameFault m fs xs t p.0 n) [] (declarations m.decls) p.1 in
    w Naming (fault p.0 q.0) (record { kind = p.0; name = q.0; stands = inr q.1; is = refl })

pub special_dec : (n : Identifier) → Dec (IsSpecial n)
special_dec n = go (special_of n) refl
  where
    go : (o : _) → special_of n ≡ o → Dec (IsSpecial n)
    go None e = no (λ s. let h : None ≡ Some s.0 = sym e ∙ s.1 in cc)
    go (Some s) e = yes (s, e)

pub local_dec : (xs : Locals) (n : Identifier) → Dec (IsLocal xs n)
local_dec xs n = go n.qualifier refl (contains_dec xs n.text)
  where
    go : (q : _) → n.qualifier ≡ q → Dec (Contains xs n.text) → Dec (IsLocal xs n)
    go None e (yes c) = yes (e, c)
    go None e (no c) = no (λ l. c l.1)
    go (Some q) e d = no (λ l. let h : Some q ≡ None = sym e ∙ l.0 in cc)

both_dec : {P Q : Type 0} → Dec P → Dec Q → Dec (P × Q)
both_dec (yes p) (yes q) = yes (p, q)
both_dec (no p) d = no (λ h. p h.0)
both_dec (yes p) (no q) = no (λ h. q h.1)

-- what is decided, and holds where the name means one entity, holds where it is neither unbound nor ambiguous
pub stably : (m : Module) (fs : List Interface) (k : Namespace) (n : Identifier) {P : Type 0} → Dec P → ¬ (IsUnbound m fs k n) → ¬ (IsAmbiguous m fs k n) → ((e : Entity) → Means m fs k n e → P) → P
stably m fs k n (yes p) u a f = p
stably m fs k n (no h) u a f = absurd (u (λ e i. h (f e (record { in_scope = i; alone = λ d j. elim (entity_discrete d e) [ yes p ↦ p | no q ↦ absurd (a (d, (e, (j, i, q)))) ] }))))

-- the texts of a list but one
abbrev pub without : List ℕ → List (List ℕ) → List (List ℕ)
without x [] = []
without x (y ∷ ys) = elim (text_discrete x y) [ yes e ↦ without x ys | no n ↦ y ∷ without x ys ]

at_most : (x : List ℕ) (ys : List (List ℕ)) → length (without x ys) ≤ length ys
at_most x [] = omega arith
at_most x (y ∷ ys) = go (text_discrete x y) (at_most x ys)
  where
    go : (d : Dec (x ≡ y)) → length (without x ys) ≤ length ys → length {A = List ℕ} (elim d [ yes e ↦ without x ys | no n ↦ y ∷ without x ys ]) ≤ suc (length ys)
    go (yes e) h = omega (arith, h)
    go (no n) h = omega (arith, h)

pub fewer : (x : List ℕ) (ys : List (List ℕ)) → Contains ys x → length (without x ys) < length ys
fewer x [] c = absurd (none_in x c)
fewer x (y ∷ ys) c = go (text_discrete x y) (λ o. fewer x ys o)
  where
    go : (d : Dec (x ≡ y)) → (Contains ys x → length (without x ys) < length ys) → length {A = List ℕ} (elim d [ yes e ↦ without x ys | no n ↦ y ∷ without x ys ]) < suc (length ys)
    go (yes e) h = omega (arith, at_most x ys)
    go (no n) h = let f = h (elim (cases y ys x c) [ inl e ↦ absurd (n e) | inr o ↦ o ]) in omega (arith, f)

pub stays : (x : List ℕ) (ys : List (List ℕ)) (z : List ℕ) → Contains ys z → ¬ (x ≡ z) → Contains (without x ys) z
stays x [] z c n = absurd (none_in z c)
stays x (y ∷ ys) z c n = go (text_discrete x y) (cases y ys z c) (λ o. stays x ys z o n)
  where
    go : (d : Dec (x ≡ y)) → (z ≡ y) ⊎ Contains ys z → (Contains ys z → Contains (without x ys) z) → Contains (elim d [ yes e ↦ without x ys | no n ↦ y ∷ without x ys ]) z
    go (yes e) (inl s) h = absurd (n (e ∙ sym s))
    go (yes e) (inr o) h = h o
    go (no k) (inl s) h = subst (λ w. Contains (y ∷ without x ys) w) (sym s) (first y (without x ys))
    go (no k) (inr o) h = rest y (without x ys) z (h o)

-- the names of the synonyms that are declared
abbrev pub synonyms : List Declaration → List (List ℕ)
synonyms [] = []
synonyms (data_declaration n ps cs ∷ ds) = synonyms ds
synonyms (newtype_declaration n ps c ∷ ds) = synonyms ds
synonyms (synonym_declaration n ps t ∷ ds) = n.text ∷ synonyms ds
synonyms (signature ns t ∷ ds) = synonyms ds
synonyms (clause n ps g ∷ ds) = synonyms ds
synonyms (pattern_binding l c p g ∷ ds) = synonyms ds

pub is_synonym : (ds : List Declaration) (n : Identifier) (ps : List Identifier) (t : TypeTree) → Contains ds (synonym_declaration n ps t) → Contains (synonyms ds) n.text
is_synonym [] n ps t c = absurd (none_in (synonym_declaration n ps t) c)
is_synonym (data_declaration k qs cs ∷ ds) n ps t c = elim (cases _ ds (synonym_declaration n ps t) c) [ inl e ↦ absurd (cc) | inr o ↦ is_synonym ds n ps t o ]
is_synonym (newtype_declaration k qs b ∷ ds) n ps t c = elim (cases _ ds (synonym_declaration n ps t) c) [ inl e ↦ absurd (cc) | inr o ↦ is_synonym ds n ps t o ]
is_synonym (synonym_declaration k qs u ∷ ds) n ps t c = elim (cases _ ds (synonym_declaration n ps t) c) [ inl e ↦ let same : n ≡ k = cc in subst (λ z. Contains (k.text ∷ synonyms ds) z.text) (sym same) (first k.text (synonyms ds)) | inr o ↦ rest k.text (synonyms ds) n.text (is_synonym ds n ps t o) ]
is_synonym (signature ns u ∷ ds) n ps t c = elim (cases _ ds (synonym_declaration n ps t) c) [ inl e ↦ absurd (cc) | inr o ↦ is_synonym ds n ps t o ]
is_synonym (clause k qs g ∷ ds) n ps t c = elim (cases _ ds (synonym_declaration n ps t) c) [ inl e ↦ absurd (cc) | inr o ↦ is_synonym ds n ps t o ]
is_synonym (pattern_binding a b p g ∷ ds) n ps t c = elim (cases _ ds (synonym_declaration n ps t) c) [ inl e ↦ absurd (cc) | inr o ↦ is_synonym ds n ps t o ]

module _ (r s : Resolver) where
  -- the name of a type constructor, and what it is expanded to, are the same
  abbrev pub Alike : Identifier → Type 0
  Alike n = (r.name Types [] n ≡ s.name Types [] n) × (r.synonym (entity_of (r.name Types [] n)) ≡ s.synonym (entity_of (s.name Types [] n)))

  mutual
    pub same_type : (t : TypeTree) → ((n : Identifier) → Contains (constructors_in t) n → Alike n) → type_with r t ≡ type_with s t
    same_type (variable_type n) h = refl
    same_type (constructor_type n ts) h =
        let k = h n (first n (constructors_in_all ts)) in
        λ i. expanded (k.1 i) (k.0 i) (same_types ts (λ o c. h o (rest n (constructors_in_all ts) o c)) i)
    same_type (function_type t u) h = ap₂ function_type (same_type t (λ o c. h o (Contains-append_left (constructors_in t) (constructors_in u) o c))) (same_type u (λ o c. h o (Contains-append_right (constructors_in t) (constructors_in u) o c)))
    same_type (tuple_type ts) h = ap tuple_type (same_types ts h)
    same_type (list_type t) h = ap list_type (same_type t h)
    same_type unit_type h = refl

    pub same_types : (ts : TypeTrees) → ((n : Identifier) → Contains (constructors_in_all ts) n → Alike n) → types_with r ts ≡ types_with s ts
    same_types no_types h = refl
    same_types (more_types t ts) h = ap₂ more_types (same_type t (λ o c. h o (Contains-append_left (constructors_in t) (constructors_in_all ts) o c))) (same_types ts (λ o c. h o (Contains-append_right (constructors_in t) (constructors_in_all ts) o c)))

module _ (m : Module) (fs : List Interface) where
  -- a name that isn't wrong is neither unbound nor ambiguous
  abbrev pub Clear : Identifier → Type 0
  Clear n = ¬ (IsUnbound m fs Types n) × ¬ (IsAmbiguous m fs Types n)

  mutual
    pub clear_type : (xs : Locals) (t : TypeTree) → ¬ (InType (Wrong m fs) xs t) → (n : Identifier) → Contains (constructors_in t) n → Clear n
    clear_type xs (variable_type k) w n c = absurd (none_in n c)
    clear_type xs (constructor_type k ts) w n c =
        elim (cases k (constructors_in_all ts) n c) [
          | inl e ↦ subst Clear (sym e) (λ u. w (inl (Unbound, (k, unbound a_type_constructor u))), λ u. w (inl (Ambiguous, (k, ambiguous a_type_constructor u))))
          | inr o ↦ clear_types xs ts (λ h. w (inr h)) n o
        ]
    clear_type xs (function_type t u) w n c = elim (Contains-append_cases (constructors_in t) (constructors_in u) n c) [ inl o ↦ clear_type xs t (λ h. w (inl h)) n o | inr o ↦ clear_type xs u (λ h. w (inr h)) n o ]
    clear_type xs (tuple_type ts) w n c = clear_types xs ts w n c
    clear_type xs (list_type t) w n c = clear_type xs t w n c
    clear_type xs unit_type w n c = absurd (none_in n c)

    pub clear_types : (xs : Locals) (ts : TypeTrees) → ¬ (InTypes (Wrong m fs) xs ts) → (n : Identifier) → Contains (constructors_in_all ts) n → Clear n
    clear_types xs no_types w n c = absurd (none_in n c)
    clear_types xs (more_types t ts) w n c = elim (Contains-append_cases (constructors_in t) (constructors_in_all ts) n c) [ inl o ↦ clear_type xs t (λ h. w (inl h)) n o | inr o ↦ clear_types xs ts (λ h. w (inr h)) n o ]

module _ (m : Module) (fs : List Interface) (r s : Resolver) (a : IsResolver m fs r) (b : IsResolver m fs s) where
  alike_dec : (n : Identifier) → Dec (Alike r s n)
  alike_dec n = both_dec (name_discrete (r.name Types [] n) (s.name Types [] n)) (optional_synonym_discrete (r.synonym (entity_of (r.name Types [] n))) (s.synonym (entity_of (s.name Types [] n))))

  -- a type constructor is alike where the synonym that it is declared to be has one expansion
  alike : (n : Identifier) → Clear m fs n → ((e : Entity) → Means m fs Types n e → (ps : List Identifier) (t : TypeTree) → IsDeclared m.header.name.text m.decls e ps t → type_with r t ≡ type_with s t) → Alike r s n
  alike n c each = stably m fs Types n (alike_dec n) c.0 c.1 one
    where
      meant : (e : Entity) → Means m fs Types n e → (d : TypeDescription) → type_meant m.header.name.text m.decls fs e ≡ Some d → (k : TypeMeaning) → d.meaning ≡ k → synonym_meant r k ≡ synonym_meant s k
      meant e h d g (algebraic k) q = refl
      meant e h d g (declared_synonym ps t) q = ap (λ z. Some (synonym_of ps z)) (each e h ps t (is_declared m fs e d ps t g q))
      meant e h d g (imported_synonym k) q = refl

      one : (e : Entity) → Means m fs Types n e → Alike r s n
      one e h =
          let p = a.type [] n e h in
          let q = b.type [] n e h in
          let d = is_described m fs n.qualifier n.text e h.in_scope in (
            p ∙ sym q,
            ap (λ z. r.synonym (entity_of z)) p ∙ (a.synonym e d.0 d.1 ∙ (meant e h d.0 d.1 d.0.meaning refl ∙ (sym (b.synonym e d.0 d.1) ∙ sym (ap (λ z. s.synonym (entity_of z)) q)))),
          )

  module _ (w : IsWellFormed m fs) (clean : (n : Identifier) (ps : List Identifier) (t : TypeTree) → Contains m.decls (synonym_declaration n ps t) → ¬ (InType (Wrong m fs) [] t)) where
    -- each declared synonym is among those that are left, or reaches this one
    abbrev Left : List (List ℕ) → List ℕ → Type 0
    Left left x = (o : Identifier) (qs : List Identifier) (u : TypeTree) → Contains m.decls (synonym_declaration o qs u) → Contains left o.text ⊎ Reaches m fs o.text x

    abbrev Same : ℕ → Type 0
    Same k =
        (left : List (List ℕ)) (n : Identifier) (ps : List Identifier) (t : TypeTree) →
        length left ≤ k → Contains m.decls (synonym_declaration n ps t) → Contains left n.text → Left left n.text → type_with r t ≡ type_with s t

    -- a synonym that is referred to has one expansion, if those with fewer left have
    referred : (k : ℕ) → Same k → (left : List (List ℕ)) (n : Identifier) (ps : List Identifier) (t : TypeTree) → length left ≤ suc k → Contains m.decls (synonym_declaration n ps t) → Contains left n.text → Left left n.text →
        (o : Identifier) → Contains (constructors_in t) o → (e : Entity) → Means m fs Types o e → (qs : List Identifier) (u : TypeTree) → IsDeclared m.header.name.text m.decls e qs u → type_with r u ≡ type_with s u
    referred k again left n ps t l c h all o q e g qs u d = again (without n.text left) d.name qs u (let f = fewer n.text left h in omega (arith, l, f)) d.stands there others
      where
        step : RefersTo m fs n.text d.name.text
        step = refers c refl q (subst (λ z. Means m fs Types o z) d.is g)

        other : ¬ (n.text ≡ d.name.text)
        other e = not_recursive m fs w n ps t c (directly (subst (λ z. RefersTo m fs n.text z) (sym e) step))

        there : Contains (without n.text left) d.name.text
        there = elim (all d.name qs u d.stands) [
          | inl i ↦ stays n.text left d.name.text i other
          | inr i ↦ absurd (not_recursive m fs w d.name qs u d.stands (one_more m fs d.name.text n.text d.name.text i step))
        ]

        others : Left (without n.text left) d.name.text
        others o qs u c = elim (all o qs u c) [
          | inl i ↦ elim (text_discrete n.text o.text) [
            | yes e ↦ inr (subst (λ z. Reaches m fs z d.name.text) e (directly step))
            | no x ↦ inl (stays n.text left o.text i x)
          ]
          | inr i ↦ inr (one_more m fs o.text n.text d.name.text i step)
        ]

    same_right_side : (k : ℕ) → Same k
    same_right_side zero left n ps t l c h all = absurd (omega (arith, l, h.1))
    same_right_side (suc k) left n ps t l c h all =
        same_type r s t (λ o q. alike o (clear_type m fs [] t (clean n ps t c) o q) (λ e g qs u d. referred k (same_right_side k) left n ps t l c h all o q e g qs u d))

    -- each type of the module has one resolution
    pub type_agree : (xs : Locals) (t : TypeTree) → ¬ (InType (Wrong m fs) xs t) → type_with r t ≡ type_with s t
    type_agree xs t h = same_type r s t (λ n c. alike n (clear_type m fs xs t h n c) (λ e g ps u d.
        same_right_side (length (synonyms m.decls)) (synonyms m.decls) d.name ps u (omega arith) d.stands (is_synonym m.decls d.name ps u d.stands) (λ o qs v c. inl (is_synonym m.decls o qs v c))))

-- both replace a name in one way where it has one meaning
pub record SameNames (m : Module) (fs : List Interface) (r s : Resolver) : Type 0 where
  pub local : (xs : Locals) (n : Identifier) → IsLocal xs n → r.name Values xs n ≡ s.name Values xs n
  pub value : (xs : Locals) (n : Identifier) (e : Entity) → ¬ (IsLocal xs n) → Means m fs Values n e → r.name Values xs n ≡ s.name Values xs n
  pub special : (xs : Locals) (n : Identifier) → IsSpecial n → r.name Constructors xs n ≡ s.name Constructors xs n
  pub constructor : (xs : Locals) (n : Identifier) (e : Entity) → ¬ (IsSpecial n) → Means m fs Constructors n e → r.name Constructors xs n ≡ s.name Constructors xs n
  pub type : (xs : Locals) (n : Identifier) (e : Entity) → Means m fs Types n e → r.name Types xs n ≡ s.name Types xs n

pub same_names : (m : Module) (fs : List Interface) (r s : Resolver) → IsResolver m fs r → IsResolver m fs s → SameNames m fs r s
same_names m fs r s a b = record {
  local = λ xs n p. a.local xs n p ∙ sym (b.local xs n p);
  value = λ xs n e p g. a.value xs n e p g ∙ sym (b.value xs n e p g);
  special = λ xs n p. a.special xs n p ∙ sym (b.special xs n p);
  constructor = λ xs n e p g. a.constructor xs n e p g ∙ sym (b.constructor xs n e p g);
  type = λ xs n e g. a.type xs n e g ∙ sym (b.type xs n e g);
}

-- Trees without a node at which Q holds have one resolution, if Q holds at each wrong name, and types without such a node have one
module _ (m : Module) (fs : List Interface) (r s : Resolver) (names : SameNames m fs r s) (Q : Rule) (wrong : (xs : Locals) (t : Node) → Wrong m fs xs t → Q xs t)
    (type_agrees : (xs : Locals) (t : TypeTree) → ¬ (InType Q xs t) → type_with r t ≡ type_with s t) where
  types_agree : (xs : Locals) (ts : TypeTrees) → ¬ (InTypes Q xs ts) → types_with r ts ≡ types_with s ts
  types_agree xs no_types h = refl
  types_agree xs (more_types t ts) h = ap₂ more_types (type_agrees xs t (λ g. h (inl g))) (types_agree xs ts (λ g. h (inr g)))

  constructor_agree : (xs : Locals) (b : Binders) (c : DataConstructor) → ¬ (InConstructor Q xs c) → constructor_with r b c ≡ constructor_with s b c
  constructor_agree xs b (data_constructor n ts) h = ap (data_constructor (b n)) (types_agree xs ts h)

  constructors_agree : (xs : Locals) (b : Binders) (cs : DataConstructors) → ¬ (InConstructors Q xs cs) → constructors_with r b cs ≡ constructors_with s b cs
  constructors_agree xs b no_constructors h = refl
  constructors_agree xs b (more_constructors c cs) h = ap₂ more_constructors (constructor_agree xs b c (λ g. h (inl g))) (constructors_agree xs b cs (λ g. h (inr g)))

  used : (k : Namespace) (xs ys : Locals) (t : Node) (n : Identifier) → Uses ys t k n → ¬ (Q ys t) → ((e : Entity) → Means m fs k n e → r.name k xs n ≡ s.name k xs n) → r.name k xs n ≡ s.name k xs n
  used k xs ys t n u h f = stably m fs k n (name_discrete (r.name k xs n) (s.name k xs n)) (λ z. h (wrong ys t (Unbound, (n, unbound u z)))) (λ z. h (wrong ys t (Ambiguous, (n, ambiguous u z)))) f

  constructor_name_agree : (xs ys : Locals) (t : Node) (n : Identifier) → (¬ (IsSpecial n) → Uses ys t Constructors n) → ¬ (Q ys t) → r.name Constructors xs n ≡ s.name Constructors xs n
  constructor_name_agree xs ys t n u h = elim (special_dec n) [
    | yes p ↦ names.special xs n p
    | no p ↦ used Constructors xs ys t n (u p) h (λ e g. names.constructor xs n e p g)
  ]

  value_agree : (xs : Locals) (n : Identifier) → ¬ (Q xs (at_expression (variable_expression n))) → r.name Values xs n ≡ s.name Values xs n
  value_agree xs n h = elim (local_dec xs n) [
    | yes p ↦ names.local xs n p
    | no p ↦ used Values xs xs (at_expression (variable_expression n)) n (a_variable p) h (λ e g. names.value xs n e p g)
  ]

  mutual
    pattern_agree : (xs : Locals) (b : Binders) (p : Pattern) → ¬ (InPattern Q xs p) → pattern_with r b p ≡ pattern_with s b p
    pattern_agree xs b (variable_pattern n) h = refl
    pattern_agree xs b (bound_pattern n p) h = ap (bound_pattern (b n)) (pattern_agree xs b p h)
    pattern_agree xs b (constructor_pattern n ps) h = ap₂ constructor_pattern (constructor_name_agree [] xs (at_pattern (constructor_pattern n ps)) n (λ p. a_pattern p) (λ g. h (inl g))) (patterns_agree xs b ps (λ g. h (inr g)))
    pattern_agree xs b (literal_pattern l) h = refl
    pattern_agree xs b wildcard_pattern h = refl
    pattern_agree xs b (tuple_pattern ps) h = ap tuple_pattern (patterns_agree xs b ps h)
    pattern_agree xs b (list_pattern ps) h = ap list_pattern (patterns_agree xs b ps h)
    pattern_agree xs b (lazy_pattern p) h = ap lazy_pattern (pattern_agree xs b p h)

    patterns_agree : (xs : Locals) (b : Binders) (ps : Patterns) → ¬ (InPatterns Q xs ps) → patterns_with r b ps ≡ patterns_with s b ps
    patterns_agree xs b no_patterns h = refl
    patterns_agree xs b (more_patterns p ps) h = ap₂ more_patterns (pattern_agree xs b p (λ g. h (inl g))) (patterns_agree xs b ps (λ g. h (inr g)))

  mutual
    expression_agree : (xs : Locals) (e : Expression) → ¬ (InExpression Q xs e) → expression_with r xs e ≡ expression_with s xs e
    expression_agree xs (variable_expression n) h = ap variable_expression (value_agree xs n h)
    expression_agree xs (constructor_expression n) h = ap constructor_expression (constructor_name_agree [] xs (at_expression (constructor_expression n)) n (λ p. a_constructor p) h)
    expression_agree xs (literal_expression l) h = refl
    expression_agree xs (application f e) h = ap₂ application (expression_agree xs f (λ g. h (inl g))) (expression_agree xs e (λ g. h (inr g)))
    expression_agree xs (lambda ps e) h = ap₂ lambda (patterns_agree xs bare ps (λ g. h (inl (inr g)))) (expression_agree (with_patterns ps xs) e (λ g. h (inr g)))
    expression_agree xs (let_expression ds e) h = ap₂ let_expression (declarations_agree bare (with_list ds xs) ds (λ g. h (inl (inr g)))) (expression_agree (with_list ds xs) e (λ g. h (inr g)))
    expression_agree xs (if_expression a b c) h = λ i. if_expression (expression_agree xs a (λ g. h (inl g)) i) (expression_agree xs b (λ g. h (inr (inl g))) i) (expression_agree xs c (λ g. h (inr (inr g))) i)
    expression_agree xs (case_expression e bs) h = ap₂ case_expression (expression_agree xs e (λ g. h (inl g))) (alternatives_agree xs bs (λ g. h (inr g)))
    expression_agree xs (tuple_expression es) h = ap tuple_expression (expressions_agree xs es h)
    expression_agree xs (list_expression es) h = ap list_expression (expressions_agree xs es h)
    expression_agree xs (typed_expression e t) h = ap₂ typed_expression (expression_agree xs e (λ g. h (inl g))) (type_agrees xs t (λ g. h (inr g)))

    expressions_agree : (xs : Locals) (es : Expressions) → ¬ (InExpressions Q xs es) → expressions_with r xs es ≡ expressions_with s xs es
    expressions_agree xs no_expressions h = refl
    expressions_agree xs (more_expressions e es) h = ap₂ more_expressions (expression_agree xs e (λ g. h (inl g))) (expressions_agree xs es (λ g. h (inr g)))

    alternatives_agree : (xs : Locals) (bs : Alternatives) → ¬ (InAlternatives Q xs bs) → alternatives_with r xs bs ≡ alternatives_with s xs bs
    alternatives_agree xs no_alternatives h = refl
    alternatives_agree xs (more_alternatives (alternative p q) bs) h =
        λ i. more_alternatives (alternative (pattern_agree xs bare p (λ g. h (inl (inr (inl g)))) i) (right_side_agree (with_patterns (more_patterns p no_patterns) xs) q (λ g. h (inr (inl g))) i)) (alternatives_agree xs bs (λ g. h (inr (inr g))) i)

    right_side_agree : (xs : Locals) (q : RightSide) → ¬ (InRightSide Q xs q) → right_side_with r xs q ≡ right_side_with s xs q
    right_side_agree xs (right_side gs ds) h = ap₂ right_side (bodies_agree (with_list ds xs) gs (λ g. h (inl g))) (declarations_agree bare (with_list ds xs) ds (λ g. h (inr (inr g))))

    bodies_agree : (xs : Locals) (gs : Bodies) → ¬ (InBodies Q xs gs) → bodies_with r xs gs ≡ bodies_with s xs gs
    bodies_agree xs no_bodies h = refl
    bodies_agree xs (plain_body e gs) h = ap₂ plain_body (expression_agree xs e (λ g. h (inl g))) (bodies_agree xs gs (λ g. h (inr g)))
    bodies_agree xs (guarded_body c e gs) h = λ i. guarded_body (expression_agree xs c (λ g. h (inl g)) i) (expression_agree xs e (λ g. h (inr (inl g))) i) (bodies_agree xs gs (λ g. h (inr (inr g))) i)

    declarations_agree : (b : Binders) (xs : Locals) (ds : Declarations) → ¬ (InDeclarations Q xs ds) → declarations_with r b xs ds ≡ declarations_with s b xs ds
    declarations_agree b xs no_declarations h = refl
    declarations_agree b xs (more_declarations d ds) h = ap₂ more_declarations (declaration_agree b xs d (λ g. h (inl g))) (declarations_agree b xs ds (λ g. h (inr g)))

    pub declaration_agree : (b : Binders) (xs : Locals) (d : Declaration) → ¬ (InDeclaration Q xs d) → declaration_with r b xs d ≡ declaration_with s b xs d
    declaration_agree b xs (data_declaration n ps cs) h = ap (data_declaration (b n) ps) (constructors_agree xs b cs (λ g. h (inr g)))
    declaration_agree b xs (newtype_declaration n ps c) h = ap (newtype_declaration (b n) ps) (constructor_agree xs b c (λ g. h (inr g)))
    declaration_agree b xs (synonym_declaration n ps t) h = ap (synonym_declaration (b n) ps) (type_agrees xs t (λ g. h (inr g)))
    declaration_agree b xs (signature ns t) h = ap (signature (map b ns)) (type_agrees xs t h)
    declaration_agree b xs (clause n ps q) h = ap₂ (clause (b n)) (patterns_agree xs bare ps (λ g. h (inl (inr g)))) (right_side_agree (with_patterns ps xs) q (λ g. h (inr g)))
    declaration_agree b xs (pattern_binding l c p q) h = ap₂ (pattern_binding l c) (pattern_agree xs b p (λ g. h (inl (inr (inl g))))) (right_side_agree xs q (λ g. h (inr g)))

  pub list_agree : (b : Binders) (ds : List Declaration) → ¬ (InDeclarations Q [] (declarations ds)) → map (declaration_with r b []) ds ≡ map (declaration_with s b []) ds
  list_agree b [] h = refl
  list_agree b (d ∷ ds) h = ap₂ (λ d ds. d ∷ ds) (declaration_agree b [] d (λ g. h (inl g))) (list_agree b ds (λ g. h (inr g)))

-- the right side of a synonym of a clean module is clean
pub clean_right_sides : (m : Module) (fs : List Interface) (ds : List Declaration) → ¬ (InDeclarations (Wrong m fs) [] (declarations ds)) → (n : Identifier) (ps : List Identifier) (t : TypeTree) → Contains ds (synonym_declaration n ps t) → ¬ (InType (Wrong m fs) [] t)
clean_right_sides m fs [] h n ps t c g = absurd (none_in (synonym_declaration n ps t) c)
clean_right_sides m fs (d ∷ ds) h n ps t c g =
    elim (cases d ds (synonym_declaration n ps t) c) [
      | inl e ↦ h (inl (subst (λ z. InDeclaration (Wrong m fs) [] z) e (inr g)))
      | inr o ↦ clean_right_sides m fs ds (λ k. h (inr k)) n ps t o g
    ]

-- a module has one resolution
pub one_resolution : (m : Module) (fs : List Interface) (r s : Resolver) → IsWellFormed m fs → IsResolver m fs r → IsResolver m fs s → resolved m r ≡ resolved m s
one_resolution m fs r s w a b =
    let h = nothing_wrong m fs w in
    list_agree m fs r s (same_names m fs r s a b) (Wrong m fs) (λ xs t g. g) (type_agree m fs r s a b w (clean_right_sides m fs m.decls h)) (top m) m.decls h
