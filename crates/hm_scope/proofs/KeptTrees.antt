-- Tables that have what a core needs of synonyms give the declarations of the core.
use Rattle.std.proofs.Common.{◌≡◌, ℕ, Bool, true, false, cond, List, [], ◌∷◌, map, ◌⊎◌, inl, inr, refl, sym, ap, ap₂, ◌∙◌, subst, Contains}
use Rattle.std.proofs.lemmas.Bool.{both_ways, cases_Bool}
use Rattle.std.proofs.lemmas.List.Elements.{Contains-append_left, Contains-append_right}
use Rattle.hm_types.specs.declared.Entity.{Entity}
use Rattle.hm_types.specs.Interfaces.{Exports as Interface}
use Rattle.hm_syntax.specs.Names.{Identifier}
use Rattle.hm_syntax.specs.Trees.{TypeTree, unit_type, Declaration, data_declaration, newtype_declaration, synonym_declaration, signature, clause, pattern_binding}
use Rattle.hm_syntax.specs.Lists.{declarations}
use Rattle.hm_syntax.specs.declared.ast.Module.{Module}
use Rattle.hm_names.specs.declared.cores.Exported.{Exported}
use Rattle.hm_names.specs.declared.namespace.Namespace.TheVariants.{Types}
use Rattle.hm_names.specs.Cores.{is_exported, kept}
use Rattle.hm_names.specs.Entities.{own}
use Rattle.hm_names.specs.Found.{Lookups, resolver_of, synonym_among}
use Rattle.hm_names.specs.Faults.Phases.{IsWellFormed}
use Rattle.hm_names.specs.NodeFaults.{AreLookupsOf}
use Rattle.hm_names.specs.Resolved.{Resolver, type_with, declaration_with, top, resolved}
use Rattle.hm_names.specs.Scope.{Means}
use Rattle.hm_names.specs.Texts.{same_entity, is_text_among}
use Rattle.hm_names.specs.Types.{entity_of}
use Rattle.hm_names.specs.Walk.{Locals, Node, InType, InDeclaration, InDeclarations}
use Rattle.hm_names.proofs.Agreement.{Wrong, nothing_wrong, Alike, same_type, Clear, clear_type, stably, SameNames, declaration_agree}
use Rattle.hm_names.proofs.Listings.{both_dec}
use Rattle.hm_names.proofs.KeptDeclarations.{listed}
use Rattle.hm_names.proofs.Members.{none_in, cases, first, rest, name_discrete, optional_synonym_discrete, same_entity-Decides}
use Rattle.hm_names.proofs.Resolves.{names_resolve}
use Rattle.hm_names.proofs.Somewhere.{some_declaration}
use Rattle.hm_names.proofs.Standing.{among_decides}
use Rattle.hm_scope.specs.Answers.{HasExportedTypes}
use Rattle.hm_scope.specs.NeededSynonyms.{AreExportedTypes, kept_by, ResolvesNeeded}
use Rattle.hm_scope.specs.UsedTypes.{types_outside, all_types_outside, declaration_types}
use Rattle.hm_scope.proofs.Everywhere.{each_type}
use Rattle.hm_scope.proofs.TypesInTrees.{AtTypes, in_type, of_declaration}

-- a type that is among the exports has its place there
row_of : (es : List Exported) (e : Entity) → is_exported es e ≡ true → (y : List ℕ) × Contains es (record { name = y; entity = e })
row_of [] e h = absurd (both_ways false refl h)
row_of (r ∷ rs) e h = go (cases_Bool (same_entity e r.entity)) h (row_of rs e)
  where
    go : (same_entity e r.entity ≡ true) ⊎ (same_entity e r.entity ≡ false) → is_exported (r ∷ rs) e ≡ true → (is_exported rs e ≡ true → (y : List ℕ) × Contains rs (record { name = y; entity = e })) → (y : List ℕ) × Contains (r ∷ rs) (record { name = y; entity = e })
    go (inl s) g again =
        let same : e ≡ r.entity = (same_entity-Decides e r.entity).0 s in
        (r.name, subst (λ (x : Exported). Contains (r ∷ rs) x) (let p : r ≡ record { name = r.name; entity = e } = (λ i. record { name = r.name; entity = sym same i }) in p) (first r rs))
    go (inr f) g again = let q = again (sym (ap (λ b. Rattle.std.specs.Prelude.◌||◌ b (is_exported rs e)) f) ∙ g) in (q.0, rest r rs (record { name = q.0; entity = e }) q.1)

same_bool : (a b : Bool) → (a ≡ true → b ≡ true) → (b ≡ true → a ≡ true) → a ≡ b
same_bool true b f g = sym (f refl)
same_bool false true f g = g refl
same_bool false false f g = refl

exported_alike : (m : Module) (fs : List Interface) (xs : List (List ℕ)) (es : List Exported) → AreExportedTypes m fs xs → HasExportedTypes m fs es → (x : List ℕ) → is_text_among x xs ≡ is_exported es (own m x)
exported_alike m fs xs es own_types types x = same_bool (is_text_among x xs) (is_exported es (own m x))
    (λ h. let q = (own_types x).0 ((among_decides x xs).0 h) in listed es (record { name = q.0; entity = own m x }) ((types q.0 (own m x)).1 q.1))
    (λ h. let q = row_of es (own m x) h in (among_decides x xs).1 ((own_types x).1 (q.0, (types q.0 (own m x)).0 q.1)))

clean : (m : Module) (fs : List Interface) (ds : List Declaration) → ¬ (InDeclarations (Wrong m fs) [] (declarations ds)) → (d : Declaration) → Contains ds d → ¬ (InDeclaration (Wrong m fs) [] d)
clean m fs [] h d c g = absurd (none_in d c)
clean m fs (e ∷ ds) h d c g = elim (cases e ds d c) [
  | inl q ↦ h (inl (subst (λ z. InDeclaration (Wrong m fs) [] z) q g))
  | inr o ↦ clean m fs ds (λ k. h (inr k)) d o g
]

outside : (ds : List Declaration) (d : Declaration) (o : Identifier) → Contains ds d → Contains (types_outside d) o → Contains (all_types_outside ds) o
outside [] d o c i = absurd (none_in d c)
outside (e ∷ ds) d o c i = elim (cases e ds d c) [
  | inl q ↦ Contains-append_left (types_outside e) (all_types_outside ds) o (subst (λ z. Contains (types_outside z) o) q i)
  | inr r ↦ Contains-append_right (types_outside e) (all_types_outside ds) o (outside ds d o r i)
]

module _ (m : Module) (fs : List Interface) (w : IsWellFormed m fs) (k : Lookups) (looked : AreLookupsOf m fs k) (exported : List (List ℕ)) (needed : ResolvesNeeded m fs exported k.synonyms) where
  abbrev r : Resolver
  r = needed.resolver

  names : SameNames m fs (resolver_of k) r
  names = names_resolve m fs k looked r needed.resolves

  dec : (o : Identifier) → Dec (Alike (resolver_of k) r o)
  dec o = both_dec (name_discrete ((resolver_of k).name Types [] o) (r.name Types [] o)) (optional_synonym_discrete ((resolver_of k).synonym (entity_of ((resolver_of k).name Types [] o))) (r.synonym (entity_of (r.name Types [] o))))

  -- a type constructor whose synonym the tables have as the resolver is alike
  alike : (o : Identifier) (e : Entity) → Means m fs Types o e → synonym_among k.synonyms e ≡ r.synonym e → Alike (resolver_of k) r o
  alike o e h settled =
      let other = needed.resolves.type [] o e h in
      let one = names.type [] o e h ∙ other in
      (one ∙ sym other, ap (λ z. synonym_among k.synonyms (entity_of z)) one ∙ (settled ∙ sym (ap (λ z. r.synonym (entity_of z)) other)))

  -- a type constructor with one meaning that isn't alike
  abbrev Bad : Identifier → Type 0
  Bad o = Clear m fs o × ¬ (Alike (resolver_of k) r o)

  abbrev Either : Bool → Locals → Node → Type 0
  Either true = Wrong m fs
  Either false = AtTypes Bad

  abbrev Spoiled : Locals → Node → Type 0
  Spoiled xs t = (b : Bool) × Either b xs t

  type_agrees : (xs : Locals) (t : TypeTree) → ¬ (InType Spoiled xs t) → type_with (resolver_of k) t ≡ type_with r t
  type_agrees xs t h = same_type (resolver_of k) r t (λ o i.
      let clear = clear_type m fs xs t (λ g. h (each_type (Wrong m fs) Spoiled (λ ys u q. (true, q)) xs t g)) o i in
      elim (dec o) [ yes p ↦ p | no q ↦ absurd (h (each_type (AtTypes Bad) Spoiled (λ ys u q. (false, q)) xs t (in_type Bad xs t o i (clear, q)))) ])

  -- a declaration whose type constructors are all alike
  agrees : (d : Declaration) → Contains m.decls d → ((o : Identifier) → Contains (declaration_types d) o → Contains (all_types_outside m.decls) o) → declaration_with (resolver_of k) (top m) [] d ≡ declaration_with r (top m) [] d
  agrees d c used = declaration_agree m fs (resolver_of k) r names Spoiled (λ xs t g. (true, g)) type_agrees (top m) [] d (λ h. let q = some_declaration Either [] d h in refuted q.0 q.1)
    where
      refuted : (b : Bool) → ¬ (InDeclaration (Either b) [] d)
      refuted true g = clean m fs m.decls (nothing_wrong m fs w) d c g
      refuted false g =
          let q = of_declaration Bad [] d g in
          q.1.1.1 (stably m fs Types q.0 (dec q.0) q.1.1.0.0 q.1.1.0.1 (λ e means. alike q.0 e means (needed.used q.0 e (used q.0 q.1.0) means)))

  -- the right side of an exported synonym
  right_side_agrees : (n : Identifier) (ps : List Identifier) (t : TypeTree) → Contains m.decls (synonym_declaration n ps t) → Contains exported n.text → type_with (resolver_of k) t ≡ type_with r t
  right_side_agrees n ps t c x = same_type (resolver_of k) r t (λ o i.
      let clear = clear_type m fs [] t (λ g. clean m fs m.decls (nothing_wrong m fs w) (synonym_declaration n ps t) c (inr g)) o i in
      stably m fs Types o (dec o) clear.0 clear.1 (λ e means. alike o e means (needed.right_sides n ps t o e c x i means)))

  module _ (own_types : AreExportedTypes m fs exported) (es : List Exported) (types : HasExportedTypes m fs es) where
    kept_same : (d : Declaration) → Contains m.decls d → kept_by exported (declaration_with (resolver_of k) (top m) [] d) ≡ kept es (declaration_with r (top m) [] d)
    kept_same (data_declaration n ps cs) c = agrees (data_declaration n ps cs) c (λ o i. outside m.decls (data_declaration n ps cs) o c i)
    kept_same (newtype_declaration n ps b) c = agrees (newtype_declaration n ps b) c (λ o i. outside m.decls (newtype_declaration n ps b) o c i)
    kept_same (synonym_declaration n ps t) c =
        ap (λ u. synonym_declaration (top m n) ps u) (by_export (cases_Bool (is_text_among n.text exported)) ∙ ap (λ b. cond b (type_with r t) unit_type) (exported_alike m fs exported es own_types types n.text))
      where
        by_export : (is_text_among n.text exported ≡ true) ⊎ (is_text_among n.text exported ≡ false) → cond (is_text_among n.text exported) (type_with (resolver_of k) t) unit_type ≡ cond (is_text_among n.text exported) (type_with r t) unit_type
        by_export (inl e) = ap (λ u. cond (is_text_among n.text exported) u unit_type) (right_side_agrees n ps t c ((among_decides n.text exported).0 e))
        by_export (inr e) = ap (λ b. cond b (type_with (resolver_of k) t) unit_type) e ∙ sym (ap (λ b. cond b (type_with r t) unit_type) e)
    kept_same (signature ns t) c = agrees (signature ns t) c (λ o i. outside m.decls (signature ns t) o c i)
    kept_same (clause n ps g) c = agrees (clause n ps g) c (λ o i. outside m.decls (clause n ps g) o c i)
    kept_same (pattern_binding a b p g) c = agrees (pattern_binding a b p g) c (λ o i. outside m.decls (pattern_binding a b p g) o c i)

    all_kept : (ds : List Declaration) → ((d : Declaration) → Contains ds d → Contains m.decls d) →
        map (kept_by exported) (map (declaration_with (resolver_of k) (top m) []) ds) ≡ map (kept es) (map (declaration_with r (top m) []) ds)
    all_kept [] within = refl
    all_kept (d ∷ ds) within = ap₂ (λ d ds. d ∷ ds) (kept_same d (within d (first d ds))) (all_kept ds (λ e o. within e (rest d ds e o)))

    -- the declarations of a core with these exported types
    pub kept_trees : map (kept_by exported) (map (declaration_with (resolver_of k) (top m) []) m.decls) ≡ map (kept es) (resolved m r)
    kept_trees = all_kept m.decls (λ d c. c)
