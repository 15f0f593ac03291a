-- A core's declarations have the bindings, signatures and constructors of the module's: only right sides of synonyms are left out.
use Rattle.std.proofs.Common.{◌≡◌, ℕ, suc, Bool, true, false, cond, List, [], ◌∷◌, ◌++◌, map, length, Option, Some, ◌⊎◌, inl, inr, refl, sym, ap, ◌∙◌, subst, Contains}
use Rattle.std.specs.Prelude.{◌||◌}
use Rattle.std.proofs.lemmas.Bool.{cases_Bool}
use Rattle.hm_types.specs.declared.Entity.{Entity}
use Rattle.hm_types.specs.Interfaces.{Exports as Interface}
use Rattle.hm_syntax.specs.Names.{Identifier}
use Rattle.hm_syntax.specs.Trees.{TypeTree, unit_type, Patterns, Declaration, data_declaration, newtype_declaration, synonym_declaration, signature, clause, pattern_binding, Declarations}
use Rattle.hm_syntax.specs.Lists.{declarations}
use Rattle.hm_syntax.specs.declared.ast.Module.{Module}
use Rattle.hm_typing.specs.Names.{binding}
use Rattle.hm_typing.specs.Syntax as typed
use Rattle.hm_names.specs.declared.cores.Exported.{Exported}
use Rattle.hm_names.specs.ModuleCores.{ModuleCore}
use Rattle.hm_names.specs.Entities.{constructor_list, named}
use Rattle.hm_names.specs.Cores.{IsCore, is_exported, kept, ConstructorScheme, scheme_in, declared_schemes, imported_schemes, scheme_or, known_in}
use Rattle.hm_names.specs.Described.{first_of, algebraic, declared_synonym, TypeDescription, declared_types, imported_types, type_meant}
use Rattle.hm_names.specs.Resolved.{Resolver, IsResolver, type_with, declaration_with, top, resolved}
use Rattle.hm_names.specs.Special.{special_of}
use Rattle.hm_names.specs.Syntax.{Known, bindings_of, name_of, bound_by, add_clause, signature_of, is_continued, declaration_count, is_signed_among, patterns_of, pattern_of, right_sides_of, where_of}
use Rattle.hm_names.specs.Texts.{same_entity}
use Rattle.hm_names.specs.Types.{entity_of, declared_type}
use Rattle.hm_names.specs.Variables.{bound_names, pattern_variables}
use Rattle.hm_names.proofs.Agreement.{one_resolution}
use Rattle.hm_names.proofs.Members.{none_in, cases, same_entity-Decides}

module _ (es : List Exported) where
  -- the declarations of a core with these exports
  abbrev Kept : List Declaration → Declarations
  Kept ds = declarations (map (kept es) ds)

  pub same_signature : (x : List ℕ) (ds : List Declaration) → signature_of x (Kept ds) ≡ signature_of x (declarations ds)
  same_signature x [] = refl
  same_signature x (data_declaration n ps cs ∷ ds) = same_signature x ds
  same_signature x (newtype_declaration n ps c ∷ ds) = same_signature x ds
  same_signature x (synonym_declaration n ps t ∷ ds) = same_signature x ds
  same_signature x (signature ns t ∷ ds) = ap (λ o. cond (is_signed_among x ns) (Some (declared_type t)) o) (same_signature x ds)
  same_signature x (clause n ps r ∷ ds) = same_signature x ds
  same_signature x (pattern_binding l c p r ∷ ds) = same_signature x ds

  same_continued : (x : List ℕ) (ps : Patterns) (ds : List Declaration) → is_continued x ps (Kept ds) ≡ is_continued x ps (declarations ds)
  same_continued x ps [] = refl
  same_continued x ps (data_declaration n qs cs ∷ ds) = refl
  same_continued x ps (newtype_declaration n qs c ∷ ds) = refl
  same_continued x ps (synonym_declaration n qs t ∷ ds) = refl
  same_continued x ps (signature ns t ∷ ds) = refl
  same_continued x ps (clause n qs r ∷ ds) = refl
  same_continued x ps (pattern_binding l c p r ∷ ds) = refl

  same_count : (ds : List Declaration) → declaration_count (Kept ds) ≡ declaration_count (declarations ds)
  same_count [] = refl
  same_count (d ∷ ds) = ap suc (same_count ds)

  pub same_bound : (ds : List Declaration) → bound_names (Kept ds) ≡ bound_names (declarations ds)
  same_bound [] = refl
  same_bound (data_declaration n ps cs ∷ ds) = same_bound ds
  same_bound (newtype_declaration n ps c ∷ ds) = same_bound ds
  same_bound (synonym_declaration n ps t ∷ ds) = same_bound ds
  same_bound (signature ns t ∷ ds) = same_bound ds
  same_bound (clause n ps r ∷ ds) = ap (λ ns. n ∷ ns) (same_bound ds)
  same_bound (pattern_binding l c p r ∷ ds) = ap (λ ns. pattern_variables p ++ ns) (same_bound ds)

  module _ (k : Known) (all : List Declaration) where
    same_bindings_in : (ds : List Declaration) → bindings_of k (Kept all) (Kept ds) ≡ bindings_of k (declarations all) (declarations ds)
    same_bindings_in [] = refl
    same_bindings_in (data_declaration n ps cs ∷ ds) = same_bindings_in ds
    same_bindings_in (newtype_declaration n ps c ∷ ds) = same_bindings_in ds
    same_bindings_in (synonym_declaration n ps t ∷ ds) = same_bindings_in ds
    same_bindings_in (signature ns t ∷ ds) = same_bindings_in ds
    same_bindings_in (clause n ps r ∷ ds) =
        λ i. cond (same_continued n.text ps ds i) (add_clause (λ cs. typed.clause (patterns_of k ps) (right_sides_of k r) (where_of k r) cs) (same_bindings_in ds i))
        (bound_by (name_of n) (same_signature n.text all i) (typed.clause (patterns_of k ps) (right_sides_of k r) (where_of k r) typed.no_clause) (same_bindings_in ds i))
    same_bindings_in (pattern_binding l c p r ∷ ds) =
        λ i. typed.matched (binding k.home (same_count ds i)) (pattern_of k p) (typed.clause typed.no_pattern (right_sides_of k r) (where_of k r) typed.no_clause) (same_bindings_in ds i)

  pub same_bindings : (k : Known) (ds : List Declaration) → bindings_of k (Kept ds) (Kept ds) ≡ bindings_of k (declarations ds) (declarations ds)
  same_bindings k ds = same_bindings_in k ds ds

  same_declared : (m : List ℕ) (ds : List Declaration) → declared_schemes m (map (kept es) ds) ≡ declared_schemes m ds
  same_declared m [] = refl
  same_declared m (data_declaration n ps cs ∷ ds) = ap (λ rs. map (scheme_in m n ps) (constructor_list cs) ++ rs) (same_declared m ds)
  same_declared m (newtype_declaration n ps c ∷ ds) = ap (λ rs. scheme_in m n ps c ∷ rs) (same_declared m ds)
  same_declared m (synonym_declaration n ps t ∷ ds) = same_declared m ds
  same_declared m (signature ns t ∷ ds) = same_declared m ds
  same_declared m (clause n ps r ∷ ds) = same_declared m ds
  same_declared m (pattern_binding l c p r ∷ ds) = same_declared m ds

  pub same_known : (m : List ℕ) (ds : List Declaration) (fs : List Interface) → known_in m (map (kept es) ds) fs ≡ known_in m ds fs
  same_known m ds fs = ap over (same_declared m ds)
    where
      over : List ConstructorScheme → Known
      over own = record { home = m; scheme = λ n. scheme_or (special_of n) (first_of (λ d. d.entity) (entity_of n) (own ++ imported_schemes fs)) }

-- What an exported type means

or_true : (b : Bool) → (b || true) ≡ true
or_true true = refl
or_true false = refl

pub listed : (es : List Exported) (x : Exported) → Contains es x → is_exported es x.entity ≡ true
listed [] x c = absurd (none_in x c)
listed (y ∷ ys) x c = elim (cases y ys x c) [
  | inl e ↦ ap (λ b. b || is_exported ys x.entity) ((same_entity-Decides x.entity y.entity).1 (ap (λ z. z.entity) e))
  | inr o ↦ ap (λ b. same_entity x.entity y.entity || b) (listed ys x o) ∙ or_true (same_entity x.entity y.entity)
]

module _ (m : Module) (r : Resolver) (es : List Exported) (e : Entity) (exported : is_exported es e ≡ true) (others : List TypeDescription) where
  abbrev Meant : List Declaration → Option TypeDescription
  Meant ds = first_of (λ d. d.entity) e (declared_types m.header.name.text ds ++ others)

  abbrev With : List Declaration → List Declaration
  With ds = map (declaration_with r (top m) []) ds

  abbrev step : Entity → TypeDescription → Option TypeDescription → Option TypeDescription
  step d t o = cond (same_entity e d) (Some t) o

  synonym_meaning : (n : Identifier) (ps : List Identifier) (t : TypeTree) (a b : Option TypeDescription) → a ≡ b → ((same_entity e (named m.header.name.text n.text) ≡ true) ⊎ (same_entity e (named m.header.name.text n.text) ≡ false)) →
      step (named m.header.name.text n.text) (record { entity = named m.header.name.text n.text; meaning = declared_synonym ps (cond (is_exported es (named m.header.name.text n.text)) t unit_type) }) a
      ≡ step (named m.header.name.text n.text) (record { entity = named m.header.name.text n.text; meaning = declared_synonym ps t }) b
  synonym_meaning n ps t a b h (inl q) =
      let there : is_exported es (named m.header.name.text n.text) ≡ true = subst (λ d. is_exported es d ≡ true) ((same_entity-Decides e (named m.header.name.text n.text)).0 q) exported in
      λ i. step (named m.header.name.text n.text) (record { entity = named m.header.name.text n.text; meaning = declared_synonym ps (cond (there i) t unit_type) }) (h i)
  synonym_meaning n ps t a b h (inr q) =
      ap (λ c. cond c (Some (record { entity = named m.header.name.text n.text; meaning = declared_synonym ps (cond (is_exported es (named m.header.name.text n.text)) t unit_type) })) a) q
      ∙ (h ∙ sym (ap (λ c. cond c (Some (record { entity = named m.header.name.text n.text; meaning = declared_synonym ps t })) b) q))

  pub same_meant : (ds : List Declaration) → Meant (map (kept es) (With ds)) ≡ Meant (With ds)
  same_meant [] = refl
  same_meant (data_declaration n ps cs ∷ ds) = ap (step (named m.header.name.text n.text) (record { entity = named m.header.name.text n.text; meaning = algebraic (length ps) })) (same_meant ds)
  same_meant (newtype_declaration n ps c ∷ ds) = ap (step (named m.header.name.text n.text) (record { entity = named m.header.name.text n.text; meaning = algebraic (length ps) })) (same_meant ds)
  same_meant (synonym_declaration n ps t ∷ ds) = synonym_meaning n ps (type_with r t) (Meant (map (kept es) (With ds))) (Meant (With ds)) (same_meant ds) (cases_Bool (same_entity e (named m.header.name.text n.text)))
  same_meant (signature ns t ∷ ds) = same_meant ds
  same_meant (clause n ps g ∷ ds) = same_meant ds
  same_meant (pattern_binding l c p g ∷ ds) = same_meant ds

pub keeps_exports : (m : Module) (fs : List Interface) (c : ModuleCore) (r : Resolver) → IsCore m fs c → IsResolver m fs r → (x : Exported) → Contains c.exported_types x →
    type_meant c.name c.decls c.interfaces x.entity ≡ type_meant c.name (resolved m r) c.interfaces x.entity
keeps_exports m fs c r a b x h =
    let t : c.decls ≡ map (kept c.exported_types) (resolved m r) = a.trees ∙ ap (map (kept c.exported_types)) (one_resolution m fs a.resolver r a.well_formed a.resolves b) in
    (λ i. type_meant (a.name i) (t i) c.interfaces x.entity) ∙
    (same_meant m r c.exported_types x.entity (listed c.exported_types x h) (imported_types c.interfaces) m.decls ∙
    (λ i. type_meant (sym a.name i) (resolved m r) c.interfaces x.entity))
