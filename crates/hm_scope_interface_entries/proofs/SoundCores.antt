-- What the declarations of a core keep of their module's: parameters are distinct, and synonyms have no other variables; and interfaces of entries.
use Rattle.std.proofs.Common.{◌≡◌, ℕ, List, [], ◌∷◌, ◌++◌, map, Option, None, Some, option_map, Bor, inl, inr, ⊎_elim, refl, sym, ap, ap₂, ◌∙◌, subst, Contains}
use Rattle.std.specs.Prelude.{◌↔◌}
use Rattle.std.proofs.lemmas.List.Elements.{Contains-append_cases}
use Rattle.hm_types.specs.declared.Entity.{Entity}
use Rattle.hm_types.specs.declared.entries.TypeEntry.{TypeEntry}
use Rattle.hm_types.specs.declared.entries.SynonymEntry.{SynonymEntry}
use Rattle.hm_types.specs.declared.entries.ConstructorEntry.{ConstructorEntry}
use Rattle.hm_types.specs.declared.entries.ValueEntry.{ValueEntry}
use Rattle.hm_types.specs.Interfaces.{Exports as Interface, IsInterface, AreOrdered}
use Rattle.hm_types.specs.Schemes.{TypeScheme}
use Rattle.hm_types.specs.Synonyms.{TypeSynonym}
use Rattle.hm_syntax.specs.Names.{Identifier}
use Rattle.hm_syntax.specs.Trees.{TypeTree, DataConstructor, Declaration, data_declaration, newtype_declaration, synonym_declaration, signature, clause, pattern_binding}
use Rattle.hm_syntax.specs.Lists.{declarations}
use Rattle.hm_syntax.specs.declared.ast.Module.{Module}
use Rattle.hm_names.specs.declared.cores.Exported.{Exported}
use Rattle.hm_scope_interface_entries.specs.declared.entries.Values.{Values}
use Rattle.hm_names.specs.declared.faults.Kind.TheVariants.{Duplicate}
use Rattle.hm_scope_interface_entries.specs.declared.known_exports.KnownType.{KnownType}
use Rattle.hm_scope_interface_entries.specs.declared.known_exports.KnownConstructor.{KnownConstructor}
use Rattle.hm_names.specs.declared.namespace.Namespace.TheVariants as namespace
use Rattle.hm_names.specs.Cores.{IsCore, HasArity, HasSynonym, synonym_in, imported_values, IsInterfaceOf}
use Rattle.hm_names.specs.Described.{first_of, declared_synonym, TypeDescription, declared_types, imported_types, type_meant}
use Rattle.hm_names.specs.Entities.{constructor_list}
use Rattle.hm_scope_interface_entries.specs.ExportedEntries.{AreTypesOf, AreConstructorsOf, AreValuesOf, HasSoundSynonyms, HasDistinctParameters, AreTypeEntries, AreSynonymEntries, AreConstructorEntries, AreValueEntries}
use Rattle.hm_names.specs.Faults.Lists.{Repeats, second_parameter}
use Rattle.hm_names.specs.Faults.Phases.{Declaring, fault}
use Rattle.hm_scope_interface_entries.specs.KnownExports.{Table, KnowsTypes, KnowsConstructors, KnowsValues, meaning_of, source_of, source_entity, ConstructorSource, declared, imported, declared_sources, imported_sources}
use Rattle.hm_scope_tables.specs.KnownTables.{entity_at}
use Rattle.hm_names.specs.ModuleCores.{ModuleCore}
use Rattle.hm_names.specs.Resolved.{declaration_with, type_with, top}
use Rattle.hm_names.specs.DeclaredSynonyms.{IsSound}
use Rattle.hm_names.specs.Variables.{texts, type_variables, bound_names}
use Rattle.hm_names.proofs.ClosedTypes.{of_type}
use Rattle.hm_scope_interface_entries.proofs.EntriesMade.{none_is_not}
use Rattle.hm_names.proofs.Members.{none_in, first, rest, mapped, first_of-is}
use Rattle.hm_names.proofs.OrderedLists.{one_of_contained, contained}
use Rattle.hm_names.proofs.SoundDeclarations.{parameters_in, distinct_there, sound_there}
use Rattle.hm_scope_tables.proofs.SortedNames.{one_by_name}
use Rattle.hm_names.proofs.Synonyms.{is_declared}
use Rattle.hm_names.proofs.TopEntities.{top_is_bound}

within : {X : Type 0} {a b : X} → Some a ≡ Some b → a ≡ b
within h = cc

-- Where a source of a constructor comes from

same_parameters : (t n : Identifier) (ps qs : List Identifier) (c d : DataConstructor) → declared t ps c ≡ declared n qs d → qs ≡ ps
same_parameters t n ps qs c d h = cc

no_entry : (t : Identifier) (ps : List Identifier) (c : DataConstructor) (r : ConstructorEntry) → declared t ps c ≡ imported r → ⊥
no_entry t ps c r h = cc

source_stands : (ds : List Declaration) (t : Identifier) (ps : List Identifier) (c : DataConstructor) → Contains (declared_sources ds) (declared t ps c) → (o : Declaration) × (Contains ds o × (parameters_in o ≡ ps))
source_stands [] t ps c h = absurd (none_in (declared t ps c) h)
source_stands (data_declaration n qs cs ∷ ds) t ps c h = ⊎_elim
    (λ l. let x = (mapped (declared n qs) (constructor_list cs) (declared t ps c)).0 l in (data_declaration n qs cs, (first (data_declaration n qs cs) ds, same_parameters t n ps qs c x.0 x.1.1)))
    (λ r. let o = source_stands ds t ps c r in (o.0, (rest (data_declaration n qs cs) ds o.0 o.1.0, o.1.1)))
    (Contains-append_cases (map (declared n qs) (constructor_list cs)) (declared_sources ds) (declared t ps c) h)
source_stands (newtype_declaration n qs d ∷ ds) t ps c h = ⊎_elim
    (λ e. (newtype_declaration n qs d, (first (newtype_declaration n qs d) ds, same_parameters t n ps qs c d e)))
    (λ r. let o = source_stands ds t ps c r in (o.0, (rest (newtype_declaration n qs d) ds o.0 o.1.0, o.1.1)))
    (Rattle.hm_names.proofs.Members.cases (declared n qs d) (declared_sources ds) (declared t ps c) h)
source_stands (synonym_declaration n qs u ∷ ds) t ps c h = let o = source_stands ds t ps c h in (o.0, (rest (synonym_declaration n qs u) ds o.0 o.1.0, o.1.1))
source_stands (signature ns u ∷ ds) t ps c h = let o = source_stands ds t ps c h in (o.0, (rest (signature ns u) ds o.0 o.1.0, o.1.1))
source_stands (clause n qs g ∷ ds) t ps c h = let o = source_stands ds t ps c h in (o.0, (rest (clause n qs g) ds o.0 o.1.0, o.1.1))
source_stands (pattern_binding a b p g ∷ ds) t ps c h = let o = source_stands ds t ps c h in (o.0, (rest (pattern_binding a b p g) ds o.0 o.1.0, o.1.1))

no_imported : (fs : List Interface) (t : Identifier) (ps : List Identifier) (c : DataConstructor) → Contains (imported_sources fs) (declared t ps c) → ⊥
no_imported [] t ps c h = none_in (declared t ps c) h
no_imported (f ∷ fs) t ps c h = ⊎_elim (λ l. let x = (mapped imported f.constructors (declared t ps c)).0 l in no_entry t ps c x.0 x.1.1) (λ r. no_imported fs t ps c r) (Contains-append_cases (map imported f.constructors) (imported_sources fs) (declared t ps c) h)

described_by : {X Y : Type 0} (f : X → Y) (y : Y) (o : Option X) → Some y ≡ option_map f o → (x : X) × ((o ≡ Some x) × (f x ≡ y))
described_by f y None h = absurd (none_is_not y (sym h))
described_by f y (Some x) h = (x, (refl, sym (within h)))

module _ (m : Module) (fs : List Interface) (c : ModuleCore) (core : IsCore m fs c) where
  pub sound_synonyms : (table : Table KnownType) → AreTypesOf c table → HasSoundSynonyms table
  sound_synonyms table known k ps t found =
      let d = described_by (λ (d : TypeDescription). d.meaning) (declared_synonym ps.now t.now) (type_meant c.name c.decls c.interfaces (entity_at k)) (sym (ap (option_map meaning_of) found) ∙ known k) in
      let it = is_declared (record m { decls = c.decls }) fs (entity_at k) d.0 ps.now t.now (sym (ap₂ (λ n l. type_meant n c.decls l (entity_at k)) core.name core.interfaces) ∙ d.1.0) d.1.1 in
      sound_there m fs c core it.name ps.now t.now it.stands

  pub distinct_parameters : (table : Table KnownConstructor) → AreConstructorsOf c table → HasDistinctParameters table
  distinct_parameters table known k t ps d found n r =
      let s = described_by (λ (s : ConstructorSource). s) (declared t.now ps.now d.now) (first_of (source_entity c.name) (entity_at k) (declared_sources c.decls ++ imported_sources c.interfaces)) (sym (ap (option_map source_of) found) ∙ known k) in
      let there = subst (λ z. Contains (declared_sources c.decls ++ imported_sources c.interfaces) z) s.1.1 (first_of-is (source_entity c.name) (entity_at k) (declared_sources c.decls ++ imported_sources c.interfaces) s.0 s.1.0).0 in
      ⊎_elim
      (λ l. let o = source_stands c.decls t.now ps.now d.now l in distinct_there m fs c core o.0 o.1.0 n (subst (λ qs. Repeats qs n) (sym o.1.1) r))
      (λ q. no_imported c.interfaces t.now ps.now d.now q)
      (Contains-append_cases (declared_sources c.decls) (imported_sources c.interfaces) (declared t.now ps.now d.now) there)

  pub values_of : (v : Values) → v.home.now ≡ c.name → ((x : List ℕ) → Contains v.own x ↔ Contains (texts (bound_names (declarations c.decls))) x) → KnowsValues (imported_values c.interfaces) v.imported → AreValuesOf c v
  values_of v home own known = record {
    home = home;
    top = λ e. (
      λ h. let b = (top_is_bound m fs c core e).0 h in (b.0, (own e.name).1 (contained (texts (bound_names (declarations c.decls))) e.name b.1)),
      λ h. (top_is_bound m fs c core e).1 (h.0, one_of_contained (texts (bound_names (declarations c.decls))) e.name ((own e.name).0 h.1)),
    );
    imported = known;
  }

  not_both : (e : Entity) (k : ℕ) (s : TypeSynonym) → HasArity c e k → HasSynonym c e s → ⊥
  not_both e k s a b =
      let same : a.description ≡ b.description = within (sym a.is ∙ b.is) in
      none_is_not s (ap synonym_in (sym a.arity) ∙ (ap (λ (d : TypeDescription). synonym_in d.meaning) same ∙ b.synonym))

  module _ (given : List ℕ → Option TypeScheme) (n : List ℕ) (ts : List TypeEntry) (ss : List SynonymEntry) (cs : List ConstructorEntry) (vs : List ValueEntry)
      (types : AreTypeEntries c c.exported_types ts) (synonyms : AreSynonymEntries c c.exported_types ss) (constructors : AreConstructorEntries c c.exported_constructors cs) (values : AreValueEntries c given c.exported_values vs) where
    apart : (x : List ℕ) → Contains (map (λ (r : TypeEntry). r.name) ts) x → ¬ (Contains (map (λ (r : SynonymEntry). r.name) ss) x)
    apart x a b =
        let r = (mapped (λ (r : TypeEntry). r.name) ts x).0 a in
        let s = (mapped (λ (r : SynonymEntry). r.name) ss x).0 b in
        let p = (types.exact r.0).0 r.1.0 in
        let q = (synonyms.exact s.0).0 s.1.0 in
        let one = one_by_name (λ (x : Exported). x.name) c.exported_types (record { name = r.0.name; entity = r.0.entity }) (record { name = s.0.name; entity = s.0.entity }) (core.ordered namespace.Types) p.0 q.0 (sym r.1.1 ∙ s.1.1) in
        not_both r.0.entity r.0.arity s.0.synonym p.1 (subst (λ z. HasSynonym c z s.0.synonym) (sym (ap (λ (x : Exported). x.entity) one)) q.1)

    pub is_interface : IsInterface (record { name = n; types = ts; synonyms = ss; constructors = cs; values = vs })
    is_interface = record { types = types.ordered; synonyms = synonyms.ordered; apart = apart; constructors = constructors.ordered; values = values.ordered }

    pub is_interface_of : (f : Interface) → n ≡ c.name → f ≡ record { name = n; types = ts; synonyms = ss; constructors = cs; values = vs } → IsInterfaceOf c given f
    is_interface_of f named is = subst (λ z. IsInterfaceOf c given z) (sym is) (record { name = named; types = types.exact; synonyms = synonyms.exact; constructors = constructors.exact; values = values.exact })

-- Tables that are filled with parts of a core

pub types_at : (c : ModuleCore) (table : Table KnownType) {home : List ℕ} {ds : List Declaration} {fs : List Interface} → home ≡ c.name → ds ≡ c.decls → fs ≡ c.interfaces → KnowsTypes (declared_types home ds ++ imported_types fs) table → AreTypesOf c table
types_at c table a b d known = subst (λ l. KnowsTypes l table) (λ i. declared_types (a i) (b i) ++ imported_types (d i)) known

pub constructors_at : (c : ModuleCore) (table : Table KnownConstructor) {home : List ℕ} {ds : List Declaration} {fs : List Interface} → home ≡ c.name → ds ≡ c.decls → fs ≡ c.interfaces → KnowsConstructors home (declared_sources ds ++ imported_sources fs) table → AreConstructorsOf c table
constructors_at c table {home} a b d known = subst (λ h. KnowsConstructors h (declared_sources c.decls ++ imported_sources c.interfaces) table) a (subst (λ l. KnowsConstructors home l table) (λ i. declared_sources (b i) ++ imported_sources (d i)) known)

pub values_at : (c : ModuleCore) (table : Table (Bor ValueEntry)) {fs : List Interface} → fs ≡ c.interfaces → KnowsValues (imported_values fs) table → KnowsValues (imported_values c.interfaces) table
values_at c table d known = subst (λ l. KnowsValues (imported_values l) table) d known

pub bound_at : (c : ModuleCore) (bound : List (List ℕ)) {ds : List Declaration} → ds ≡ c.decls → ((x : List ℕ) → Contains bound x ↔ Contains (texts (bound_names (declarations ds))) x) → (x : List ℕ) → Contains bound x ↔ Contains (texts (bound_names (declarations c.decls))) x
bound_at c bound b known = subst (λ l. (x : List ℕ) → Contains bound x ↔ Contains (texts (bound_names (declarations l))) x) b known

-- what holds of the exports that are handed on holds of the core's
pub entries_at : (P : List Exported → Type 0) {xs ys : List Exported} → xs ≡ ys → AreOrdered (map (λ x. x.name) ys) → (AreOrdered (map (λ x. x.name) xs) → P xs) → P ys
entries_at P e up f = subst P e (f (subst (λ l. AreOrdered (map (λ x. x.name) l)) (sym e) up))
