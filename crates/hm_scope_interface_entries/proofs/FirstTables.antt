-- Tables that tell of each entity what its first description tells.
use Rattle.std.proofs.Common.{◌≡◌, ℕ, ◌+◌, ◌<◌, ◌≤◌, Bool, true, false, cond, List, [], ◌∷◌, ◌++◌, map, length, take, get_or, Option, None, Some, option_map, is_some, refl, sym, ap, ◌∙◌, subst, inl, inr, append_assoc, append-nil, Bor}
use Rattle.std.specs.Map.{lookup}
use Rattle.std.proofs.lemmas.Bool.{cases_Bool, both_ways}
use Rattle.std.proofs.lemmas.List.{take_more, take_all, map-append}
use Rattle.indexmap.specs.IndexMap.{get_by}
use Rattle.hm_types.specs.declared.Entity.{Entity}
use Rattle.hm_types.specs.declared.entries.TypeEntry.{TypeEntry}
use Rattle.hm_types.specs.declared.entries.SynonymEntry.{SynonymEntry}
use Rattle.hm_types.specs.declared.entries.ValueEntry.{ValueEntry}
use Rattle.hm_types.specs.Interfaces.{Exports as Interface}
use Rattle.hm_syntax.specs.Names.{Identifier}
use Rattle.hm_syntax.specs.Lists.{constructors}
use Rattle.hm_syntax.specs.Trees.{DataConstructor, Declaration, data_declaration, newtype_declaration, synonym_declaration, signature, clause, pattern_binding}
use Rattle.hm_scope_tables.specs.declared.keys.EntityKey.{EntityKey}
use Rattle.hm_scope_interface_entries.specs.declared.known_exports.KnownConstructor.{KnownConstructor}
use Rattle.hm_names.specs.Texts.{same_entity}
use Rattle.hm_names.specs.Cores.{imported_values}
use Rattle.hm_names.specs.Described.{first_of, TypeDescription, declared_types, imported_types, algebraic, imported_synonym}
use Rattle.hm_names.specs.Entities.{constructor_list}
use Rattle.hm_scope_interface_entries.specs.KnownExports.{Table, IsFirst, ConstructorSource, declared, imported, declared_sources, imported_sources, KnowsConstructors}
use Rattle.hm_scope_tables.specs.KnownTables.{entity_at}
use Rattle.hm_scope_entities.specs.Owners.{same_key}
use Rattle.hm_names.proofs.DeclaredPairs.{listed}
use Rattle.hm_names.proofs.Members.{same_entity-Decides}
use Rattle.hm_scope_entities.proofs.OwnerTables.{first_kept, first_behind}

module _ {D V R : Type 0} (of : D → Entity) (told : D → R) (seen : V → R) where
  alone : (e : Entity) (d : D) → e ≡ of d → first_of of e (d ∷ []) ≡ Some d
  alone e d h = ap (λ b. cond b (Some d) None) ((same_entity-Decides e (of d)).1 h)

  kept : (ds : List D) (d : D) (e : Entity) (o : Option D) → first_of of e ds ≡ o → (o ≡ None → ¬ (e ≡ of d)) → option_map told (first_of of e (ds ++ d ∷ [])) ≡ option_map told o
  kept ds d e (Some x) h n = ap (option_map told) (first_kept of e ds (d ∷ []) x h)
  kept ds d e None h n = ap (option_map told) (first_behind of e ds (d ∷ []) h ∙ other (same_entity e (of d)) (same_entity-Decides e (of d)).0)
    where
      other : (b : Bool) → (b ≡ true → e ≡ of d) → cond b (Some d) None ≡ None
      other true t = absurd (n refl (t refl))
      other false t = refl

  is_told : (o : Option V) → is_some (option_map seen o) ≡ is_some o
  is_told None = refl
  is_told (Some v) = refl

  no_more : (o : Option D) → is_some (option_map told o) ≡ false → o ≡ None
  no_more None h = refl
  no_more (Some x) h = absurd (let k : true ≡ false = h in cc)

  pub noted : (ds : List D) (d : D) (old new : Table V) (key : EntityKey) (v : V) → entity_at key ≡ of d → seen v ≡ told d → IsFirst of told seen ds old
      → ((k : EntityKey) → get_by (same_key k) new ≡ cond (is_some (get_by (same_key key) old)) (get_by (same_key k) old) (cond (same_key key k) (Some v) (get_by (same_key k) old))) → IsFirst of told seen (ds ++ d ∷ []) new
  noted ds d old new key v is same table updated q =
      let known : is_some (get_by (same_key key) old) ≡ is_some (option_map told (first_of of (of d) ds)) = sym (is_told (get_by (same_key key) old)) ∙ ap is_some (table key ∙ ap (λ e. option_map told (first_of of e ds)) is) in
      elim (cases_Bool (is_some (get_by (same_key key) old))) [
        | inl there ↦
            ap (option_map seen) (updated q ∙ ap (λ b. cond b (get_by (same_key q) old) (cond (same_key key q) (Some v) (get_by (same_key q) old))) there) ∙ table q
            ∙ sym (kept ds d (entity_at q) (first_of of (entity_at q) ds) refl (λ none own. both_ways (is_some (get_by (same_key key) old)) (known ∙ ap (λ o. is_some (option_map told o)) (ap (λ e. first_of of e ds) (sym own) ∙ none)) there))
        | inr absent ↦ elim (cases_Bool (same_key key q)) [
          | inl here ↦
              let one : entity_at key ≡ entity_at q = (same_entity-Decides (entity_at key) (entity_at q)).0 here in
              let none : first_of of (entity_at q) ds ≡ None = no_more (first_of of (entity_at q) ds) (ap (λ e. is_some (option_map told (first_of of e ds))) (sym one ∙ is) ∙ sym known ∙ absent) in
              ap (option_map seen) (updated q ∙ ap (λ b. cond b (get_by (same_key q) old) (cond (same_key key q) (Some v) (get_by (same_key q) old))) absent ∙ ap (λ b. cond b (Some v) (get_by (same_key q) old)) here)
              ∙ ap Some same ∙ sym (ap (option_map told) (first_behind of (entity_at q) ds (d ∷ []) none ∙ alone (entity_at q) d (sym one ∙ is)))
          | inr apart ↦
              ap (option_map seen) (updated q ∙ ap (λ b. cond b (get_by (same_key q) old) (cond (same_key key q) (Some v) (get_by (same_key q) old))) absent ∙ ap (λ b. cond b (Some v) (get_by (same_key q) old)) apart) ∙ table q
              ∙ sym (kept ds d (entity_at q) (first_of of (entity_at q) ds) refl (λ none own. both_ways (same_key key q) apart ((same_entity-Decides (entity_at key) (entity_at q)).1 (is ∙ sym own))))
        ]
      ]

  pub nothing_known : (table : Table V) → table.entries ≡ [] → IsFirst of told seen [] table
  nothing_known table e k = ap (λ es. option_map seen (lookup (same_key k) es)) e

  -- a loop over a list that is described part by part
  module _ {X : Type 0} (parts : List X → List D) (part : X → List D) (joined : (xs : List X) (x : X) → parts (xs ++ x ∷ []) ≡ parts xs ++ part x) (none : parts [] ≡ []) (ds : List D) where
    pub more_described : (xs : List X) (i : ℕ) (x : X) (table : Table V) → i < length xs → x ≡ get_or xs i x → IsFirst of told seen ((ds ++ parts (take i xs)) ++ part x) table → IsFirst of told seen (ds ++ parts (take (i + 1) xs)) table
    more_described xs i x table inside is h =
        let more : take (i + 1) xs ≡ take i xs ++ x ∷ [] = take_more xs i x inside ∙ ap (λ y. take i xs ++ y ∷ []) (sym is) in
        let all : ds ++ parts (take (i + 1) xs) ≡ (ds ++ parts (take i xs)) ++ part x = ap (λ l. ds ++ parts l) more ∙ ap (λ l. ds ++ l) (joined (take i xs) x) ∙ sym (append_assoc ds (parts (take i xs)) (part x)) in
        subst (λ l. IsFirst of told seen l table) (sym all) h

    pub none_described : (xs : List X) (table : Table V) → IsFirst of told seen ds table → IsFirst of told seen (ds ++ parts (take 0 xs)) table
    none_described xs table h = subst (λ l. IsFirst of told seen l table) (sym (ap (λ l. ds ++ parts l) (start xs) ∙ ap (λ l. ds ++ l) none ∙ append-nil ds)) h
      where
        start : (xs : List X) → take 0 xs ≡ []
        start [] = refl
        start (x ∷ xs) = refl

    pub all_described : (xs : List X) (i : ℕ) (table : Table V) → length xs ≤ i → IsFirst of told seen (ds ++ parts (take i xs)) table → IsFirst of told seen (ds ++ parts xs) table
    all_described xs i table past h = subst (λ l. IsFirst of told seen (ds ++ parts l) table) (take_all i xs past) h

-- The parts

pub joined_types : (m : List ℕ) (ds : List Declaration) (e : Declaration) → declared_types m (ds ++ e ∷ []) ≡ declared_types m ds ++ declared_types m (e ∷ [])
joined_types m [] e = refl
joined_types m (data_declaration n ps cs ∷ ds) e = ap (λ l. record { entity = Rattle.hm_names.specs.Entities.named m n.text; meaning = algebraic (length ps) } ∷ l) (joined_types m ds e)
joined_types m (newtype_declaration n ps c ∷ ds) e = ap (λ l. record { entity = Rattle.hm_names.specs.Entities.named m n.text; meaning = algebraic (length ps) } ∷ l) (joined_types m ds e)
joined_types m (synonym_declaration n ps t ∷ ds) e = ap (λ l. record { entity = Rattle.hm_names.specs.Entities.named m n.text; meaning = Rattle.hm_names.specs.Described.declared_synonym ps t } ∷ l) (joined_types m ds e)
joined_types m (signature ns t ∷ ds) e = joined_types m ds e
joined_types m (clause n ps r ∷ ds) e = joined_types m ds e
joined_types m (pattern_binding line column p r ∷ ds) e = joined_types m ds e

pub joined_sources : (ds : List Declaration) (e : Declaration) → declared_sources (ds ++ e ∷ []) ≡ declared_sources ds ++ declared_sources (e ∷ [])
joined_sources [] e = refl
joined_sources (data_declaration n ps cs ∷ ds) e = ap (λ l. map (declared n ps) (constructor_list cs) ++ l) (joined_sources ds e) ∙ sym (append_assoc (map (declared n ps) (constructor_list cs)) (declared_sources ds) (declared_sources (e ∷ [])))
joined_sources (newtype_declaration n ps c ∷ ds) e = ap (λ l. declared n ps c ∷ l) (joined_sources ds e)
joined_sources (synonym_declaration n ps t ∷ ds) e = joined_sources ds e
joined_sources (signature ns t ∷ ds) e = joined_sources ds e
joined_sources (clause n ps r ∷ ds) e = joined_sources ds e
joined_sources (pattern_binding line column p r ∷ ds) e = joined_sources ds e

abbrev pub type_of_entry : TypeEntry → TypeDescription
type_of_entry r = record { entity = r.entity; meaning = algebraic r.arity }

abbrev pub synonym_of_entry : SynonymEntry → TypeDescription
synonym_of_entry r = record { entity = r.entity; meaning = imported_synonym r.synonym }

abbrev pub types_of_all : List (Bor Interface) → List TypeDescription
types_of_all fs = imported_types (map (λ f. f.now) fs)

abbrev pub types_of_one : Bor Interface → List TypeDescription
types_of_one f = map type_of_entry f.now.types ++ map synonym_of_entry f.now.synonyms

pub joined_interfaces : (fs : List (Bor Interface)) (f : Bor Interface) → types_of_all (fs ++ f ∷ []) ≡ types_of_all fs ++ types_of_one f
joined_interfaces [] f = ap (λ l. map type_of_entry f.now.types ++ l) (append-nil (map synonym_of_entry f.now.synonyms))
joined_interfaces (g ∷ fs) f =
    ap (λ l. map type_of_entry g.now.types ++ (map synonym_of_entry g.now.synonyms ++ l)) (joined_interfaces fs f)
    ∙ ap (λ l. map type_of_entry g.now.types ++ l) (sym (append_assoc (map synonym_of_entry g.now.synonyms) (types_of_all fs) (types_of_one f)))
    ∙ sym (append_assoc (map type_of_entry g.now.types) (map synonym_of_entry g.now.synonyms ++ types_of_all fs) (types_of_one f))

abbrev pub sources_of_all : List (Bor Interface) → List ConstructorSource
sources_of_all fs = imported_sources (map (λ f. f.now) fs)

abbrev pub sources_of_one : Bor Interface → List ConstructorSource
sources_of_one f = map imported f.now.constructors

pub joined_imports : (fs : List (Bor Interface)) (f : Bor Interface) → sources_of_all (fs ++ f ∷ []) ≡ sources_of_all fs ++ sources_of_one f
joined_imports [] f = append-nil (map imported f.now.constructors)
joined_imports (g ∷ fs) f = ap (λ l. map imported g.now.constructors ++ l) (joined_imports fs f) ∙ sym (append_assoc (map imported g.now.constructors) (sources_of_all fs) (sources_of_one f))

abbrev pub values_of_all : List (Bor Interface) → List ValueEntry
values_of_all fs = imported_values (map (λ f. f.now) fs)

abbrev pub values_of_one : Bor Interface → List ValueEntry
values_of_one f = f.now.values

pub joined_values : (fs : List (Bor Interface)) (f : Bor Interface) → values_of_all (fs ++ f ∷ []) ≡ values_of_all fs ++ values_of_one f
joined_values [] f = append-nil f.now.values
joined_values (g ∷ fs) f = ap (λ l. g.now.values ++ l) (joined_values fs f) ∙ sym (append_assoc g.now.values (values_of_all fs) (values_of_one f))

pub joined_map : {X Y : Type 0} (f : X → Y) (xs : List X) (x : X) → map f (xs ++ x ∷ []) ≡ map f xs ++ f x ∷ []
joined_map f xs x = map-append f xs (x ∷ [])

pub joined_same : {X : Type 0} (xs : List X) (x : X) → xs ++ x ∷ [] ≡ xs ++ x ∷ []
joined_same xs x = refl

pub sources_of_data : (m : List ℕ) (ds : List ConstructorSource) (n : Identifier) (ps : List Identifier) (cs : List DataConstructor) (table : Table KnownConstructor) → KnowsConstructors m (ds ++ map (declared n ps) cs) table → KnowsConstructors m (ds ++ declared_sources (data_declaration n ps (constructors cs) ∷ [])) table
sources_of_data m ds n ps cs table h = subst (λ l. KnowsConstructors m (ds ++ l) table) (sym (append-nil (map (declared n ps) (constructor_list (constructors cs))) ∙ ap (λ l. map (declared n ps) l) (listed cs))) h
