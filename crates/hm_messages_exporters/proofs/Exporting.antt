-- What interfaces export, what imports bring into scope, and names that aren't in scope.
use Rattle.std.proofs.Common.{◌≡◌, ◌∙◌, ℕ, ◌<◌, All, Contains, List, None, Option, Some, ap, false, get_or, inl, length, refl, subst, sym}
use Rattle.hm_lex.specs.declared.token.Place.{Place}
use Rattle.hm_types.specs.Interfaces.{Exports as Interface}
use Rattle.hm_types.specs.declared.entries.ConstructorEntry.{ConstructorEntry}
use Rattle.hm_types.specs.declared.entries.SynonymEntry.{SynonymEntry}
use Rattle.hm_types.specs.declared.entries.TypeEntry.{TypeEntry}
use Rattle.hm_types.specs.declared.entries.ValueEntry.{ValueEntry}
use Rattle.hm_types.specs.declared.Entity.{Entity}
use Rattle.hm_syntax.specs.Lists.{declarations}
use Rattle.hm_syntax.specs.Names.{Identifier}
use Rattle.hm_syntax.specs.declared.ast.Module.{Module}
use Rattle.hm_names.specs.Entities.{Exports, a_constructor, a_synonym, a_type, a_value}
use Rattle.hm_names.specs.Scope.{IsUnbound, imported, written}
use Rattle.hm_names.specs.declared.namespace.Namespace.{Namespace}
use Rattle.hm_names.specs.declared.namespace.Namespace.TheVariants.{Types, Constructors, Values}
use Rattle.hm_uses.specs.Mentions.{declarations_mentions}
use Rattle.hm_uses.specs.Uses.{UseOf}
use Rattle.hm_messages_exporters.specs.Exported.{IsExported}
use Rattle.hm_messages_exporters.specs.LeftOut.{LeftOutLaw}
use Rattle.hm_messages_exporters.specs.Missing.{IsMissing, name_at, space_of}

pub left_out_imports : LeftOutLaw
left_out_imports m fs p s x i missing is_written g e among called bare brings =
    missing.unbound e (imported (written is_written) among called brings (inl (refl, bare)))

-- ---- one entry has the name

pub type_exported : (f : Interface) (x : List ℕ) (rs : List TypeEntry) → rs ≡ f.types → ((r : TypeEntry) × Contains rs r × (r.name ≡ x)) → IsExported f Types x
type_exported f x rs same h = (h.0.entity, a_type (subst (λ l. Contains l h.0) same h.1) h.2 refl)

pub synonym_exported : (f : Interface) (x : List ℕ) (rs : List SynonymEntry) → rs ≡ f.synonyms → ((r : SynonymEntry) × Contains rs r × (r.name ≡ x)) → IsExported f Types x
synonym_exported f x rs same h = (h.0.entity, a_synonym (subst (λ l. Contains l h.0) same h.1) h.2 refl)

pub constructor_exported : (f : Interface) (x : List ℕ) (rs : List ConstructorEntry) → rs ≡ f.constructors → ((r : ConstructorEntry) × Contains rs r × (r.name ≡ x)) → IsExported f Constructors x
constructor_exported f x rs same h = (h.0.entity, a_constructor (subst (λ l. Contains l h.0) same h.1) h.2 refl)

pub value_exported : (f : Interface) (x : List ℕ) (rs : List ValueEntry) → rs ≡ f.values → ((r : ValueEntry) × Contains rs r × (r.name ≡ x)) → IsExported f Values x
value_exported f x rs same h = (h.0.entity, a_value (subst (λ l. Contains l h.0) same h.1) h.2 refl)

-- ---- no entry has it

no_type_entry : (f : Interface) (x : List ℕ) (e : Entity) → ((r : TypeEntry) → Contains f.types r → ¬ (r.name ≡ x)) → ((r : SynonymEntry) → Contains f.synonyms r → ¬ (r.name ≡ x)) → ¬ (Exports f x e Types)
no_type_entry f x e ts ss (a_type {r} among named is) = ts r among named
no_type_entry f x e ts ss (a_synonym {r} among named is) = ss r among named

pub type_not_exported : (f : Interface) (x : List ℕ) (rs : List TypeEntry) (ss : List SynonymEntry) → rs ≡ f.types → ss ≡ f.synonyms
    → ((r : TypeEntry) → Contains rs r → ¬ (r.name ≡ x)) → ((r : SynonymEntry) → Contains ss r → ¬ (r.name ≡ x)) → ¬ (IsExported f Types x)
type_not_exported f x rs ss types synonyms no_type no_synonym h =
    no_type_entry f x h.0 (λ r among. no_type r (subst (λ l. Contains l r) (sym types) among)) (λ r among. no_synonym r (subst (λ l. Contains l r) (sym synonyms) among)) h.1

no_constructor_entry : (f : Interface) (x : List ℕ) (e : Entity) → ((r : ConstructorEntry) → Contains f.constructors r → ¬ (r.name ≡ x)) → ¬ (Exports f x e Constructors)
no_constructor_entry f x e rs (a_constructor {r} among named is) = rs r among named

pub constructor_not_exported : (f : Interface) (x : List ℕ) (rs : List ConstructorEntry) → rs ≡ f.constructors → ((r : ConstructorEntry) → Contains rs r → ¬ (r.name ≡ x)) → ¬ (IsExported f Constructors x)
constructor_not_exported f x rs same none h = no_constructor_entry f x h.0 (λ r among. none r (subst (λ l. Contains l r) (sym same) among)) h.1

no_value_entry : (f : Interface) (x : List ℕ) (e : Entity) → ((r : ValueEntry) → Contains f.values r → ¬ (r.name ≡ x)) → ¬ (Exports f x e Values)
no_value_entry f x e rs (a_value {r} among named is) = rs r among named

pub value_not_exported : (f : Interface) (x : List ℕ) (rs : List ValueEntry) → rs ≡ f.values → ((r : ValueEntry) → Contains rs r → ¬ (r.name ≡ x)) → ¬ (IsExported f Values x)
value_not_exported f x rs same none h = no_value_entry f x h.0 (λ r among. none r (subst (λ l. Contains l r) (sym same) among)) h.1

-- ---- a name that isn't in scope

pub missing_is : (m : Module) (fs : List Interface) (uses : List UseOf) (i : ℕ) (u : UseOf) (place : Place) (n : Identifier) (s : Namespace) (x : List ℕ) → i < length uses → u ≡ get_or uses i u
    → All (λ (v : UseOf). Contains (declarations_mentions (declarations m.decls)) v.mention) uses → n ≡ u.mention.name → space_of u.mention.kind ≡ Some s → n ≡ name_at place n.text → x ≡ n.text
    → IsUnbound m fs s n → IsMissing m fs place s x
missing_is m fs uses i u place n s x within is among name kind bare text unbound =
    let at : n ≡ name_at place x = bare ∙ ap (name_at place) (sym text) in
    record {
      mention = u.mention;
      written = subst (λ (v : UseOf). Contains (declarations_mentions (declarations m.decls)) v.mention) (sym is) (among i u within);
      kind_is = kind;
      name_is = sym name ∙ at;
      unbound = subst (IsUnbound m fs s) at unbound;
    }
