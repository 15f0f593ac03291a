-- Entries of interfaces by name.
use Rattle.std.proofs.Common.{◌≡◌, ℕ, List, map, Contains, sym, ap, ◌∙◌}
use Rattle.hm_types.specs.declared.Entity.{Entity}
use Rattle.hm_types.specs.declared.entries.TypeEntry.{TypeEntry}
use Rattle.hm_types.specs.declared.entries.SynonymEntry.{SynonymEntry}
use Rattle.hm_types.specs.declared.entries.ConstructorEntry.{ConstructorEntry}
use Rattle.hm_types.specs.declared.entries.ValueEntry.{ValueEntry}
use Rattle.hm_types.specs.Interfaces.{Exports as Interface, AreOrdered}
use Rattle.hm_names.specs.declared.namespace.Namespace.TheVariants.{Types, Constructors, Values}
use Rattle.hm_names.specs.Entities.{Exports, a_type, a_synonym, a_constructor, a_value}
use Rattle.hm_scope_tables.proofs.SortedNames.{one_by_name}
use Rattle.hm_uses.specs.Uses.{Owns}

module _ (f : Interface) (x : List ℕ) where
  pub no_type : ((r : TypeEntry) → Contains f.types r → ¬ (r.name ≡ x)) → ((r : SynonymEntry) → Contains f.synonyms r → ¬ (r.name ≡ x)) → (e : Entity) → ¬ Exports f x e Types
  no_type n m e (a_type {r = r} c i k) = n r c i
  no_type n m e (a_synonym {r = r} c i k) = m r c i

  pub no_constructor : ((r : ConstructorEntry) → Contains f.constructors r → ¬ (r.name ≡ x)) → (e : Entity) → ¬ Exports f x e Constructors
  no_constructor n e (a_constructor {r = r} c i k) = n r c i

  pub no_value : ((r : ValueEntry) → Contains f.values r → ¬ (r.name ≡ x)) → (e : Entity) → ¬ Exports f x e Values
  no_value n e (a_value {r = r} c i k) = n r c i

module _ (f : Interface) (t x : List ℕ) where
  pub no_owner : ((r : TypeEntry) → Contains f.types r → ¬ (r.name ≡ t)) → (e : Entity) → ¬ Owns f t x e
  no_owner n e o = n o.type o.exports_type o.type_name

  pub no_owned : ((r : ConstructorEntry) → Contains f.constructors r → ¬ (r.name ≡ x)) → (e : Entity) → ¬ Owns f t x e
  no_owned n e o = n o.constructor o.exports_constructor o.constructor_name

  pub other_owner : (r : TypeEntry) (k : ConstructorEntry) → AreOrdered (map (λ (y : TypeEntry). y.name) f.types) → AreOrdered (map (λ (y : ConstructorEntry). y.name) f.constructors) → Contains f.types r → r.name ≡ t → Contains f.constructors k → k.name ≡ x
      → ¬ (k.owner ≡ r.entity) → (e : Entity) → ¬ Owns f t x e
  other_owner r k o p c n d m apart e owns =
      apart (ap (λ (y : ConstructorEntry). y.owner) (one_by_name (λ (y : ConstructorEntry). y.name) f.constructors k owns.constructor p d owns.exports_constructor (m ∙ sym owns.constructor_name))
      ∙ (owns.owner ∙ ap (λ (y : TypeEntry). y.entity) (one_by_name (λ (y : TypeEntry). y.name) f.types owns.type r o owns.exports_type c (owns.type_name ∙ sym n))))
