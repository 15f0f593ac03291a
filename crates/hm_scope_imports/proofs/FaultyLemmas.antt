-- Faults of the items of import lists.
use Rattle.std.proofs.Common.{◌≡◌, ℕ, Bool, true, false, List, refl, sym, ap, ◌∙◌, Contains, IsTrue, map}
use Rattle.std.specs.Prelude.{◌↔◌}
use Rattle.hm_types.specs.declared.Entity.{Entity}
use Rattle.hm_types.specs.declared.entries.TypeEntry.{TypeEntry}
use Rattle.hm_types.specs.declared.entries.SynonymEntry.{SynonymEntry}
use Rattle.hm_types.specs.declared.entries.ConstructorEntry.{ConstructorEntry}
use Rattle.hm_types.specs.declared.entries.ValueEntry.{ValueEntry}
use Rattle.hm_types.specs.Interfaces.{Exports as Interface, AreOrdered}
use Rattle.hm_syntax.specs.Names.{Identifier}
use Rattle.hm_syntax.specs.declared.ast.ImportItem.{ImportItem}
use Rattle.hm_syntax.specs.declared.ast.ImportItem.TheVariants as item
use Rattle.hm_syntax.specs.declared.ast.SubItems.{SubItems}
use Rattle.hm_syntax.specs.declared.ast.SubItems.TheVariants as subs
use Rattle.hm_names.specs.declared.namespace.Namespace.TheVariants.{Types, Values}
use Rattle.hm_names.specs.declared.faults.Fault.{Fault}
use Rattle.hm_names.specs.declared.faults.Kind.TheVariants.{NotExported}
use Rattle.hm_names.specs.Bindings.{Adds}
use Rattle.hm_names.specs.Entities.{Exports, a_type, a_synonym, a_value, Belongs}
use Rattle.hm_scope_imports.specs.FaultyItems as faulty
use Rattle.hm_scope_imports.specs.FaultyItems.{IsItemFault}
use Rattle.hm_names.specs.Faults.Phases.{fault}
use Rattle.hm_names.proofs.AddedPairs.{adds_like, adds_none}
use Rattle.hm_scope_tables.proofs.SortedNames.{one_by_name}

module _ (f : Interface) (x : List ℕ) where
  pub some_type : (r : TypeEntry) → Contains f.types r → r.name ≡ x → IsTrue true ↔ ((e : Entity) × Exports f x e Types)
  some_type r c n = (λ _. (r.entity, a_type c n refl), λ _. refl)

  pub some_synonym : (r : SynonymEntry) → Contains f.synonyms r → r.name ≡ x → IsTrue true ↔ ((e : Entity) × Exports f x e Types)
  some_synonym r c n = (λ _. (r.entity, a_synonym c n refl), λ _. refl)

  pub no_type : ((r : TypeEntry) → Contains f.types r → ¬ (r.name ≡ x)) → ((r : SynonymEntry) → Contains f.synonyms r → ¬ (r.name ≡ x)) → IsTrue false ↔ ((e : Entity) × Exports f x e Types)
  no_type n m = (λ t. let h : false ≡ true = t in cc, λ (e, h). absurd (none e h))
    where
      none : (e : Entity) → Exports f x e Types → ⊥
      none e (a_type {r = r} c i k) = n r c i
      none e (a_synonym {r = r} c i k) = m r c i

  pub some_value : (r : ValueEntry) → Contains f.values r → r.name ≡ x → IsTrue true ↔ ((e : Entity) × Exports f x e Values)
  some_value r c n = (λ _. (r.entity, a_value c n refl), λ _. refl)

  pub no_value : ((r : ValueEntry) → Contains f.values r → ¬ (r.name ≡ x)) → IsTrue false ↔ ((e : Entity) × Exports f x e Values)
  no_value n = (λ t. let h : false ≡ true = t in cc, λ (e, h). absurd (none e h))
    where
      none : (e : Entity) → Exports f x e Values → ⊥
      none e (a_value {r = r} c i k) = n r c i

module _ (f : Interface) (t x : List ℕ) where
  pub no_owner : ((r : TypeEntry) → Contains f.types r → ¬ (r.name ≡ t)) → IsTrue false ↔ Belongs f t x
  no_owner n = (λ h. let g : false ≡ true = h in cc, λ b. absurd (n b.type b.exports_type b.type_name))

  pub no_constructor : ((r : ConstructorEntry) → Contains f.constructors r → ¬ (r.name ≡ x)) → IsTrue false ↔ Belongs f t x
  no_constructor n = (λ h. let g : false ≡ true = h in cc, λ b. absurd (n b.constructor b.exports_constructor b.constructor_name))

  pub its_owner : (b : Bool) (r : TypeEntry) (k : ConstructorEntry) → AreOrdered (map (λ (y : TypeEntry). y.name) f.types) → AreOrdered (map (λ (y : ConstructorEntry). y.name) f.constructors)
      → Contains f.types r → r.name ≡ t → Contains f.constructors k → k.name ≡ x → IsTrue b ↔ (k.owner ≡ r.entity) → IsTrue b ↔ Belongs f t x
  its_owner b r k o p c n d m h = (
    (λ w. record { type = r; constructor = k; exports_type = c; exports_constructor = d; type_name = n; constructor_name = m; owner = h.0 w }),
    (λ g. h.1 (ap (λ (y : ConstructorEntry). y.owner) (one_by_name (λ (y : ConstructorEntry). y.name) f.constructors k g.constructor p d g.exports_constructor (m ∙ sym g.constructor_name)) ∙ (g.owner ∙ ap (λ (y : TypeEntry). y.entity) (one_by_name (λ (y : TypeEntry). y.name) f.types g.type r o g.exports_type c (g.type_name ∙ sym n))))),
  )

-- the faults of an item
module _ (f : Interface) where
  abbrev pub ItemFault : ImportItem → Fault → Type 0
  ItemFault j g = (k : Identifier) × (IsItemFault f k j × (fault NotExported k ≡ g))

  pub no_faults : (old : List Fault) (j : ImportItem) → ((k : Identifier) → ¬ IsItemFault f k j) → Adds old old (ItemFault j)
  no_faults old j n = adds_none old (ItemFault j) (λ g (k, (h, e)). n k h)

  pub value_fine : (v : Identifier) → (e : Entity) × Exports f v.text e Values → (k : Identifier) → ¬ IsItemFault f k (item.Var v)
  value_fine v (e, h) k (faulty.a_value n) = n e h

  pub value_fault : (old new : List Fault) (v : Identifier) → ¬ ((e : Entity) × Exports f v.text e Values) → Adds old new (λ g. fault NotExported v ≡ g) → Adds old new (ItemFault (item.Var v))
  value_fault old new v n a = adds_like old new (λ g. fault NotExported v ≡ g) (ItemFault (item.Var v)) (λ g e. (v, (faulty.a_value (λ d h. n (d, h)), e))) (λ g (k, (h, e)). at k h e) a
    where
      at : {g : Fault} (k : Identifier) → IsItemFault f k (item.Var v) → fault NotExported k ≡ g → fault NotExported v ≡ g
      at k (faulty.a_value m) e = e

  pub type_fault : (old new : List Fault) (v : Identifier) (s : SubItems) → ¬ ((e : Entity) × Exports f v.text e Types) → Adds old new (λ g. fault NotExported v ≡ g) → Adds old new (ItemFault (item.Con v s))
  type_fault old new v s n a = adds_like old new (λ g. fault NotExported v ≡ g) (ItemFault (item.Con v s)) (λ g e. (v, (faulty.a_type (λ d h. n (d, h)), e))) (λ g (k, (h, e)). at s k h e) a
    where
      at : {g : Fault} (u : SubItems) (k : Identifier) → IsItemFault f k (item.Con v u) → fault NotExported k ≡ g → fault NotExported v ≡ g
      at u k (faulty.a_type m) e = e
      at u k (faulty.a_constructor {e = d} h c b) e = absurd (n (d, h))

  pub type_alone : (v : Identifier) → (e : Entity) × Exports f v.text e Types → (k : Identifier) → ¬ IsItemFault f k (item.Con v subs.None)
  type_alone v (e, h) k (faulty.a_type n) = n e h

  pub type_open : (v : Identifier) → (e : Entity) × Exports f v.text e Types → (k : Identifier) → ¬ IsItemFault f k (item.Con v subs.All)
  type_open v (e, h) k (faulty.a_type n) = n e h

  pub part_faults : (old new : List Fault) (v : Identifier) (cs : List Identifier) → (e : Entity) × Exports f v.text e Types
      → Adds old new (λ g. (c : Identifier) × (Contains cs c × ((¬ Belongs f v.text c.text) × (fault NotExported c ≡ g)))) → Adds old new (ItemFault (item.Con v (subs.Some cs)))
  part_faults old new v cs (d, exported) a = adds_like old new (λ g. (c : Identifier) × (Contains cs c × ((¬ Belongs f v.text c.text) × (fault NotExported c ≡ g)))) (ItemFault (item.Con v (subs.Some cs)))
      (λ g (c, (k, (n, e))). (c, (faulty.a_constructor exported k n, e))) (λ g (k, (h, e)). at k h e) a
    where
      at : {g : Fault} (k : Identifier) → IsItemFault f k (item.Con v (subs.Some cs)) → fault NotExported k ≡ g → (c : Identifier) × (Contains cs c × ((¬ Belongs f v.text c.text) × (fault NotExported c ≡ g)))
      at k (faulty.a_type n) e = absurd (n d exported)
      at k (faulty.a_constructor h c b) e = (k, (c, (b, e)))
