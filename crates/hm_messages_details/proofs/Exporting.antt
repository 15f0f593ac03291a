-- Near names among the exports of an imported module.
use Rattle.std.proofs.Common.{◌≡◌, ◌<◌, ℕ, List, None, Option, Some, get_or, length, subst, sym}
use Rattle.std.specs.Prelude.{Contains}
use Rattle.hm_types.specs.Interfaces.{Exports as Interface}
use Rattle.hm_types.specs.declared.entries.ConstructorEntry.{ConstructorEntry}
use Rattle.hm_types.specs.declared.entries.SynonymEntry.{SynonymEntry}
use Rattle.hm_types.specs.declared.entries.TypeEntry.{TypeEntry}
use Rattle.hm_types.specs.declared.entries.ValueEntry.{ValueEntry}
use Rattle.hm_names.specs.declared.faults.Fault.{Fault}
use Rattle.hm_messages_details.specs.NearExports.{IsNearExport, IsNearIn, a_constructor, a_synonym, a_type, a_value}
use Rattle.hm_messages_details.specs.Nearness.{AreNear}

pub near_type_is : (i : Interface) (text y : List ℕ) (rs : List TypeEntry) → rs ≡ i.types → ((r : TypeEntry) × Contains rs r × (r.name ≡ y) × AreNear text y) → IsNearIn i text None y
near_type_is i text y rs same h = record { listable = a_type (subst (λ l. Contains l h.0) same h.1) h.2; near = h.3 }

pub near_synonym_is : (i : Interface) (text y : List ℕ) (rs : List SynonymEntry) → rs ≡ i.synonyms → ((r : SynonymEntry) × Contains rs r × (r.name ≡ y) × AreNear text y) → IsNearIn i text None y
near_synonym_is i text y rs same h = record { listable = a_synonym (subst (λ l. Contains l h.0) same h.1) h.2; near = h.3 }

pub near_value_is : (i : Interface) (text y : List ℕ) (rs : List ValueEntry) → rs ≡ i.values → ((r : ValueEntry) × Contains rs r × (r.name ≡ y) × AreNear text y) → IsNearIn i text None y
near_value_is i text y rs same h = record { listable = a_value (subst (λ l. Contains l h.0) same h.1) h.2; near = h.3 }

pub near_part_is : (i : Interface) (text t y : List ℕ) (r : TypeEntry) (c : ConstructorEntry) → Contains i.types r → r.name ≡ t → Contains i.constructors c → c.owner ≡ r.entity → y ≡ c.name → AreNear text y → IsNearIn i text (Some t) y
near_part_is i text t y r c type typed constructor owner named near = record {
  listable = a_constructor (record { type = r; constructor = c; exports_type = type; exports_constructor = constructor; type_name = typed; constructor_name = sym named; owner = owner });
  near = near;
}

pub near_export_is : (fs : List Interface) (f : Fault) (x : List ℕ) (owner : Option (List ℕ)) (y text z : List ℕ) (i : Interface) → Contains fs i → z ≡ i.name → z ≡ x → text ≡ f.name → IsNearIn i text owner y → IsNearExport fs f x owner y
near_export_is fs f x owner y text z i among called named is near =
    record { interface = i; among = among; named = subst (λ (n : List ℕ). n ≡ x) called named; near_in = subst (λ (t : List ℕ). IsNearIn i t owner y) is near }

pub among_at : {X : Type 0} (xs ys : List X) (i : ℕ) (x : X) → i < length xs → x ≡ get_or xs i x → xs ≡ ys → Contains ys x
among_at xs ys i x within is same = subst (λ l. Contains l x) same (i, within, sym is)
