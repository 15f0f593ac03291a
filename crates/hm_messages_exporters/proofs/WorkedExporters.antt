-- The worked exports.
use Rattle.std.proofs.Common.{◌≡◌, ℕ, List, [], Contains, arith, refl, subst}
use Rattle.hm_types.specs.declared.Entity.{Entity}
use Rattle.hm_types.specs.Interfaces.{Exports as Interface}
use Rattle.hm_names.specs.Entities.{Exports, a_constructor, a_type, a_value}
use Rattle.hm_names.specs.declared.namespace.Namespace.TheVariants.{Constructors}
use Rattle.hm_names.proofs.Members.{none_in}
use Rattle.hm_messages_exporters.specs.Exported.{IsItem, a_variable, everything}
use Rattle.hm_messages_exporters.specs.Worked.{ExportersRow, area, interface_A, shape}

-- an interface without constructors exports none
none_exported : (f : Interface) (x : List ℕ) (e : Entity) → f.constructors ≡ [] → ¬ (Exports f x e Constructors)
none_exported f x e none (a_constructor {r} among named is) = none_in r (subst (λ l. Contains l r) none among)

pub worked_exporters : ExportersRow
worked_exporters = record {
  exported = (area.entity, a_value {r = area} (0, omega arith, refl) refl refl);
  a_type = (shape.entity, a_type {r = shape} (0, omega arith, refl) refl refl);
  hidden = λ h. none_exported interface_A _ h.0 refl h.1;
  declares = record { symbol = _; among = (2, omega arith, refl); space_is = refl; named = refl; place_is = refl };
  listed = a_variable;
  everything = everything;
  text = refl;
  put = refl;
}
