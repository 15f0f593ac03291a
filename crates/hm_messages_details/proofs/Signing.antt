-- Near names of signatures.
use Rattle.std.proofs.Common.{◌≡◌, ℕ, List, None, subst}
use Rattle.std.specs.Prelude.{Contains}
use Rattle.hm_syntax.specs.Names.{Identifier}
use Rattle.hm_syntax.specs.Trees.{Declarations}
use Rattle.hm_names.specs.Faults.Lists.{binding_names, signed_names}
use Rattle.hm_names.specs.declared.faults.Fault.{Fault}
use Rattle.hm_messages_details.specs.Firsts.{IsAt}
use Rattle.hm_messages_details.specs.NearBindings.{IsNearBinding}
use Rattle.hm_messages_details.specs.Nearness.{AreNear}

-- the lists of names of a declaration list, by equations
pub near_bound : (ds : Declarations) (f : Fault) (signed bound : List Identifier) (name x : List ℕ) → signed ≡ signed_names ds → bound ≡ binding_names None ds → name ≡ f.name
    → (n : Identifier) × Contains signed n × IsAt f n → (n : Identifier) × Contains bound n × (n.text ≡ x) × AreNear name x → IsNearBinding ds f x
near_bound ds f signed bound name x signed_is bound_is name_is at found = record {
  signed = at.0;
  among = subst (λ l. Contains l at.0) signed_is at.1;
  at_signed = at.2;
  bound = found.0;
  binds = subst (λ l. Contains l found.0) bound_is found.1;
  text_is = found.2;
  near = subst (λ y. AreNear y x) name_is found.3;
}
