-- A use that says that its name is unbound or ambiguous is such a fault.
use Rattle.std.proofs.Common.{List, [], false, inl}
use Rattle.hm_types.specs.Interfaces.{Exports as Interface}
use Rattle.hm_syntax.specs.Names.{Identifier}
use Rattle.hm_syntax.specs.declared.ast.Module.{Module}
use Rattle.hm_names.proofs.Members.{first}
use Rattle.hm_names.specs.Faults.Names.{NameFault}
use Rattle.hm_names.specs.Faults.Names as faults
use Rattle.hm_names.specs.Faults.Phases.{FaultAt, Naming}
use Rattle.hm_names.specs.declared.faults.Kind.TheVariants.{Unbound, Ambiguous}
use Rattle.hm_uses.specs.declared.name_kind.NameKind.{NameKind}
use Rattle.hm_uses.specs.Uses.{InDeclarations, unbound, ambiguous, no_entity, several, global, no_parameter}
use Rattle.hm_uses.specs.Uses as uses
use Rattle.hm_uses_faults.specs.Laws.{IsSigned, in_signature, UsesAreNameFaults}
use Rattle.hm_uses_faults.proofs.Up.{type_up, up}

module _ (m : Module) (fs : List Interface) (n : Identifier) (not_signed : ¬ (IsSigned m n)) where
  of_unbound : {k : NameKind} → InDeclarations m fs n k false unbound → FaultAt m fs Naming Unbound n
  of_unbound (uses.variable i (global l (no_entity h))) = up m (λ ys t. NameFault m fs ys t Unbound n) i (faults.unbound (faults.a_variable l) h)
  of_unbound (uses.constructor i s (no_entity h)) = up m (λ ys t. NameFault m fs ys t Unbound n) i (faults.unbound (faults.a_constructor s) h)
  of_unbound (uses.matched_constructor i s (no_entity h)) = up m (λ ys t. NameFault m fs ys t Unbound n) i (inl (faults.unbound (faults.a_pattern s) h))
  of_unbound (uses.in_type i (no_parameter h)) = type_up m fs n i (first n [], h)
  of_unbound (uses.type_constructor i (no_entity h)) = up m (λ ys t. NameFault m fs ys t Unbound n) i (inl (faults.unbound faults.a_type_constructor h))
  of_unbound (uses.signed i c o) = absurd (not_signed (in_signature i c))

  of_ambiguous : {k : NameKind} → InDeclarations m fs n k false ambiguous → FaultAt m fs Naming Ambiguous n
  of_ambiguous (uses.variable i (global l (several h))) = up m (λ ys t. NameFault m fs ys t Ambiguous n) i (faults.ambiguous (faults.a_variable l) h)
  of_ambiguous (uses.constructor i s (several h)) = up m (λ ys t. NameFault m fs ys t Ambiguous n) i (faults.ambiguous (faults.a_constructor s) h)
  of_ambiguous (uses.matched_constructor i s (several h)) = up m (λ ys t. NameFault m fs ys t Ambiguous n) i (inl (faults.ambiguous (faults.a_pattern s) h))
  of_ambiguous (uses.in_type i o) = elim o [ ]
  of_ambiguous (uses.type_constructor i (several h)) = up m (λ ys t. NameFault m fs ys t Ambiguous n) i (inl (faults.ambiguous faults.a_type_constructor h))
  of_ambiguous (uses.signed i c o) = absurd (not_signed (in_signature i c))

pub uses_are_faults : UsesAreNameFaults
uses_are_faults m fs n s = record { unbound_one = λ u. of_unbound m fs n s u.1; ambiguous_one = λ u. of_ambiguous m fs n s u.1 }
