-- Faults of export lists are uses that say so, and a resolver puts the entity of its use in place of a variable.
use Rattle.std.proofs.Common.{◌≡◌, ◌⊎◌, ℕ, List, Some, false, inl, inr, subst}
use Rattle.hm_types.specs.declared.Entity.{Entity}
use Rattle.hm_types.specs.Interfaces.{Exports as Interface}
use Rattle.hm_syntax.specs.Names.{Identifier}
use Rattle.hm_syntax.specs.declared.ast.Module.{Module}
use Rattle.hm_syntax.specs.declared.ast.Export.{Export}
use Rattle.hm_names.specs.declared.faults.Kind.TheVariants.{Unbound, Ambiguous, NotImported}
use Rattle.hm_names.specs.Faults.Exports as exporting
use Rattle.hm_names.specs.Faults.Exports.{ExportFault}
use Rattle.hm_names.specs.Variables.{texts}
use Rattle.hm_uses.specs.declared.name_kind.NameKind.TheVariants.{Variable, Constructor, TypeConstructor, ModuleName}
use Rattle.hm_uses.specs.Laws
use Rattle.hm_uses.specs.Scopes.{Around}
use Rattle.hm_names.specs.declared.namespace.Namespace.TheVariants.{Types, Constructors, Values}
use Rattle.hm_names.specs.Expansion.{as_entity}
use Rattle.hm_names.specs.Resolved.{Resolver, IsResolver}
use Rattle.hm_names.specs.Special.{IsSpecial}
use Rattle.hm_uses.specs.Uses.{OfVariable, ByScope, an_entity, local_variable, InHeader, ambiguous, unbound, no_entity, several, one, innermost, global, exported_variable, exported_type, exported_constructor, no_constructor, no_prefix}
use Rattle.hm_uses.proofs.Senses.{among}

module _ (m : Module) (fs : List Interface) (n : Identifier) (es : List Export) (e : m.header.exports ≡ Some es) where
  ambiguous_use : ExportFault m fs es Ambiguous n → InHeader m fs n Variable false ambiguous ⊎ InHeader m fs n TypeConstructor false ambiguous
  ambiguous_use (exporting.ambiguous_value c h) = inl (exported_variable (es, (e, c)) (several h))
  ambiguous_use (exporting.ambiguous_type c h) = inr (exported_type (es, (e, c)) (several h))

  unbound_use : ExportFault m fs es Unbound n → InHeader m fs n Variable false unbound ⊎ (InHeader m fs n TypeConstructor false unbound ⊎ InHeader m fs n Constructor false unbound)
  unbound_use (exporting.unbound_value c h) = inl (exported_variable (es, (e, c)) (no_entity h))
  unbound_use (exporting.unbound_type c h) = inr (inl (exported_type (es, (e, c)) (no_entity h)))
  unbound_use (exporting.unbound_constructor {n = y} {t = t} c w k h) = inr (inr (exported_constructor (es, (e, c)) k (no_constructor (λ s d v g. h d (subst (λ z. Rattle.hm_names.specs.Exports.HasConstructor m fs z n.text d) (w.alone s v.in_scope) g)))))

  not_imported_use : ExportFault m fs es NotImported n → InHeader m fs n ModuleName false unbound
  not_imported_use (exporting.not_imported c h) = no_prefix (es, (e, c)) h

back : (m : Module) (fs : List Interface) (n : Identifier) → InHeader m fs n ModuleName false unbound → (es : List Export) × ((m.header.exports ≡ Some es) × ExportFault m fs es NotImported n)
back m fs n (no_prefix i h) = (i.0, (i.1.0, exporting.not_imported i.1.1 h))

pub export_faults : Laws.ExportFaultsAreUses
export_faults m fs n = (λ f. ambiguous_use m fs n f.0 f.1.0 f.1.1, (λ f. unbound_use m fs n f.0 f.1.0 f.1.1, (λ f. not_imported_use m fs n f.0 f.1.0 f.1.1, λ h. back m fs n h)))

module _ (m : Module) (fs : List Interface) (r : Resolver) (a : IsResolver m fs r) (xs : Around) (n : Identifier) where
  of_variable : (e : Entity) → OfVariable m fs xs n (an_entity e) → r.name Values (texts xs) n ≡ as_entity n e
  of_variable e (global h (one w)) = a.value (texts xs) n e h w

  of_local : (line column : ℕ) → OfVariable m fs xs n (local_variable line column) → r.name Values (texts xs) n ≡ n
  of_local line column (innermost {b} q f) = a.local (texts xs) n (q, among n.text b f)
  of_local line column (global _ x4) = elim x4 [ ]

  of_constructor : (e : Entity) → ¬ (IsSpecial n) → ByScope m fs Constructors n (an_entity e) → r.name Constructors (texts xs) n ≡ as_entity n e
  of_constructor e h (one w) = a.constructor (texts xs) n e h w

  of_type : (e : Entity) → ByScope m fs Types n (an_entity e) → r.name Types (texts xs) n ≡ as_entity n e
  of_type e (one w) = a.type (texts xs) n e w

pub resolvers_agree : Laws.ResolversAgree
resolvers_agree m fs r a xs n = record { variable = of_variable m fs r a xs n; local = of_local m fs r a xs n; constructor = of_constructor m fs r a xs n; type = of_type m fs r a xs n }
