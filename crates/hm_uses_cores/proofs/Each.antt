-- Each use of a variable or a constructor is in the core, with its meaning.
use Rattle.std.proofs.Common.{◌≡◌, Bool, true, false, List, [], inl, refl, sym, ap, subst}
use Rattle.std.proofs.lemmas.List.Elements.{Contains-append_left as left}
use Rattle.hm_types.specs.Interfaces.{Exports as Interface}
use Rattle.hm_syntax.specs.Names.{Identifier}
use Rattle.hm_syntax.specs.Trees.{Patterns, constructor_expression, constructor_pattern, variable_expression}
use Rattle.hm_syntax.specs.declared.ast.Module.{Module}
use Rattle.hm_names.specs.Cores.{IsCore}
use Rattle.hm_names.specs.declared.namespace.Namespace.TheVariants.{Constructors, Values}
use Rattle.hm_names.specs.declared.faults.Kind.TheVariants.{Ambiguous, Unbound}
use Rattle.hm_names.specs.Expansion.{as_entity}
use Rattle.hm_names.specs.Faults.Names.{NameFault, a_constructor, a_pattern, a_variable}
use Rattle.hm_names.specs.Faults.Names as faults
use Rattle.hm_names.specs.Faults.Phases.{Naming}
use Rattle.hm_names.specs.ModuleCores.{ModuleCore}
use Rattle.hm_names.specs.Resolved.{Resolver, bare}
use Rattle.hm_names.specs.Scope.{IsAmbiguous, IsUnbound}
use Rattle.hm_names.specs.Special.{IsSpecial}
use Rattle.hm_names.specs.Variables.{pattern_variables, texts}
use Rattle.hm_names.proofs.DeclaredPairs.{map_contains}
use Rattle.hm_names.proofs.Members.{first}
use Rattle.hm_uses.specs.declared.name_kind.NameKind.{NameKind}
use Rattle.hm_uses.specs.Scopes.{Around, Home, In, a_pattern as pattern_part, an_expression, at_top, local_to}
use Rattle.hm_uses.specs.Uses.{ByScope, InDeclarations, OfBinder, OfVariable, Sense, an_entity, global, innermost, local, local_variable, no_entity, no_local, no_variable, one, own_variable, several}
use Rattle.hm_uses.specs.Uses as uses
use Rattle.hm_uses_faults.proofs.Up.{up}
use Rattle.hm_uses_cores.specs.CoreNames.{InCore, MeansThere, a_local, core_module, is_value_of, locals_of}
use Rattle.hm_uses_cores.specs.CoreNames as cores
use Rattle.hm_uses_cores.specs.Laws.{CoresHaveUses, HasThere}
use Rattle.hm_uses_cores.proofs.Binders.{among, bares, first_bare}
use Rattle.hm_uses_cores.proofs.Places.{declaration_belongs, in_place, pattern_belongs}
use Rattle.hm_uses_cores.proofs.Senses.{BelongsTo, binders_at, home_in, no_fault}

-- v is a name at the place of n, with this meaning
pub record Named (ds : Around) (n v : Identifier) (t : Sense) : Type 0 where
  pub line : v.line ≡ n.line
  pub column : v.column ≡ n.column
  pub means : MeansThere ds v t

module _ (m : Module) (fs : List Interface) (c : ModuleCore) (k : IsCore m fs c) where
  abbrev r : Resolver
  r = k.resolver

  entity_named : (ds : Around) (n v : Identifier) (e : _) → v ≡ as_entity n e → Named ds n v (an_entity e)
  entity_named ds n v e is = record {
    line = ap (λ (z : Identifier). z.line) is;
    column = ap (λ (z : Identifier). z.column) is;
    means = subst (λ z. MeansThere ds z (an_entity e)) (sym is) (cores.an_entity refl);
  }

  variable_named : (xs : Around) (n : Identifier) (t : Sense) → In m xs (an_expression (variable_expression n)) → OfVariable m fs xs n t → Named (bares xs) n (r.name Values (texts xs) n) t
  variable_named xs n t i (innermost {b} q f) =
      let is : r.name Values (texts xs) n ≡ n = k.resolves.local (texts xs) n (q, among n.text b f) in
      record {
        line = ap (λ (z : Identifier). z.line) is;
        column = ap (λ (z : Identifier). z.column) is;
        means = subst (λ z. MeansThere (bares xs) z (local_variable b.line b.column)) (sym is) (a_local {b = bare b} q (first_bare n.text b f));
      }
  variable_named xs n t i (global l (no_entity h)) = absurd (no_fault m fs k.well_formed Naming Unbound n (up m (λ ys z. NameFault m fs ys z Unbound n) i (faults.unbound (a_variable l) h)))
  variable_named xs n t i (global l (several h)) = absurd (no_fault m fs k.well_formed Naming Ambiguous n (up m (λ ys z. NameFault m fs ys z Ambiguous n) i (faults.ambiguous (a_variable l) h)))
  variable_named xs n t i (global l (one {e} w)) = entity_named (bares xs) n (r.name Values (texts xs) n) e (k.resolves.value (texts xs) n e l w)

  -- a constructor, if it isn't unbound or ambiguous
  constructor_named : (n : Identifier) (t : Sense) → ¬ (IsSpecial n) → ¬ (IsUnbound m fs Constructors n) → ¬ (IsAmbiguous m fs Constructors n) → ByScope m fs Constructors n t → Named [] n (r.name Constructors [] n) t
  constructor_named n t s u w (no_entity h) = absurd (u h)
  constructor_named n t s u w (several h) = absurd (w h)
  constructor_named n t s u w (one {e} z) = entity_named [] n (r.name Constructors [] n) e (k.resolves.constructor [] n e s z)

  used_constructor : (xs : Around) (n : Identifier) (t : Sense) → In m xs (an_expression (constructor_expression n)) → ¬ (IsSpecial n) → ByScope m fs Constructors n t → Named [] n (r.name Constructors [] n) t
  used_constructor xs n t i s o = constructor_named n t s
      (λ h. no_fault m fs k.well_formed Naming Unbound n (up m (λ ys z. NameFault m fs ys z Unbound n) i (faults.unbound (a_constructor s) h)))
      (λ h. no_fault m fs k.well_formed Naming Ambiguous n (up m (λ ys z. NameFault m fs ys z Ambiguous n) i (faults.ambiguous (a_constructor s) h))) o

  matched_constructor : (xs : Around) (w : Home) (n : Identifier) (ps : Patterns) (t : Sense) → In m xs (pattern_part w (constructor_pattern n ps)) → ¬ (IsSpecial n) → ByScope m fs Constructors n t → Named [] n (r.name Constructors [] n) t
  matched_constructor xs w n ps t i s o = constructor_named n t s
      (λ h. no_fault m fs k.well_formed Naming Unbound n (up m (λ ys z. NameFault m fs ys z Unbound n) i (inl (faults.unbound (a_pattern s) h))))
      (λ h. no_fault m fs k.well_formed Naming Ambiguous n (up m (λ ys z. NameFault m fs ys z Ambiguous n) i (inl (faults.ambiguous (a_pattern s) h)))) o

  binder_named : (w : Home) (n : Identifier) (t : Sense) → BelongsTo m w n.text → OfBinder m n.text w t → Named (locals_of (home_in w)) n (binders_at m w n) t
  binder_named at_top n t b (own_variable d) = record { line = refl; column = refl; means = cores.an_entity refl }
  binder_named at_top n t b (no_variable h) = absurd (h b)
  binder_named (local_to bs) n t b (local {b = y} f) = record { line = refl; column = refl; means = a_local {b = bare y} refl (first_bare n.text y f) }
  binder_named (local_to bs) n t b (no_local h) = absurd (h b)

  there : (ds : Around) (n v : Identifier) (s : NameKind) (b : Bool) (t : Sense) → Named ds n v t → (MeansThere ds v t → InCore (core_module m c) v s b t) → HasThere m c n s b t
  there ds n v s b t h f = record { name = v; line = h.line; column = h.column; means = f h.means }

  each : (n : Identifier) (s : NameKind) (b : Bool) (t : Sense) → is_value_of s b ≡ true → InDeclarations m fs n s b t → HasThere m c n s b t
  each n s b t e (uses.variable {xs} i o) = there (bares xs) n (r.name Values (texts xs) n) s b t (variable_named xs n t i o) (λ w. cores.variable (in_place m c r c.exported_types k.trees i) w)
  each n s b t e (uses.constructor {xs} i z o) = there [] n (r.name Constructors [] n) s b t (used_constructor xs n t i z o) (λ w. cores.constructor (in_place m c r c.exported_types k.trees i) w)
  each n s b t e (uses.bound_variable {xs} {h} i o) = there (locals_of (home_in h)) n (binders_at m h n) s b t (binder_named h n t (pattern_belongs m fs c k.well_formed r k.resolves c.exported_types i n (first n [])) o) (λ w. cores.bound_variable (in_place m c r c.exported_types k.trees i) w)
  each n s b t e (uses.as_variable {xs} {h} {p = q} i o) = there (locals_of (home_in h)) n (binders_at m h n) s b t (binder_named h n t (pattern_belongs m fs c k.well_formed r k.resolves c.exported_types i n (first n (pattern_variables q))) o) (λ w. cores.as_variable (in_place m c r c.exported_types k.trees i) w)
  each n s b t e (uses.matched_constructor {xs} {h} {ps} i z o) = there [] n (r.name Constructors [] n) s b t (matched_constructor xs h n ps t i z o) (λ w. cores.matched_constructor (in_place m c r c.exported_types k.trees i) w)
  each n s b t e (uses.signed {xs} {h} {ns} {ty} i d o) = there (locals_of (home_in h)) n (binders_at m h n) s b t (binder_named h n t ((declaration_belongs m fs c k.well_formed r k.resolves c.exported_types i).signed n (left ns [] n d)) o)
      (λ w. cores.signed (in_place m c r c.exported_types k.trees i) (map_contains (binders_at m h) ns n d) w)
  each n s b t e (uses.defined {xs} {h} i o) = there (locals_of (home_in h)) n (binders_at m h n) s b t (binder_named h n t ((declaration_belongs m fs c k.well_formed r k.resolves c.exported_types i).bound n (first n [])) o) (λ w. cores.defined (in_place m c r c.exported_types k.trees i) w)
  each n s b t e (uses.in_type i o) = let z : false ≡ true = e in cc
  each n s b t e (uses.type_constructor i o) = let z : false ≡ true = e in cc
  each n s b t e (uses.data_type i) = let z : false ≡ true = e in cc
  each n s b t e (uses.newtype i) = let z : false ≡ true = e in cc
  each n s b t e (uses.synonym i) = let z : false ≡ true = e in cc
  each n s b t e (uses.data_parameter i d o) = let z : false ≡ true = e in cc
  each n s b t e (uses.newtype_parameter i d o) = let z : false ≡ true = e in cc
  each n s b t e (uses.synonym_parameter i d o) = let z : false ≡ true = e in cc
  each n s b t e (uses.declared_constructor i) = let z : false ≡ true = e in cc

pub cores_have_uses : CoresHaveUses
cores_have_uses m fs c k n s b t e d = each m fs c k n s b t e d
