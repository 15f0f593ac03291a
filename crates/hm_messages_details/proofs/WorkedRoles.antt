-- The worked roles of names, and names that may be meant for others.
use Rattle.std.proofs.Common.{◌≡◌, ℕ, ap, arith, inl, inr, refl, ⊎_elim}
use Rattle.std.specs.Prelude.{codes}
use Rattle.hm_lex.specs.declared.token.Place.{Place}
use Rattle.hm_syntax.specs.Trees.{variable_expression}
use Rattle.hm_syntax.specs.declared.ast.Export.TheVariants as export
use Rattle.hm_syntax.specs.declared.ast.SubItems.TheVariants as subs
use Rattle.hm_names.specs.Faults.Phases.{fault}
use Rattle.hm_names.specs.Walk.{at_expression}
use Rattle.hm_names.specs.declared.faults.Kind.TheVariants.{Unbound}
use Rattle.hm_names.specs.declared.namespace.Namespace.{Namespace}
use Rattle.hm_names.specs.declared.namespace.Namespace.TheVariants.{Constructors, Types, Values}
use Rattle.hm_messages_details.specs.Roles.{IsRoleAt, IsRoleIn, a_variable, an_exported_type}
use Rattle.hm_messages_details.specs.Worked.{NearPairRow, RoleRow, name_on, x_unbound}
use Rattle.hm_messages_details.specs.declared.role.Role.TheVariants.{Constructor, TypeVariable, Variable}

not_here : ¬ (IsRoleAt x_unbound Variable (at_expression (variable_expression (name_on (codes "x") 2))))
not_here (a_variable at) = let lines : 1 ≡ 2 = ap (λ (p : Place). p.line) at.place_is in omega (arith, lines)

not_variable : ¬ (IsRoleAt x_unbound TypeVariable (at_expression (variable_expression (name_on (codes "x") 1))))
not_variable h = elim h [ ]

not_constructor : ¬ (IsRoleIn (fault Unbound (name_on (codes "T") 1)) Constructor (export.Con (name_on (codes "T") 1) subs.None))
not_constructor h = elim h [ ]

pub worked_roles : RoleRow
worked_roles = record {
  used = a_variable (record { place_is = refl; name_is = refl });
  no_type_variable = not_variable;
  other_line = not_here;
  exported = an_exported_type (record { place_is = refl; name_is = refl });
  no_constructor = not_constructor;
}

space_number : Namespace → ℕ
space_number Types = 1
space_number Constructors = 2
space_number Values = 3

pub worked_near_pairs : NearPairRow
unfolding space_number
worked_near_pairs = record {
  a_type = λ e. record {
    text = codes "int";
    written = refl;
    near = inr (refl, record { capital = 73; rest = codes "nt"; lowest = omega arith; highest = omega arith; small_is = refl; capital_is = refl });
  };
  no_value = λ e h. ⊎_elim (λ s. s.0) (λ s. let numbers : 3 ≡ 1 = ap space_number s.0 in omega (arith, numbers)) h.near;
  a_value = λ e near. record { text = codes "int"; written = refl; near = inl (refl, near) };
  no_type = λ e h. ⊎_elim (λ s. let numbers : 1 ≡ 3 = ap space_number s.0 in omega (arith, numbers)) (λ s. let numbers : 1 ≡ 2 = ap space_number s.0 in omega (arith, numbers)) h.near;
}
