-- The worked examples.
use Rattle.std.proofs.Common.{[], ◌∷◌, refl, arith}
use Rattle.std.specs.Prelude.{codes}
use Rattle.hm_names.specs.Worked.{at, x, with_x}
use Rattle.hm_names.specs.Entities.{a_value, a_matched_variable}
use Rattle.hm_names.proofs.Members.{first}
use Rattle.hm_uses.specs.Scopes.{top, first_declaration, clause_side, guarded, guard, plain, lambda_body, let_body, scrutinee, synonym_type, domain, first_pattern, tuple_components, matched_pattern}
use Rattle.hm_uses.specs.Uses.{variable, innermost, here, in_type, parameter, bound_variable, own_variable, listed_variable, listed, hidden, exported}
use Rattle.hm_uses.specs.Worked
use Rattle.hm_uses.specs.Worked.{f, g}

pub inner : Worked.InnerRow
inner = variable (lambda_body (plain (guarded (clause_side (first_declaration top))))) (innermost refl (here refl))

pub guards : Worked.GuardRow
guards = variable (guard (guarded (clause_side (first_declaration top)))) (innermost refl (here refl))

pub scrutinised : Worked.ScrutineeRow
scrutinised = variable (scrutinee (plain (guarded (clause_side (first_declaration top))))) (innermost refl (here refl))

pub first_clause : Worked.FirstClauseRow
first_clause = variable (let_body (plain (guarded (clause_side (first_declaration top))))) (innermost refl (here refl))

pub of_parameter : Worked.ParameterRow
of_parameter = in_type (domain (synonym_type (first_declaration top))) (parameter (here refl))

pub item_named : Worked.ItemRow
item_named = listed_variable (first _ []) (listed refl (first _ [])) (exported {f = with_x (codes "B")} (1, omega arith, refl) refl (a_value (0, omega arith, refl) refl refl))

pub hidden_named : Worked.HidingRow
hidden_named = listed_variable (first _ []) (hidden refl (first _ [])) (exported {f = with_x (codes "B")} (1, omega arith, refl) refl (a_value (0, omega arith, refl) refl refl))

pub matched_entity : Worked.MatchedRow
matched_entity = bound_variable (first_pattern (tuple_components (matched_pattern (first_declaration top)))) (own_variable (record { declaration = _; stands = first _ []; declares = a_matched_variable (first (at 19 x) (at 22 (codes "y") ∷ [])) refl }))
