-- Worked examples of uses, as trees: for each rule one meaning that a name has, and one that it hasn't.
use Rattle.std.specs.Prelude.{ℕ, List, [], ◌∷◌, None, codes, true, false}
use Rattle.hm_types.specs.StandardPrelude.{prelude_interface}
use Rattle.hm_syntax.specs.Names.{integer}
use Rattle.hm_syntax.specs.Trees.{variable_type, function_type, variable_pattern, literal_pattern, no_patterns, more_patterns, Expression, variable_expression, literal_expression, lambda, let_expression, case_expression, alternative, no_alternatives, more_alternatives, clause, right_side, guarded_body, no_bodies, no_declarations, more_declarations, synonym_declaration, pattern_binding}
use Rattle.hm_syntax.specs.declared.ast.Module.{Module}
use Rattle.hm_syntax.specs.declared.ast.ImportItem.TheVariants as item
use Rattle.hm_syntax.specs.declared.ast.ImportList.TheVariants as list
use Rattle.hm_names.specs.Entities.{named}
use Rattle.hm_names.specs.Worked.{at, is, one, a_module, module_of, imports, pair_of, with_x, prelude_alone, two_x, x}
use Rattle.hm_uses.specs.declared.name_kind.NameKind.TheVariants.{Variable, TypeVariable}
use Rattle.hm_uses.specs.Uses.{Sense, InDeclarations, InHeader, local_variable, type_variable, an_entity, ambiguous}

abbrev pub f : List ℕ
f = codes "f"

abbrev pub g : List ℕ
g = codes "g"

abbrev pub var : ℕ → List ℕ → Expression
var c y = variable_expression (at c y)

-- the variable x at this column of an expression means this
abbrev pub Means : Module → ℕ → List ℕ → Sense → Type 0
Means m c y t = InDeclarations m prelude_alone (at c y) Variable false t

-- module A where { f x = \x -> x }: the last x is the lambda's, and not the clause's
abbrev pub shadowing : Module
shadowing = a_module (clause (at 18 f) (more_patterns (variable_pattern (at 20 x)) no_patterns) (is (lambda (more_patterns (variable_pattern (at 25 x)) no_patterns) (var 30 x))) ∷ [])

abbrev pub InnerRow : Type 0
InnerRow = Means shadowing 30 x (local_variable 1 25)

abbrev pub OuterRow : Type 0
OuterRow = ¬ (Means shadowing 30 x (local_variable 1 20))

-- module A where { f x | x = 1 where { x = f } }: a where scopes over its guards
abbrev pub over_guards : Module
over_guards = a_module (clause (at 18 f) (more_patterns (variable_pattern (at 20 x)) no_patterns)
    (right_side (guarded_body (var 24 x) (literal_expression (integer (codes "1"))) no_bodies) (more_declarations (clause (at 38 x) no_patterns (is (var 42 f))) no_declarations)) ∷ [])

abbrev pub GuardRow : Type 0
GuardRow = Means over_guards 24 x (local_variable 1 38)

abbrev pub NotGuardRow : Type 0
NotGuardRow = ¬ (Means over_guards 24 x (local_variable 1 20))

-- module A where { f x = case x of { x -> x } }: an alternative's variable isn't bound in what is matched
abbrev pub matched : Module
matched = a_module (clause (at 18 f) (more_patterns (variable_pattern (at 20 x)) no_patterns) (is (case_expression (var 29 x) (more_alternatives (alternative (variable_pattern (at 36 x)) (is (var 41 x))) no_alternatives))) ∷ [])

abbrev pub ScrutineeRow : Type 0
ScrutineeRow = Means matched 29 x (local_variable 1 20)

abbrev pub NotScrutineeRow : Type 0
NotScrutineeRow = ¬ (Means matched 29 x (local_variable 1 36))

-- module A where { f = let { g 1 = 1 ; g x = x } in g }: a local function is bound at its first clause
abbrev pub clauses : Module
clauses = a_module (clause (at 18 f) no_patterns (is (let_expression
    (more_declarations (clause (at 28 g) (more_patterns (literal_pattern (integer (codes "1"))) no_patterns) one) (more_declarations (clause (at 38 g) (more_patterns (variable_pattern (at 40 x)) no_patterns) (is (var 44 x))) no_declarations)) (var 51 g))) ∷ [])

abbrev pub FirstClauseRow : Type 0
FirstClauseRow = Means clauses 51 g (local_variable 1 28)

abbrev pub LastClauseRow : Type 0
LastClauseRow = ¬ (Means clauses 51 g (local_variable 1 38))

-- module A where { (x, y) = x }: the variable of a pattern binding at the top is an entity
abbrev pub pattern_at_top : Module
pattern_at_top = a_module (pattern_binding 1 18 (pair_of (at 19 x) (at 22 (codes "y"))) (is (var 27 x)) ∷ [])

abbrev pub MatchedRow : Type 0
MatchedRow = InDeclarations pattern_at_top prelude_alone (at 19 x) Variable true (an_entity (named (codes "A") x))

abbrev pub NotMatchedRow : Type 0
NotMatchedRow = ¬ (InDeclarations pattern_at_top prelude_alone (at 19 x) Variable true (local_variable 1 19))

-- module A where { type T a = a -> b }: the parameter, and a variable that is none
abbrev pub synonym_of_two : Module
synonym_of_two = a_module (synonym_declaration (at 23 (codes "T")) (at 25 (codes "a") ∷ []) (function_type (variable_type (at 29 (codes "a"))) (variable_type (at 34 (codes "b")))) ∷ [])

abbrev pub ParameterRow : Type 0
ParameterRow = InDeclarations synonym_of_two prelude_alone (at 29 (codes "a")) TypeVariable false (type_variable 1 25)

abbrev pub NoParameterRow : Type 0
NoParameterRow = ¬ (InDeclarations synonym_of_two prelude_alone (at 34 (codes "b")) TypeVariable false (type_variable 1 34))

-- module A where { import B (x) ; x = 1 }: what a list names is B's, and not this module's
abbrev pub lists_x : Module
lists_x = module_of (codes "A") None (imports false (codes "B") (list.Only (item.Var (at 29 x) ∷ [])) ∷ []) (clause (at 34 x) no_patterns one ∷ [])

abbrev pub ItemRow : Type 0
ItemRow = InHeader lists_x (prelude_interface ∷ with_x (codes "B") ∷ []) (at 29 x) Variable false (an_entity (named (codes "B") x))

-- module A where { import B hiding (x) ; y = x }: hiding names B's x, and the other is unbound
abbrev pub HidingRow : Type 0
HidingRow = InHeader Rattle.hm_names.specs.Worked.hides_x (prelude_interface ∷ with_x (codes "B") ∷ []) (at 35 x) Variable false (an_entity (named (codes "B") x))

-- and not this module's own x
abbrev pub NotOwnRow : Type 0
NotOwnRow = ¬ (InHeader lists_x (prelude_interface ∷ with_x (codes "B") ∷ []) (at 29 x) Variable false (an_entity (named (codes "A") x)))

-- module F where { import A ; import D ; y = x }, where A and D export an x each: x is ambiguous
abbrev pub AmbiguousRow : Type 0
AmbiguousRow = InDeclarations two_x (prelude_interface ∷ with_x (codes "A") ∷ with_x (codes "D") ∷ []) (at 44 x) Variable false ambiguous

-- and it doesn't mean the first of the two
abbrev pub NotFirstRow : Type 0
NotFirstRow = ¬ (InDeclarations two_x (prelude_interface ∷ with_x (codes "A") ∷ with_x (codes "D") ∷ []) (at 44 x) Variable false (an_entity (named (codes "A") x)))
