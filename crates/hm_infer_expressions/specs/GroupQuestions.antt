-- The constraints of a binding group's declarations, in a list that has a type variable for each node. No public clause names it.
use Rattle.std.specs.Prelude.{◌≡◌, ℕ, ◌+◌, ◌-◌, ◌<◌, ◌≤◌, List, length, slice_index_or, Some}
use Rattle.std.specs.List.{slice_get}
use Rattle.hm_types.specs.Types.{Var, put}
use Rattle.hm_types.specs.Monotypes.{var}
use Rattle.hm_typing.specs.Names.{Identifier, IsOneOf}
use Rattle.hm_typing.specs.Schemes.{Monotype}
use Rattle.hm_typing.specs.Assumptions.{Assumptions, assumptions_put}
use Rattle.hm_typing.specs.Patterns.{Matches}
use Rattle.hm_typing.specs.Syntax as typed
use Rattle.hm_typing.specs.SecondForm.{DeriveClauses}
use Rattle.hm_syntax.specs.Trees.{Declaration, data_declaration, newtype_declaration, synonym_declaration, signature, clause, pattern_binding}
use Rattle.hm_names.specs.Syntax.{Known, pattern_of, patterns_of, right_sides_of, where_of}
use Rattle.hm_infer_dependencies.specs.declared.members.Member.{Member}
use Rattle.hm_types.specs.Shape.{type_of}
use Rattle.hm_infer_context.specs.declared.variables.Variable.{Variable as KeptVariable}
use Rattle.hm_infer_context.specs.Problems.{number, monotype}
use Rattle.hm_infer_context.specs.Patterns.{put_each}

-- the type variable of a node
abbrev pub type_at : List ℕ → ℕ → Monotype
type_at types j = Var (number (var (slice_index_or types j 0)))

-- the type variables of all nodes were given
abbrev pub AreGivenTypes : ℕ → List ℕ → Type 0
AreGivenTypes given types = (j : ℕ) → j < length types → slice_index_or types j 0 < given

-- τ has the types of these names, whose nodes are before that of their binding
abbrev pub HaveTypesBefore : (Identifier → Monotype) → List Identifier → List ℕ → ℕ → Type 0
HaveTypesBefore τ xs types own = (i : ℕ) (x : Identifier) → slice_get xs i ≡ Some x → τ x ≡ type_at types (own - length xs + i)

-- a clause has the type v; a pattern and its right side have it too, if the variables have their types in τ
abbrev pub MemberHas : Known → Assumptions → (Identifier → Monotype) → Monotype → Declaration → Type 0
MemberHas k C τ v (data_declaration n ps cs) = Unit {0}
MemberHas k C τ v (newtype_declaration n ps c) = Unit {0}
MemberHas k C τ v (synonym_declaration n ps t) = Unit {0}
MemberHas k C τ v (signature ns t) = Unit {0}
MemberHas k C τ v (clause n ps r) = DeriveClauses C (typed.clause (patterns_of k ps) (right_sides_of k r) (where_of k r) typed.no_clause) v
MemberHas k C τ v (pattern_binding l c p r) = Matches τ (pattern_of k p) v × DeriveClauses C (typed.clause typed.no_pattern (right_sides_of k r) (where_of k r) typed.no_clause) v

-- the nodes of the variables of a pattern binding are before its own
abbrev pub StandBefore : Known → ℕ → Declaration → Type 0
StandBefore k own (data_declaration n ps cs) = Unit {0}
StandBefore k own (newtype_declaration n ps c) = Unit {0}
StandBefore k own (synonym_declaration n ps t) = Unit {0}
StandBefore k own (signature ns t) = Unit {0}
StandBefore k own (clause n ps r) = Unit {0}
StandBefore k own (pattern_binding l c p r) = length (typed.pattern_names (pattern_of k p)) ≤ own

abbrev pub HaveTypesOf : Known → (Identifier → Monotype) → List ℕ → ℕ → Declaration → Type 0
HaveTypesOf k τ types own (data_declaration n ps cs) = Unit {0}
HaveTypesOf k τ types own (newtype_declaration n ps c) = Unit {0}
HaveTypesOf k τ types own (synonym_declaration n ps t) = Unit {0}
HaveTypesOf k τ types own (signature ns t) = Unit {0}
HaveTypesOf k τ types own (clause n ps r) = Unit {0}
HaveTypesOf k τ types own (pattern_binding l c p r) = HaveTypesBefore τ (typed.pattern_names (pattern_of k p)) types own

-- each member of a group has the type variable of its node
abbrev pub MembersHave : Known → List Declaration → List ℕ → (Identifier → Monotype) → List Member → Assumptions → (ℕ → Monotype) → Type 0
MembersHave k decls types τ ms C r = (m : Member) → IsOneOf m ms → (d : Declaration) → slice_get decls m.place ≡ Some d → MemberHas k (assumptions_put r C) (put_each r τ) (put r (type_at types m.node)) d

-- the members of a group are declarations and nodes of the list
abbrev pub AreMembers : Known → List Declaration → ℕ → List Member → Type 0
AreMembers k decls count ms = (m : Member) → IsOneOf m ms → (m.place < length decls) × ((m.node < count) × ((d : Declaration) → slice_get decls m.place ≡ Some d → StandBefore k m.node d))

abbrev pub HaveTypesOfAll : Known → List Declaration → (Identifier → Monotype) → List ℕ → List Member → Type 0
HaveTypesOfAll k decls τ types ms = (m : Member) → IsOneOf m ms → (d : Declaration) → slice_get decls m.place ≡ Some d → HaveTypesOf k τ types m.node d

-- the variables of a pattern have the types of their nodes. These are before the node `own`, the first next to it
abbrev pub HaveNodeTypes : List ℕ → ℕ → List KeptVariable → (ℕ → Monotype) → Type 0
HaveNodeTypes types own vs r = (j : ℕ) (v : KeptVariable) → slice_get vs j ≡ Some v → put r (monotype (type_of v.ty)) ≡ put r (type_at types (own - 1 - j))
