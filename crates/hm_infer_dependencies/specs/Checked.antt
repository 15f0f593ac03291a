-- The constraints of a group on a list, one declaration at a time: each clause alone, each pattern binding. No public clause names it.
use Rattle.std.specs.Prelude.{◌≡◌, Bool, true}
use Rattle.hm_typing.specs.Names.{Identifier, binding}
use Rattle.hm_typing.specs.Schemes.{Monotype}
use Rattle.hm_typing.specs.Assumptions.{Assumptions}
use Rattle.hm_typing.specs.Patterns.{Matches}
use Rattle.hm_typing.specs.Syntax as typed
use Rattle.hm_typing.specs.SecondForm.{DeriveClauses}
use Rattle.hm_syntax.specs.Trees.{Declaration, data_declaration, newtype_declaration, synonym_declaration, signature, clause, pattern_binding, Declarations, no_declarations, more_declarations}
use Rattle.hm_names.specs.Syntax.{Known, pattern_of, patterns_of, right_sides_of, where_of, bindings_of, declaration_count}

-- x is the first name of a list, and has no signature
abbrev pub BeginsUnsigned : Identifier → typed.Bindings → Type 0
BeginsUnsigned x typed.no_binding = ⊥
BeginsUnsigned x (typed.unsigned z cs ds) = x ≡ z
BeginsUnsigned x (typed.signed z s cs ds) = ⊥
BeginsUnsigned x (typed.matched z p cs ds) = ⊥

-- under C the bindings of the group have their types
abbrev pub GroupUnder : (Identifier → Bool) → Assumptions → (Identifier → Monotype) → typed.Bindings → Type 0
GroupUnder g C τ typed.no_binding = Unit {0}
GroupUnder g C τ (typed.unsigned x cs D) = (g x ≡ true → DeriveClauses C cs (τ x)) × GroupUnder g C τ D
GroupUnder g C τ (typed.signed x s cs D) = GroupUnder g C τ D
GroupUnder g C τ (typed.matched k p cs D) = (g k ≡ true → Matches τ p (τ k) × DeriveClauses C cs (τ k)) × GroupUnder g C τ D

-- under C each clause of the group has its name's type, and each pattern binding of the group fits
abbrev pub DeclarationsHave : (Identifier → Bool) → Assumptions → (Identifier → Monotype) → Known → Declarations → Declarations → Type 0
DeclarationsHave g C τ k all no_declarations = Unit {0}
DeclarationsHave g C τ k all (more_declarations (data_declaration n ps cs) ds) = DeclarationsHave g C τ k all ds
DeclarationsHave g C τ k all (more_declarations (newtype_declaration n ps c) ds) = DeclarationsHave g C τ k all ds
DeclarationsHave g C τ k all (more_declarations (synonym_declaration n ps t) ds) = DeclarationsHave g C τ k all ds
DeclarationsHave g C τ k all (more_declarations (signature ns t) ds) = DeclarationsHave g C τ k all ds
DeclarationsHave g C τ k all (more_declarations (clause n ps r) ds) =
    ((x : Identifier) → BeginsUnsigned x (bindings_of k all (more_declarations (clause n ps r) ds)) → g x ≡ true → DeriveClauses C (typed.clause (patterns_of k ps) (right_sides_of k r) (where_of k r) typed.no_clause) (τ x))
    × DeclarationsHave g C τ k all ds
DeclarationsHave g C τ k all (more_declarations (pattern_binding l c p r) ds) =
    (g (binding k.home (declaration_count ds)) ≡ true → Matches τ (pattern_of k p) (τ (binding k.home (declaration_count ds))) × DeriveClauses C (typed.clause typed.no_pattern (right_sides_of k r) (where_of k r) typed.no_clause) (τ (binding k.home (declaration_count ds))))
    × DeclarationsHave g C τ k all ds

-- the constraint on a declaration before others
abbrev pub OneHas : (Identifier → Bool) → Assumptions → (Identifier → Monotype) → Known → Declarations → Declaration → Declarations → Type 0
OneHas g C τ k all (data_declaration n ps cs) ds = Unit {0}
OneHas g C τ k all (newtype_declaration n ps c) ds = Unit {0}
OneHas g C τ k all (synonym_declaration n ps t) ds = Unit {0}
OneHas g C τ k all (signature ns t) ds = Unit {0}
OneHas g C τ k all (clause n ps r) ds =
    (x : Identifier) → BeginsUnsigned x (bindings_of k all (more_declarations (clause n ps r) ds)) → g x ≡ true → DeriveClauses C (typed.clause (patterns_of k ps) (right_sides_of k r) (where_of k r) typed.no_clause) (τ x)
OneHas g C τ k all (pattern_binding l c p r) ds =
    g (binding k.home (declaration_count ds)) ≡ true → Matches τ (pattern_of k p) (τ (binding k.home (declaration_count ds))) × DeriveClauses C (typed.clause typed.no_pattern (right_sides_of k r) (where_of k r) typed.no_clause) (τ (binding k.home (declaration_count ds)))
