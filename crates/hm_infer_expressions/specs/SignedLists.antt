-- The signatures of a binding list (Haskell 98 Report, section 4.4.1) during inference. No public clause names these.
use Rattle.std.specs.Prelude.{◌≡◌, ℕ, ◌↔◌, List, Option, Some, None, option_map}
use Rattle.std.specs.Str.{bytes_eq}
use Rattle.std.specs.Borrow.{Bor}
use Rattle.std.specs.declared.hash.FoldHasher.{FoldHasher}
use Rattle.std.specs.declared.hash.BuildHasherDefault.{BuildHasherDefault}
use Rattle.indexmap.specs.IndexMap.{IndexMap, get_by}
use Rattle.hm_types.specs.Types.{put}
use Rattle.hm_typing.specs.Names.{Identifier, IsOneOf}
use Rattle.hm_typing.specs.Schemes.{Monotype, Scheme}
use Rattle.hm_typing.specs.Assumptions.{Assumptions}
use Rattle.hm_typing.specs.Syntax as typed
use Rattle.hm_typing.specs.Syntax.{Bindings}
use Rattle.hm_typing.specs.SecondForm.{DeriveClauses}
use Rattle.hm_typing.specs.Units.{IsSigned}
use Rattle.hm_typing.specs.Orders.{SignedAre}
use Rattle.hm_syntax.specs.Trees.{TypeTree, Declaration, data_declaration, newtype_declaration, synonym_declaration, signature, clause, pattern_binding, Declarations, more_declarations}
use Rattle.hm_names.specs.Syntax.{Known, bindings_of, patterns_of, right_sides_of, where_of, signature_of}
use Rattle.hm_names.specs.Types.{declared_type}
use Rattle.hm_infer_context.specs.Environments.{Assumed}
use Rattle.hm_infer_expressions.specs.BoundNames.{Binds}

-- the declared types, by the texts of their variables
abbrev pub Signatures : Type 0
Signatures = IndexMap (Bor (List ℕ)) (Bor TypeTree) (BuildHasherDefault FoldHasher)

abbrev pub declared_in : Signatures → List ℕ → Option Monotype
declared_in table x = option_map (λ t. declared_type t.now) (get_by (λ k. bytes_eq x k.now) table)

-- the table has the signatures of a list
abbrev pub AreSignatures : Declarations → Signatures → Type 0
AreSignatures ds table = (x : List ℕ) → declared_in table x ≡ signature_of x ds

-- es' assumes for the signed variables of a list their declared schemes, and for all others what es assumes
abbrev pub BindsSigned : Bindings → List Assumed → List Assumed → Type 0
BindsSigned ds es es' = (σ : Identifier → Scheme) → SignedAre σ ds → (xs : List Identifier) × (((x : Identifier) → IsOneOf x xs ↔ IsSigned x ds) × Binds xs σ es es')

-- binds the variables of one more declaration, which is before those whose variables are bound
abbrev pub BindsDeclaration : Known → Declarations → Declaration → Declarations → List Assumed → List Assumed → Type 0
BindsDeclaration k all d ds es es' = (base : List Assumed) → BindsSigned (bindings_of k all ds) base es → BindsSigned (bindings_of k all (more_declarations d ds)) base es'

-- J holds for each instance of the declared type, if there is one
abbrev pub AtDeclared : Option Monotype → (Monotype → Type 0) → Type 0
AtDeclared None J = Unit {0}
AtDeclared (Some s) J = (us : ℕ → Monotype) → J (put us s)

-- a clause of a signed variable has the declared type
abbrev pub SignedClauseHas : Known → Declarations → Assumptions → Declaration → Type 0
SignedClauseHas k all C (data_declaration n ps cs) = Unit {0}
SignedClauseHas k all C (newtype_declaration n ps c) = Unit {0}
SignedClauseHas k all C (synonym_declaration n ps t) = Unit {0}
SignedClauseHas k all C (signature ns t) = Unit {0}
SignedClauseHas k all C (clause n ps r) = AtDeclared (signature_of n.text all) (λ t. DeriveClauses C (typed.clause (patterns_of k ps) (right_sides_of k r) (where_of k r) typed.no_clause) t)
SignedClauseHas k all C (pattern_binding l c p r) = Unit {0}

-- each clause of a signed variable has the declared type
abbrev pub SignedClausesHave : Known → Declarations → Assumptions → List Declaration → Type 0
SignedClausesHave k all C ds = (d : Declaration) → IsOneOf d ds → SignedClauseHas k all C d
