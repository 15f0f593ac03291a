-- The bindings with signatures that are faults (Haskell 98 Report, sections 4.4.1 and 4.5.1). No public clause names these.
use Rattle.std.specs.Prelude.{◌≡◌, ℕ, suc, ◌<◌, ◌≤◌, ◌↔◌, Bool, true, false, List, [], ◌∷◌, drop, length, Option, Some, Contains, slice_index_or}
use Rattle.std.specs.List.{slice_get}
use Rattle.hm_typing.specs.Assumptions.{Assumptions}
use Rattle.hm_syntax.specs.Trees.{Declaration, data_declaration, newtype_declaration, synonym_declaration, signature, clause, pattern_binding, Declarations}
use Rattle.hm_syntax.specs.Lists.{declarations}
use Rattle.hm_names.specs.Syntax.{Known, is_continued}
use Rattle.hm_names_keys.specs.Variables.{Variable}
use Rattle.hm_infer_expressions.specs.Dependences.{IsReferred, TellsNodes}
use Rattle.hm_infer_expressions.specs.SignedLists.{SignedClauseHas}

-- the second declaration continues the binding of the first
abbrev pub goes_on : List Declaration → Bool
goes_on [] = false
goes_on (data_declaration n ps cs ∷ ds) = false
goes_on (newtype_declaration n ps c ∷ ds) = false
goes_on (synonym_declaration n ps t ∷ ds) = false
goes_on (signature ns t ∷ ds) = false
goes_on (clause n ps r ∷ ds) = is_continued n.text ps (declarations ds)
goes_on (pattern_binding l c p r ∷ ds) = false

-- the declaration at p continues no binding
abbrev pub BeginsRun : List Declaration → ℕ → Type 0
BeginsRun ds p = (i : ℕ) → suc i ≡ p → goes_on (drop i ds) ≡ false

-- the declaration at q is the first of the binding that begins at p, or continues it
pub record InRun (ds : List Declaration) (p q : ℕ) : Type 0 where
  pub behind : p ≤ q
  pub inside : q < length ds
  pub each : (i : ℕ) → p ≤ i → i < q → goes_on (drop i ds) ≡ true

abbrev pub HasFlag : List Declaration → List Bool → ℕ → Type 0
HasFlag ds flags p = (q : ℕ) × (InRun ds p q × (slice_index_or flags q false ≡ true))

-- if true, the declaration refers to a node without a type
abbrev pub Waits : Bool → List (Option Variable) → List Bool → Declaration → Type 0
Waits true nodes typed d = TellsNodes false typed (IsReferred nodes d)
Waits false nodes typed d = TellsNodes true typed (IsReferred nodes d)

pub record AreWaiting (nodes : List (Option Variable)) (typed : List Bool) (ds : List Declaration) (waiting : List Bool) : Type 0 where
  pub sized : length waiting ≡ length ds
  pub each : (p : ℕ) (d : Declaration) → slice_get ds p ≡ Some d → Waits (slice_index_or waiting p false) nodes typed d

-- if the declaration doesn't wait: whether it is a clause without the declared type
abbrev pub Refuses : Bool → Bool → Known → Declarations → Assumptions → Declaration → Type 0
Refuses true b k all C d = b ≡ false
Refuses false true k all C d = ¬ (SignedClauseHas k all C d)
Refuses false false k all C d = SignedClauseHas k all C d

pub record AreRefused (k : Known) (all : Declarations) (C : Assumptions) (ds : List Declaration) (waiting refused : List Bool) : Type 0 where
  pub sized : length refused ≡ length ds
  pub each : (p : ℕ) (d : Declaration) → slice_get ds p ≡ Some d → Refuses (slice_index_or waiting p false) (slice_index_or refused p false) k all C d

-- a binding begins at p; none of its clauses waits, and one is refused
pub record IsFaultAt (ds : List Declaration) (waiting refused : List Bool) (p : ℕ) : Type 0 where
  pub begins : BeginsRun ds p
  pub free : ¬ (HasFlag ds waiting p)
  pub refused_one : HasFlag ds refused p

-- the places where the faults begin
pub record AreSignedFaults (k : Known) (all : Declarations) (C : Assumptions) (nodes : List (Option Variable)) (typed : List Bool) (ds : List Declaration) (places : List ℕ) : Type 0 where
  pub waiting : List Bool
  pub are_waiting : AreWaiting nodes typed ds waiting
  pub refused : List Bool
  pub are_refused : AreRefused k all C ds waiting refused
  pub exact : (p : ℕ) → Contains places p ↔ ((p < length ds) × IsFaultAt ds waiting refused p)
