-- Type faults of a core, named after the first declarations of the units without types. No public clause names these.
use Rattle.std.specs.Prelude.{◌≡◌, ℕ, ◌<◌, List, [], ◌∷◌, length, Option, None, Some, Contains, slice_index_or}
use Rattle.std.specs.List.{flat_map}
use Rattle.hm_typing.specs.Names.{Identifier as Name, IsOneOf}
use Rattle.hm_syntax.specs.Names.{Identifier}
use Rattle.hm_syntax.specs.Trees.{Declaration, data_declaration, newtype_declaration, synonym_declaration, signature, clause, pattern_binding, unit_type}
use Rattle.hm_names.specs.declared.faults.Fault.{Fault}
use Rattle.hm_names.specs.declared.faults.Kind.TheVariants.{Untyped}
use Rattle.hm_names.specs.Faults.Phases.{fault}
use Rattle.hm_names.specs.ModuleCores.{ModuleCore}
use Rattle.hm_names.specs.Untyped.{IsTold, bare, first_text}
use Rattle.hm_names.specs.Variables.{pattern_variables}

abbrev pub leading : List Identifier → Option Identifier
leading [] = None
leading (n ∷ ns) = Some n

-- the name that a declaration gives to the unit that it begins, if it binds anything
abbrev pub told_name : Declaration → Option Identifier
told_name (data_declaration n ps cs) = None
told_name (newtype_declaration n ps c) = None
told_name (synonym_declaration n ps t) = None
told_name (signature ns t) = None
told_name (clause n ps r) = Some (bare n.line n.column n.text)
told_name (pattern_binding line column p r) = Some (bare line column (first_text (pattern_variables p)))

abbrev pub faults_told : Option Identifier → List Fault
faults_told None = []
faults_told (Some n) = fault Untyped n ∷ []

-- a declaration that binds nothing
abbrev pub no_declaration : Declaration
no_declaration = signature [] unit_type

abbrev pub declaration_at : List Declaration → ℕ → Declaration
declaration_at ds p = slice_index_or ds p no_declaration

-- the faults of the units that begin with the declarations at these places
abbrev pub faults_at : List Declaration → List ℕ → List Fault
faults_at ds starts = flat_map (λ p. faults_told (told_name (declaration_at ds p))) starts

-- the declaration at place p names the binding of x
pub record IsStart (c : ModuleCore) (ds : List Declaration) (x : Name) (p : ℕ) : Type 0 where
  pub place : p < length ds
  pub name : Identifier
  pub told : IsTold c x ds name
  pub shown : told_name (declaration_at ds p) ≡ Some name

-- these units, given by a name each, begin at these places
pub record AreStartsOf (c : ModuleCore) (units : List Name) (starts : List ℕ) : Type 0 where
  pub some : ¬ (starts ≡ [])
  pub each : (x : Name) → IsOneOf x units → (p : ℕ) × (Contains starts p × IsStart c c.decls x p)
  pub back : (p : ℕ) → Contains starts p → (x : Name) × (IsOneOf x units × IsStart c c.decls x p)
