-- The definitions that have types in a changed source.
use Rattle.std.specs.Prelude.{◌≡◌, ℕ, List, ◌∷◌, All, Contains}
use Rattle.hm_types.specs.Interfaces.{Exports as Interface}
use Rattle.hm_types.specs.StandardPrelude.{prelude_interface}
use Rattle.hm_syntax.specs.Lists.{declarations}
use Rattle.hm_syntax.specs.Names.{Identifier}
use Rattle.hm_syntax.specs.declared.ast.Module.{Module}
use Rattle.hm_run_sources.specs.SourceModules.{HasModules}
use Rattle.hm_names.specs.Faults.Lists.{signed_names}
use Rattle.hm_names.specs.Imports.{AreImportsOf}
use Rattle.hm_names.specs.declared.faults.Fault.{Fault}
use Rattle.hm_names.specs.declared.faults.Kind.TheVariants.{Untyped}
use Rattle.hm_verdicts.specs.ModuleVerdicts.{Verdict, IsVerdict}
use Rattle.hm_messages_changes.specs.declared.data.SourceRange.{SourceRange}
use Rattle.hm_messages_changes.specs.Holes.{with_hole, IsPartOf}

-- a type fault of a definition that isn't among these
abbrev pub IsElsewhere : List (List ℕ) → Fault → Type 0
IsElsewhere names f = (f.kind ≡ Untyped) × ¬ (Contains names f.name)

-- the verdict is good, or has only type faults with none of these names
abbrev pub AreTyped : List (List ℕ) → Verdict → Type 0
AreTyped names (Verdict.Good f) = Unit {0}
AreTyped names (Verdict.Faulty found) = All (IsElsewhere names) found

-- the source spells this module, perhaps among others, and this is its name
pub record IsModuleIn (source : List ℕ) (name : List ℕ) («module» : Module) : Type 0 where
  pub modules : List Module
  pub read : HasModules source modules
  pub among : Contains modules «module»
  pub named : «module».header.name.text ≡ name

-- the module has a signature of the variable (Report 4.4.1)
pub record IsSigned («module» : Module) (variable : List ℕ) : Type 0 where
  pub name : Identifier
  pub written : Contains (signed_names (declarations «module».decls)) name
  pub named : name.text ≡ variable

-- the source spells a module with this name that has a signature of the variable
pub record IsSignedIn (source name variable : List ℕ) : Type 0 where
  pub «module» : Module
  pub spelled : IsModuleIn source name «module»
  pub signed : IsSigned «module» variable

-- the source spells a module with this name that needs these interfaces. Its verdict for them and Prelude's is good, or has only type faults with none
-- of these names
pub record HasTypesIn (source : List ℕ) (name : List ℕ) (fs : List Interface) (names : List (List ℕ)) : Type 0 where
  pub «module» : Module
  pub spelled : IsModuleIn source name «module»
  pub of_imports : AreImportsOf «module» fs
  pub verdict : Verdict
  pub right : IsVerdict «module» (prelude_interface ∷ fs) verdict
  pub typed : AreTyped names verdict

-- with the hole in place of these bytes, the definition isn't a type fault, nor are the others that are named with it
pub record IsTypedWithout (source : List ℕ) (name : List ℕ) (fs : List Interface) (definition : List ℕ) (from to : ℕ) : Type 0 where
  pub others : List (List ℕ)
  pub types : HasTypesIn (with_hole source from to) name fs (definition ∷ others)

-- the definition has a type without the part
pub record IsCulprit (source : List ℕ) (name : List ℕ) (fs : List Interface) (definition : List ℕ) (part : SourceRange) : Type 0 where
  pub part_of : IsPartOf source part
  pub typed : IsTypedWithout source name fs definition part.from part.to
