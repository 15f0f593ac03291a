-- The two types of a part of a definition: the one that it has, and the one that is expected in its place.
use Rattle.std.specs.Prelude.{◌≡◌, ◌≤◌, Bool, false, true, ℕ, List, ◌∷◌, All, Contains, codes, length}
use Rattle.hm_types.specs.Interfaces.{Exports as Interface}
use Rattle.hm_types.specs.Monotypes.{Mono}
use Rattle.hm_types.specs.Schemes.{TypeScheme}
use Rattle.hm_types.specs.StandardPrelude.{prelude_interface}
use Rattle.hm_types.specs.Types.{App as app, done as none, more}
use Rattle.hm_types.specs.declared.Head.TheVariants.{Arrow, Tuple}
use Rattle.hm_types.specs.declared.Head.TheVariants as head
use Rattle.hm_types.specs.declared.entries.ValueEntry.{ValueEntry}
use Rattle.hm_types_display.specs.Texts.{scheme_text_of}
use Rattle.hm_syntax.specs.declared.ast.Module.{Module}
use Rattle.hm_names.specs.Imports.{AreImportsOf}
use Rattle.hm_verdicts.specs.ModuleVerdicts.{Good, IsVerdict}
use Rattle.hm_messages_trials.specs.TypedSources.{IsModuleIn, IsSignedIn}
use Rattle.hm_messages_types.specs.CommonInstances.{HaveCommonInstance}
use Rattle.hm_messages_types.specs.InfiniteTypes.{NeedInfinite}
use Rattle.hm_messages_changes.specs.declared.data.SourceRange.{SourceRange}
use Rattle.hm_messages_changes.specs.Probes.{IsWritten, Surroundings, with_probe}

-- an interface exports a variable with this scheme
pub record IsExported (exports : Interface) (variable : List ℕ) (scheme : TypeScheme) : Type 0 where
  pub entry : ValueEntry
  pub listed : Contains exports.values entry
  pub named : entry.name ≡ variable
  pub scheme_is : entry.scheme ≡ scheme

-- The source spells a module with this name that needs these interfaces. It is good for them and Prelude's, and exports a variable with this scheme
pub record ExportsIn (source name : List ℕ) (fs : List Interface) (variable : List ℕ) (scheme : TypeScheme) : Type 0 where
  pub «module» : Module
  pub spelled : IsModuleIn source name «module»
  pub of_imports : AreImportsOf «module» fs
  pub exports : Interface
  pub right : IsVerdict «module» (prelude_interface ∷ fs) (Good exports)
  pub exported : IsExported exports variable scheme

-- the type of a function from a pair to ()
abbrev pub from_pair : Mono → Mono → Mono
from_pair t u = app Arrow (more (app (Tuple 2) (more t (more u none))) (more (app head.Unit none) none))

-- the type of a function from three values to ()
abbrev pub from_three : Mono → Mono → Mono → Mono
from_three t u v = app Arrow (more (app (Tuple 3) (more t (more u (more v none)))) (more (app head.Unit none) none))

-- the text of a type among those of a scheme
abbrev pub text_in : TypeScheme → Mono → List ℕ
text_in s t = scheme_text_of (record { vars = s.vars; body = t })

-- A function with this scheme takes a type of a definition and two types that differ, and these are the texts of the three. The type of the definition is first, so its
-- variables have the first letters. Only a definition with a signature has variables that stand for no other types. So without one the two types have no common
-- instance. If they are reported as infinite, they are equal only if a type contains itself
pub record AreTextsOf (scheme : TypeScheme) (signed : Bool) (own expected actual : List ℕ) (infinite : Bool) : Type 0 where
  pub own_type : Mono
  pub expected_type : Mono
  pub actual_type : Mono
  pub three : scheme.body ≡ from_three own_type expected_type actual_type
  pub apart : ¬ (expected_type ≡ actual_type)
  pub clash : signed ≡ false → ¬ (HaveCommonInstance expected_type actual_type)
  pub own_is : own ≡ text_in scheme own_type
  pub expected_is : expected ≡ text_in scheme expected_type
  pub actual_is : actual ≡ text_in scheme actual_type
  pub contained : infinite ≡ true → NeedInfinite expected_type actual_type

-- With the function in place of the definition, the module is good, and the function takes the type of the definition and the two types. Where the definition is local, another name may be
-- written in place of its own. It counts as signed only if the module has its signature
pub record HasPartTypes (source name : List ℕ) (fs : List Interface) (definition : List ℕ) (part : SourceRange) (own expected actual : List ℕ) (infinite : Bool) : Type 0 where
  pub place : Surroundings
  pub starts : place.whole.from ≤ part.from
  pub ordered : part.from ≤ part.to
  pub ends : part.to ≤ place.whole.to
  pub within : place.whole.to ≤ length source
  pub before : All (IsWritten source definition) place.local.before
  pub after : All (IsWritten source definition) place.local.after
  pub scheme : TypeScheme
  pub typed : ExportsIn (with_probe source definition place part) name fs (codes "part'types") scheme
  pub signed : Bool
  pub declared : signed ≡ true → IsSignedIn source name definition
  pub texts : AreTextsOf scheme signed own expected actual infinite
