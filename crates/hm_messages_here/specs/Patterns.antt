-- Pattern bindings, in whose copies each variable has the type of the module's variable.
use Rattle.std.specs.Prelude.{◌≡◌, ℕ, List, ◌++◌, Contains, codes, flat_map, take}
use Rattle.hm_lex.specs.Cut.{place_after}
use Rattle.hm_lex.specs.declared.token.Place.{Place}
use Rattle.hm_syntax.specs.Trees.{Pattern, RightSide, pattern_binding}
use Rattle.hm_syntax.specs.declared.ast.Module.{Module}
use Rattle.hm_names.specs.Variables.{pattern_variables, texts}
use Rattle.hm_messages_trials.specs.TypedSources.{IsModuleIn}

-- a list of one variable of the module and the local one of the same name, so both have one type. The whole is () (Report 3.7, 3.13, 5.5.1)
abbrev pub shared : List ℕ → List ℕ → List ℕ
shared name x = codes " : (case " ++ (name ++ (codes "." ++ (x ++ (codes " : " ++ (x ++ codes " : [] of { _ -> () })")))))

-- an expression of type () in which each of these variables has the type of the module's one
abbrev pub all_shared : List ℕ → List (List ℕ) → List ℕ
all_shared name xs = codes "case ()" ++ (flat_map (shared name) xs ++ codes " : [] of { _ -> () }")

-- a pattern binding of the source's module begins at this place (Report 4.4.3.2), and the text has each of its variables
pub record IsSharedAt (source name : List ℕ) (place : Place) (text : List ℕ) : Type 0 where
  pub «module» : Module
  pub spelled : IsModuleIn source name «module»
  pub pattern : Pattern
  pub side : RightSide
  pub declared : Contains «module».decls (pattern_binding place.line place.column pattern side)
  pub text_is : text ≡ all_shared name (texts (pattern_variables pattern))

-- The copy of a definition that begins at this byte has the type of the definition: it is in one list with the definition's name, or it is a pattern binding, and shares
-- the type of each of its variables. `value` is what it is in one list with, and `local` the text after the copy
pub data IsTied (source name : List ℕ) (from : ℕ) (definition value local : List ℕ) : Type 0 where
  by_name : value ≡ name ++ (codes "." ++ definition) → IsTied source name from definition value local
  by_variables : definition ≡ codes "()" → value ≡ codes "()" → IsSharedAt source name (place_after (take from source)) local → IsTied source name from definition value local
