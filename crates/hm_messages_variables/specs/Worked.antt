-- Worked examples: type variables of signatures that are named like types.
use Rattle.std.specs.Prelude.{◌≡◌, ℕ, List, [], ◌∷◌, None, Some, codes}
use Rattle.hm_syntax.specs.Names.{Identifier}
use Rattle.hm_syntax.specs.Trees.{Declarations, no_declarations, more_declarations, signature, function_type, variable_type}
use Rattle.hm_names.specs.Bindings.{Pair}
use Rattle.hm_names.specs.declared.namespace.Namespace.TheVariants.{Types, Values}
use Rattle.hm_messages_variables.specs.LikeTypes.{capitalized, like_types, likeness}

abbrev pub at : ℕ → List ℕ → Identifier
at column x = record { qualifier = None; text = x; line = 1; column = column }

-- f :: string -> string -> a
abbrev pub declared : Declarations
declared = more_declarations (signature (at 1 (codes "f") ∷ []) (function_type (variable_type (at 6 (codes "string"))) (function_type (variable_type (at 16 (codes "string"))) (variable_type (at 26 (codes "a")))))) no_declarations

-- String and Q.A in scope, and a variable
abbrev pub scope : List Pair
scope =
    record { space = Types; qualifier = None; text = codes "String"; entity = record { «module» = codes "Prelude"; name = codes "String" } }
    ∷ record { space = Types; qualifier = Some (codes "Q"); text = codes "A"; entity = record { «module» = codes "Q"; name = codes "A" } }
    ∷ record { space = Values; qualifier = None; text = codes "A"; entity = record { «module» = codes "M"; name = codes "A" } } ∷ []

-- In f's signature, `string` is named like a type, and stands once, at its first place. `a` isn't: the type A is in scope with a qualifier alone. A definition without a signature has none
pub record LikeRow : Type 0 where
  pub capital : capitalized (codes "string") ≡ codes "String"
  pub no_letter : capitalized (codes "_x") ≡ codes "_x"
  pub found : like_types scope (codes "f") declared ≡ likeness (at 6 (codes "string")) ∷ []
  pub not_other : like_types scope (codes "g") declared ≡ []
