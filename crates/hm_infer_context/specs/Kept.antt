-- The variables, assumptions and constructors that the program stores, as the lists that contracts see.
use Rattle.std.specs.Prelude.{List, [], ◌∷◌, map}
use Rattle.hm_types.specs.Shape.{type_of}
use Rattle.hm_infer_context.specs.declared.constructors.Entry.{Entry}
use Rattle.hm_names_keys.specs.Keys.{variable_of_key}
use Rattle.hm_names_keys.specs.Variables.{identifier}
use Rattle.hm_infer_context.specs.declared.variables.Variable.{Variable as KeptVariable}
use Rattle.hm_infer_context.specs.declared.environment.Binding.{Binding}
use Rattle.hm_infer_context.specs.AssumedTypes.{type_in}
use Rattle.hm_infer_context.specs.KnownSchemes.{scheme_in}
use Rattle.hm_names.specs.Cores.{ConstructorScheme}
use Rattle.hm_infer_context.specs.Patterns.{Variable}
use Rattle.hm_infer_context.specs.Environments.{Assumed}

-- the images of the first list, the last first, and then the second list
abbrev pub stack : {A B : Type 0} → (A → B) → List A → List B → List B
stack f [] ys = ys
stack f (x ∷ xs) ys = stack f xs (f x ∷ ys)

abbrev pub variable_of : KeptVariable → Variable
variable_of v = record { name = identifier (variable_of_key v.name); ty = type_of v.ty }

abbrev pub variables_of : List KeptVariable → List Variable
variables_of xs = stack variable_of xs []

abbrev pub assumed_of : Binding → Assumed
assumed_of b = record { name = identifier (variable_of_key b.name); scheme = record { quantified = b.quantified; body = type_in b.body } }

abbrev pub entries_of : List Binding → List Assumed
entries_of xs = stack assumed_of xs []

abbrev pub scheme_of : Entry → ConstructorScheme
scheme_of e = record { entity = record { «module» = e.«module».now; name = e.name.now }; scheme = scheme_in e.scheme }

abbrev pub schemes_of : List Entry → List ConstructorScheme
schemes_of es = map scheme_of es

-- a variable as an assumption without quantified variables
abbrev pub monomorphic_of : KeptVariable → Assumed
monomorphic_of v = record { name = identifier (variable_of_key v.name); scheme = record { quantified = 0; body = type_of v.ty } }
