-- Type variables in signatures that are named like types in scope (Report 2.2, 4.1.2, 4.4.1, 5.5.1).
use Rattle.std.specs.Prelude.{ℕ, Bool, false, cond, ◌||◌, List, [], ◌∷◌, ◌++◌, None}
use Rattle.std.specs.Char.{to_ascii_uppercase}
use Rattle.hm_lex.specs.declared.token.Place.{Place}
use Rattle.hm_syntax.specs.Names.{Identifier}
use Rattle.hm_syntax.specs.Trees.{Declarations, no_declarations, more_declarations, data_declaration, newtype_declaration, synonym_declaration, signature, clause, pattern_binding}
use Rattle.hm_names.specs.declared.namespace.Namespace.TheVariants.{Types}
use Rattle.hm_names.specs.Bindings.{Pair, is_for}
use Rattle.hm_names.specs.Faults.Lists.{firsts}
use Rattle.hm_names.specs.Texts.{is_text_among}
use Rattle.hm_names.specs.Variables.{texts, type_variables}

-- a name with a capital in front
abbrev pub capitalized : List ℕ → List ℕ
capitalized [] = []
capitalized (c ∷ cs) = to_ascii_uppercase c ∷ cs

-- the type variables in the signatures of a variable, in order
abbrev pub signed_variables : List ℕ → Declarations → List Identifier
signed_variables x no_declarations = []
signed_variables x (more_declarations (data_declaration n ps cs) ds) = signed_variables x ds
signed_variables x (more_declarations (newtype_declaration n ps c) ds) = signed_variables x ds
signed_variables x (more_declarations (synonym_declaration n ps t) ds) = signed_variables x ds
signed_variables x (more_declarations (signature ns t) ds) = cond (is_text_among x (texts ns)) (type_variables t) [] ++ signed_variables x ds
signed_variables x (more_declarations (clause n ps r) ds) = signed_variables x ds
signed_variables x (more_declarations (pattern_binding line column p r) ds) = signed_variables x ds

-- a name without a qualifier
abbrev pub bare : List ℕ → Identifier
bare x = record { qualifier = None; text = x; line = 0; column = 0 }

-- the pair has a type under this name, without a qualifier
abbrev pub is_type_called : List ℕ → Pair → Bool
is_type_called x p = is_for Types (bare x) p

-- one of the pairs does
abbrev pub has_type : List ℕ → List Pair → Bool
has_type x [] = false
has_type x (p ∷ ps) = is_type_called x p || has_type x ps

-- a type variable, and the name of the type that it is named like
pub record Likeness : Type 0 where
  pub place : Place
  pub variable : List ℕ
  pub type_name : List ℕ

abbrev pub likeness : Identifier → Likeness
likeness n = record { place = record { line = n.line; column = n.column }; variable = n.text; type_name = capitalized n.text }

-- those of these names that with a capital are names of types among the pairs, in order
abbrev pub likes_among : List Pair → List Identifier → List Likeness
likes_among scope [] = []
likes_among scope (n ∷ ns) = cond (has_type (capitalized n.text) scope) (likeness n ∷ []) [] ++ likes_among scope ns

-- the type variables in the signatures of a variable that are named like types of a scope, each at its first place, in order
abbrev pub like_types : List Pair → List ℕ → Declarations → List Likeness
like_types scope x ds = likes_among scope (firsts [] (signed_variables x ds))
