-- The texts of types as a module writes them, without brackets that aren't needed (Report 4.1.2).
use Rattle.std.specs.Prelude.{Bool, true, false, ◌&&◌, List, ℕ, [], ◌++◌, Option, None, Some, codes}
use Rattle.hm_syntax.specs.Names.{Identifier}
use Rattle.hm_syntax.specs.Trees.{TypeTree, TypeTrees, variable_type, constructor_type, function_type, tuple_type, list_type, unit_type, no_types, more_types}
use Rattle.hm_build_objects.specs.declared.type_texts.Side.{Side}
use Rattle.hm_build_objects.specs.declared.type_texts.Side.TheVariants.{Whole, Left, Argument}

abbrev pub is_argument : Side → Bool
is_argument Whole = false
is_argument Left = false
is_argument Argument = true

abbrev pub isnt_whole : Side → Bool
isnt_whole Whole = false
isnt_whole Left = true
isnt_whole Argument = true

abbrev pub opening : Bool → List ℕ
opening true = codes "("
opening false = []

abbrev pub closing : Bool → List ℕ
closing true = codes ")"
closing false = []

abbrev pub qualified : Option (List ℕ) → List ℕ → List ℕ
qualified None text = text
qualified (Some q) text = q ++ (codes "." ++ text)

-- a name after its qualifier
abbrev pub name_text : Identifier → List ℕ
name_text n = qualified n.qualifier n.text

abbrev pub has_types : TypeTrees → Bool
has_types no_types = false
has_types (more_types t ts) = true

-- the first of two marks, or the second one
abbrev pub mark_of : Bool → List ℕ → List ℕ → List ℕ
mark_of true first next = first
mark_of false first next = next

abbrev mutual
  -- a function is in parentheses left of an arrow and as an argument, and a constructor with arguments as an argument
  pub written_text : Side → TypeTree → List ℕ
  written_text s (variable_type n) = n.text
  written_text s (constructor_type n ts) =
      opening (is_argument s && has_types ts) ++ (name_text n ++ (each_text Argument (codes " ") (codes " ") ts ++ closing (is_argument s && has_types ts)))
  written_text s (function_type a b) = opening (isnt_whole s) ++ (written_text Left a ++ (codes " -> " ++ (written_text Whole b ++ closing (isnt_whole s))))
  written_text s (tuple_type ts) = each_text Whole (codes "(") (codes ", ") ts ++ codes ")"
  written_text s (list_type t) = codes "[" ++ (written_text Whole t ++ codes "]")
  written_text s unit_type = codes "()"

  -- the first type after the first mark, and each other one after the second
  pub each_text : Side → List ℕ → List ℕ → TypeTrees → List ℕ
  each_text s first next no_types = []
  each_text s first next (more_types t ts) = first ++ (written_text s t ++ each_text s next next ts)
