-- The special constructors (), [], (:) and those of tuples, which are always in scope and belong to no module (Report 3.2, 4.1.2).
use Rattle.std.specs.Prelude.{◌≡◌, ℕ, suc, ◌==◌, cond, List, [], ◌∷◌, Option, None, Some, codes}
use Rattle.hm_syntax.specs.Names.{Identifier}
use Rattle.hm_names.specs.Texts.{same_text}

pub data Special : Type 0 where
  UnitValue : Special
  Nil : Special
  Cons : Special
  Tuple : ℕ → Special

-- the rest of the text of a tuple constructor after n commas: commas, and a closing parenthesis
abbrev pub tuple_after : ℕ → List ℕ → Option Special
tuple_after n [] = None
tuple_after n (c ∷ []) = cond (c == 41) (Some (Tuple (suc n))) None
tuple_after n (c ∷ d ∷ ds) = cond (c == 44) (tuple_after (suc n) (d ∷ ds)) None

abbrev pub tuple_of : List ℕ → Option Special
tuple_of [] = None
tuple_of (c ∷ []) = None
tuple_of (c ∷ d ∷ ds) = cond (c == 40) (cond (d == 44) (tuple_after 1 ds) None) None

abbrev pub special_text : List ℕ → Option Special
special_text x =
    cond (same_text x (codes "()")) (Some UnitValue) (cond (same_text x (codes "[]")) (Some Nil) (cond (same_text x (codes ":")) (Some Cons) (tuple_of x)))

-- the special constructor with this name
abbrev pub special_in : Option (List ℕ) → List ℕ → Option Special
special_in None x = special_text x
special_in (Some q) x = None

abbrev pub special_of : Identifier → Option Special
special_of n = special_in n.qualifier n.text

abbrev pub IsSpecial : Identifier → Type 0
IsSpecial n = (s : Special) × (special_of n ≡ Some s)

-- its number of arguments
abbrev pub special_arity : Special → ℕ
special_arity UnitValue = 0
special_arity Nil = 0
special_arity Cons = 2
special_arity (Tuple n) = n
