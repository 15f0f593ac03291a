-- The texts of types, in the notation of the Haskell 98 Report, section 4.1.2.
use Rattle.std.specs.Prelude.{ℕ, ◌+◌, ◌/◌, ◌%◌, Bool, true, false, nat_lt, ◌&&◌, if◌then◌else◌, List, [], ◌∷◌, ◌++◌, codes}
use Rattle.std.specs.Fmt.{decimal}
use Rattle.hm_types.specs.declared.Entity.{Entity}
use Rattle.hm_types.specs.declared.Head.TheVariants.{Named, Arrow, Tuple}
use Rattle.hm_types.specs.declared.Head.TheVariants as head
use Rattle.hm_types_display.specs.declared.printing.Position.{Position}
use Rattle.hm_types_display.specs.declared.printing.Position.TheVariants.{Whole, Left, Argument}
use Rattle.hm_types.specs.Names.{is_prelude}
use Rattle.hm_types.specs.Types.{App as app, done as none, more, Var as leaf}
use Rattle.hm_types.specs.Monotypes.{Mono, Monos, var, rigid}
use Rattle.hm_types.specs.Schemes.{TypeScheme}

-- a to z, a1 to z1, a2 and so on
abbrev pub variable_text : ℕ → List ℕ
variable_text n = (97 + n % 26) ∷ (if nat_lt n 26 then [] else decimal (n / 26))

abbrev pub bracketed : Bool → List ℕ → List ℕ
bracketed b text = if b then (codes "(" ++ text ++ codes ")") else text

-- a function is in parentheses left of an arrow and as an argument of a type constructor
abbrev pub function_bracketed : Position → Bool
function_bracketed Whole = false
function_bracketed Left = true
function_bracketed Argument = true

-- a type constructor with arguments is in parentheses as an argument of another
abbrev pub applied_bracketed : Position → Bool
applied_bracketed Whole = false
applied_bracketed Left = false
applied_bracketed Argument = true

-- the name after its module
abbrev pub original_text : Entity → List ℕ
original_text e = e.«module» ++ codes "." ++ e.name

-- the name, without its module if that is Prelude
abbrev pub entity_text : Entity → List ℕ
entity_text e = if is_prelude e.«module» then e.name else original_text e

abbrev pub has_arguments : Monos → Bool
has_arguments none = false
has_arguments (more t ts) = true

abbrev mutual
  pub type_text : Position → Mono → List ℕ
  type_text p (leaf (var n)) = variable_text n
  type_text p (leaf (rigid n)) = variable_text n
  type_text p (app Arrow ts) = bracketed (function_bracketed p) (parted_text Left (codes " -> ") ts)
  type_text p (app head.List ts) = codes "[" ++ parted_text Whole (codes ", ") ts ++ codes "]"
  type_text p (app head.Unit ts) = codes "()"
  type_text p (app (Tuple n) ts) = codes "(" ++ parted_text Whole (codes ", ") ts ++ codes ")"
  type_text p (app (Named e) ts) = bracketed (applied_bracketed p && has_arguments ts) (entity_text e ++ rest_text Argument (codes " ") ts)

  -- the first type, and the others after it
  pub parted_text : Position → List ℕ → Monos → List ℕ
  parted_text p between none = []
  parted_text p between (more t ts) = type_text p t ++ rest_text Whole between ts

  -- each type after its separator
  pub rest_text : Position → List ℕ → Monos → List ℕ
  rest_text p between none = []
  rest_text p between (more t ts) = between ++ type_text p t ++ rest_text p between ts

abbrev pub scheme_text_of : TypeScheme → List ℕ
scheme_text_of s = type_text Whole s.body
