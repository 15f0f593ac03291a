-- The table of local variables: for each text, its bindings. No public clause names these.
use Rattle.std.specs.Prelude.{◌≡◌, ℕ, cond, List, [], ◌∷◌, ◌++◌, length, slice_get, ◌-◌, Option, None, Some}
use Rattle.std.specs.Borrow.{Bor}
use Rattle.std.specs.HashMap.{HashMap, get_by}
use Rattle.std.specs.Str.{bytes_eq}
use Rattle.std.specs.declared.vec.Vec.{Vec}
use Rattle.std.specs.declared.alloc.Global.{Global}
use Rattle.std.specs.declared.hash.FoldHasher.{FoldHasher}
use Rattle.std.specs.declared.hash.BuildHasherDefault.{BuildHasherDefault}
use Rattle.hm_lex.specs.declared.token.Place.{Place}
use Rattle.hm_syntax.specs.Names.{Identifier}
use Rattle.hm_names.specs.Texts.{same_text}
use Rattle.hm_uses_declarations.specs.declared.locals.Binding.{Binding}

abbrev pub Table : Type 0
Table = HashMap (Bor (List ℕ)) (Vec Binding Global) (BuildHasherDefault FoldHasher)

abbrev pub listed : Option (Vec Binding Global) → List Binding
listed None = []
listed (Some v) = v.items

-- the bindings that the table has for a text, the innermost one last
abbrev pub bindings_of : Table → Bor (List ℕ) → List Binding
bindings_of table x = listed (get_by (λ k. bytes_eq x.now k.now) table)

abbrev pub last_of : List Binding → Option Binding
last_of bs = slice_get bs (length bs - 1)

abbrev pub place_of : Identifier → Place
place_of n = record { line = n.line; column = n.column }

abbrev pub binding_at : ℕ → Identifier → Binding
binding_at d n = record { place = place_of n; depth = d }

-- the bindings of a text in one list, the first one last
abbrev pub bound_in : ℕ → List ℕ → List Identifier → List Binding
bound_in d x [] = []
bound_in d x (n ∷ ns) = bound_in d x ns ++ cond (same_text n.text x) (binding_at d n ∷ []) []

-- the bindings of a text in lists, the innermost one last
abbrev pub bound_around : List (List Identifier) → List ℕ → List Binding
bound_around [] x = []
bound_around (g ∷ gs) x = bound_around gs x ++ bound_in (length gs) x g

-- the table has the bindings of these lists, of which the innermost one is first
abbrev pub IsTable : List (List Identifier) → Table → Type 0
IsTable gs table = (x : Bor (List ℕ)) → bindings_of table x ≡ bound_around gs x.now
