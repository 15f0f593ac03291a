-- Tables of local names: for each text, the depth of the outermost list of names that has it. No public clause names these.
use Rattle.std.specs.Prelude.{◌≡◌, ℕ, suc, ◌==◌, cond, List, [], ◌∷◌, Option, None, Some, option_map}
use Rattle.std.specs.HashMap.{HashMap, get_by_text}
use Rattle.std.specs.declared.string.String.{String}
use Rattle.std.specs.declared.alloc.Global.{Global}
use Rattle.std.specs.declared.hash.FoldHasher.{FoldHasher}
use Rattle.std.specs.declared.hash.BuildHasherDefault.{BuildHasherDefault}
use Rattle.hm_names.specs.Texts.{is_text_among}

-- the first of two options that has a value
abbrev pub or_else : {X : Type 0} → Option X → Option X → Option X
or_else (Some a) b = Some a
or_else None b = b

-- the option, or none if it is this depth
abbrev pub unless_at : ℕ → Option ℕ → Option ℕ
unless_at d None = None
unless_at d (Some k) = cond (k == d) None (Some k)

-- the place of the first list with the text
abbrev pub depth_of : List (List (List ℕ)) → List ℕ → Option ℕ
depth_of [] x = None
depth_of (g ∷ gs) x = cond (is_text_among x g) (Some 0) (option_map (λ n. suc n) (depth_of gs x))

-- the table has this place for each text
abbrev pub IsDepthTable : List (List (List ℕ)) → HashMap (String Global) ℕ (BuildHasherDefault FoldHasher) → Type 0
IsDepthTable groups table = (x : List ℕ) → get_by_text table x ≡ depth_of groups x
