-- The modules of each source of a checked set.
use Rattle.std.specs.Prelude.{◌==◌, ℕ, List, [], ◌∷◌, drop, take, if◌then◌else◌}
use Rattle.hm_syntax.specs.declared.ast.Module.{Module}

-- the modules of a source. `part` has the numbers of the sources that are checked, and each has the next modules: as many as its count
abbrev pub modules_of : ℕ → List ℕ → List ℕ → List Module → List Module
modules_of source [] counts ms = []
modules_of source (n ∷ part) [] ms = []
modules_of source (n ∷ part) (k ∷ counts) ms = if n == source then take k ms else modules_of source part counts (drop k ms)
