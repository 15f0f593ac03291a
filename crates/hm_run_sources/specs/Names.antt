-- The names of modules and of their imports, and the order of names by bytes.
use Rattle.std.specs.Prelude.{ℕ, Bool, List, [], map, slice_index_or}
use Rattle.std.specs.Ordering.{nat_cmp, is_lt}
use Rattle.std.specs.Cmp.Lexicographic.{slice_cmp}
use Rattle.hm_syntax.specs.declared.ast.Module.{Module}
use Rattle.hm_graph.specs.Outline.{Outline, outline}
use Rattle.hm_graph.specs.Imports.{Modules, imports_at}

abbrev pub name_below : List ℕ → List ℕ → Bool
name_below x y = is_lt (slice_cmp nat_cmp x y)

-- the outline of a module's header
abbrev pub module_outline : Module → Outline
module_outline m = outline m.header

abbrev pub module_outlines : List Module → List Outline
module_outlines modules = map module_outline modules

-- the name of import i of module m
abbrev pub import_at : Modules → ℕ → ℕ → List ℕ
import_at modules m i = slice_index_or (imports_at modules m) i []
