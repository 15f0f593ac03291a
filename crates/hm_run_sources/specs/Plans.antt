-- The text of an import plan.
use Rattle.std.specs.Prelude.{◌≡◌, ℕ, ◌<◌, Bool, List, [], ◌++◌, codes, map, length, slice_index_or}
use Rattle.std.specs.Fmt.{decimal}
use Rattle.std.specs.List.{flat_map}
use Rattle.std.specs.List.Sorted.{IsPermutation, IsSortedBy}
use Rattle.hm_graph.specs.Outline.{Outline}
use Rattle.hm_graph.specs.Imports.{name_at}
use Rattle.hm_run_sources.specs.Names.{name_below}

-- the block of a module: its name, and the names of the modules that it imports
pub record Block : Type 0 where
  pub name : List ℕ
  pub imports : List (List ℕ)

abbrev pub import_line : List ℕ → List ℕ
import_line name = codes "  import " ++ (name ++ codes "\n")

abbrev pub block_text : Block → List ℕ
block_text b = codes "module " ++ (b.name ++ codes "\n") ++ flat_map import_line b.imports

abbrev pub count_line : ℕ → List ℕ
count_line n = decimal n ++ codes " modules\n"

-- the names, ordered
pub record AreOrdered (names ordered : List (List ℕ)) : Type 0 where
  pub same : IsPermutation names ordered
  pub sorted : IsSortedBy name_below ordered

-- the block of the module with this name that imports the modules with these numbers
pub record IsBlockOf (modules : List Outline) (name : List ℕ) (row : List ℕ) (b : Block) : Type 0 where
  pub named : b.name ≡ name
  pub ordered : AreOrdered (map (name_at modules) row) b.imports

-- the blocks of the modules, in the modules' order
pub record AreBlocksOf (modules : List Outline) (rows : List (List ℕ)) (blocks : List Block) : Type 0 where
  pub long : length blocks ≡ length modules
  pub each : (m : ℕ) (d : Block) → m < length blocks → IsBlockOf modules (name_at modules m) (slice_index_or rows m []) (slice_index_or blocks m d)

abbrev pub block_below : Block → Block → Bool
block_below x y = name_below x.name y.name

-- the text of a plan: the blocks ordered by name, and the count
pub record IsPlanText (modules : List Outline) (rows : List (List ℕ)) (text : List ℕ) : Type 0 where
  pub blocks : List Block
  pub ordered : List Block
  pub made : AreBlocksOf modules rows blocks
  pub same : IsPermutation blocks ordered
  pub sorted : IsSortedBy block_below ordered
  pub whole : text ≡ flat_map block_text ordered ++ count_line (length modules)
