-- Sets of variables, each with its place among those of its kind.
use Rattle.std.specs.Prelude.{◌≡◌, Bool, true, ◌↔◌, ◌⊎◌}
use Rattle.hm_types.specs.Monotypes.{Leaf, var, rigid}
use Rattle.hm_types.specs.Schemes.{is_among}
use Rattle.hm_infer_generalisation.specs.declared.collecting.Collected.{Collected}

-- whether the variable was added
abbrev pub has_leaf : Collected → Leaf → Bool
has_leaf c (var n) = is_among n c.plain
has_leaf c (rigid n) = is_among n c.rigid

-- the variables for which P holds were added
pub record Gathers (P : Leaf → Type 0) (before after : Collected) : Type 0 where
  pub has : (l : Leaf) → (has_leaf after l ≡ true) ↔ ((has_leaf before l ≡ true) ⊎ P l)
