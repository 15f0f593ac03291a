-- The declarations of a binding group. Only functions of this crate and of inference cite it.
use Rattle.std.specs.Prelude.{◌≡◌, ℕ, ◌⊎◌, ◌↔◌, List, Contains}
use Rattle.hm_typing.specs.Names.{IsOneOf}
use Rattle.hm_graph_components.specs.Digraph.{Edge}
use Rattle.hm_infer_dependencies.specs.declared.members.Member.{Member}

-- the declarations of a node were added
abbrev pub AddsRow : ℕ → List ℕ → List Member → List Member → Type 0
AddsRow node row old new = (m : Member) → IsOneOf m new ↔ (IsOneOf m old ⊎ ((m.node ≡ node) × Contains row m.place))

-- the members are the declarations of the nodes of a group
abbrev pub AreMembersOf : List (List ℕ) → List ℕ → List Member → Type 0
AreMembersOf rows group members = (m : Member) → IsOneOf m members ↔ (IsOneOf m.node group × Edge rows m.node m.place)
