use Rattle.std.proofs.Common.{take, List, ◌⊎◌}
use Rattle.hm_names.specs.Bindings.{Pair, Adds}
use Rattle.hm_names.specs.Described.{ConstructorDescription}
use Rattle.hm_scope_export_items.specs.ExportGroups.{group_of, IsOfWhole, IsOfOwner}
use Rattle.hm_scope_entities.specs.Owners.{IsOwners}
use Rattle.hm_scope_export_items.specs.declared.export_groups.Selector.{Selector}
use Rattle.hm_names.proofs.AddedPairs.{ForEach}
use Rattle.hm_scope_export_items.proofs.export_groups.add_pairs.Given as goal

abbrev pub invariant-loop-pair : goal.invariant-loop-pair
invariant-loop-pair l = (ds : List ConstructorDescription) → IsOwners ds l.owners → (k : Selector) → Adds (group_of l.initial.groups k) (group_of l.groups k) (ForEach (λ (q p : Pair). IsOfWhole l.bare q k p ⊎ IsOfOwner ds q k p) (take l.pair-index l.pairs))
