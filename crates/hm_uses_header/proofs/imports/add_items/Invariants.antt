use Rattle.std.proofs.Common.{drop}
use Rattle.std.specs.Prelude.{option_map}
use Rattle.hm_syntax.specs.declared.ast.ImportList.TheVariants as list
use Rattle.hm_uses.specs.Mentions.{items_mentions}
use Rattle.hm_uses_header.proofs.Listed.{InList}
use Rattle.hm_uses_header.specs.Adding.{Leaves}
use Rattle.hm_uses_header.proofs.imports.add_items.Given as goal

abbrev pub invariant-items : goal.invariant-items
invariant-items l = Leaves l.initial.found.items l.found.items (items_mentions (drop l.item-index l.items)) (items_mentions l.items) (InList (option_map (λ f. f.now) l.interface) (list.Only l.items))
