use Rattle.std.proofs.Common.{refl}
use Rattle.std.specs.Prelude.{option_map}
use Rattle.std.specs.Borrow.{Bor}
use Rattle.hm_types.specs.Interfaces.{Exports as Interface}
use Rattle.hm_syntax.specs.declared.ast.ImportList.TheVariants as list
use Rattle.hm_uses.specs.Mentions.{hidden_mentions, all_hidden_mentions}
use Rattle.hm_uses_header.proofs.Steps.{row_none, row_more, row_all}
use Rattle.hm_uses_header.proofs.Listed.{InList, hidden_added}
use Rattle.hm_uses_header.proofs.imports.add_all_hidden.Goals as goal

pub items-init : goal.items-init
items-init c = row_none (InList (option_map (λ (f : Bor Interface). f.now) c.args.interface) (list.Hiding c.args.items.now)) hidden_mentions all_hidden_mentions (λ x rest. refl) refl c.args.found.now.items c.args.items.now

pub items-preserved : goal.items-preserved
items-preserved c =
    row_more (InList (option_map (λ (f : Bor Interface). f.now) c.args.interface) (list.Hiding c.args.items.now)) hidden_mentions all_hidden_mentions (λ x rest. refl) refl
    c.args.found.now.items c.items.found.items c.add_hidden.new.found.items c.args.items.now c.items.item-index c.item-item.result c.items-test.true c.item-item.is c.items.invariant
    (hidden_added (option_map (λ (f : Bor Interface). f.now) c.args.interface) c.items.found.items c.add_hidden.new.found.items c.args.items.now c.items.item-index c.item-item.result c.items-test.true c.item-item.is c.in_ok-add_hidden.ensures)

pub returns : goal.returns
returns c =
    row_all (InList (option_map (λ (f : Bor Interface). f.now) c.args.interface) (list.Hiding c.args.items.now)) hidden_mentions all_hidden_mentions (λ x rest. refl) refl
    c.args.found.now.items c.items.found.items c.args.items.now c.items.item-index c.items-test.false c.items.invariant
