use Rattle.std.proofs.Common.{◌≡◌, List, false, ap, ◌∙◌, rules}
use Rattle.hm_syntax.specs.declared.ast.ImportItem.{ImportItem}
use Rattle.hm_parse_grammar.specs.declared.symbol.Symbol.TheVariants.{Close}
use Rattle.hm_parse_grammar.specs.Reading.Basics.{is_at, loop, behind}
use Rattle.hm_parse_grammar.specs.Reading.Headers.{next_item}
use Rattle.hm_parse_descent.proofs.Loops.{items_go_on}
use Rattle.hm_parse_descent.proofs.cursor.Parser.items_in.Goals as goal

pub items-preserved : goal.items-preserved
items-preserved c =
    let more : is_at Close c.items.self ≡ false = search rules in
    ap (λ (z : List ImportItem). behind z (loop next_item c.item_end.new.self)) c.in_ok-push.ensures.items
    ∙ (items_go_on c.items.items.items c.in_ok-item.field-0 c.items.self c.item.new.self c.item_end.new.self more c.in_ok-item.ensures c.in_ok-item_end.ensures ∙ c.items.invariant)
