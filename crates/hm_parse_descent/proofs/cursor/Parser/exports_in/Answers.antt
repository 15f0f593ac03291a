use Rattle.std.proofs.Common.{◌≡◌, List, false, ap, ◌∙◌, rules}
use Rattle.hm_syntax.specs.declared.ast.Export.{Export}
use Rattle.hm_parse_grammar.specs.declared.symbol.Symbol.TheVariants.{Close}
use Rattle.hm_parse_grammar.specs.Reading.Basics.{is_at, loop, behind}
use Rattle.hm_parse_grammar.specs.Reading.Headers.{next_export}
use Rattle.hm_parse_descent.proofs.Loops.{exports_go_on}
use Rattle.hm_parse_descent.proofs.cursor.Parser.exports_in.Goals as goal

pub exports-preserved : goal.exports-preserved
exports-preserved c =
    let more : is_at Close c.exports.self ≡ false = search rules in
    ap (λ (z : List Export). behind z (loop next_export c.item_end.new.self)) c.in_ok-push.ensures.items
    ∙ (exports_go_on c.exports.items.items c.in_ok-export.field-0 c.exports.self c.export.new.self c.item_end.new.self more c.in_ok-export.ensures c.in_ok-item_end.ensures ∙ c.exports.invariant)
