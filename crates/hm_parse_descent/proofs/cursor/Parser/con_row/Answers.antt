use Rattle.std.proofs.Common.{◌≡◌, List, true, ap, sym, ◌∙◌, rules}
use Rattle.hm_syntax.specs.Names.{Identifier}
use Rattle.hm_parse_grammar.specs.declared.symbol.Symbol.TheVariants.{Comma}
use Rattle.hm_parse_grammar.specs.Reading.Basics.{is_at, loop, behind}
use Rattle.hm_parse_grammar.specs.Reading.Headers.{con_at, next_con}
use Rattle.hm_parse_descent.proofs.Loops.{cons_go_on}
use Rattle.hm_parse_descent.proofs.cursor.Parser.con_row.Goals as goal

pub cons-preserved : goal.cons-preserved
cons-preserved c =
    let at : is_at Comma c.cons.self ≡ true = search rules in
    ap (λ (z : List Identifier). behind z (loop next_con c.con-in-cons.new.self)) c.in_ok-push.ensures.items
    ∙ (cons_go_on c.cons.items.items c.in_ok-con.field-0 c.cons.self c.con-in-cons.new.self at (ap con_at (sym c.skip.ensures) ∙ c.in_ok-con.ensures) ∙ c.cons.invariant)
