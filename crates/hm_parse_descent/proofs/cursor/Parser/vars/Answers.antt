use Rattle.std.proofs.Common.{◌≡◌, List, true, ap, sym, ◌∙◌, rules}
use Rattle.hm_syntax.specs.Names.{Identifier}
use Rattle.hm_parse_grammar.specs.declared.symbol.Symbol.TheVariants.{Comma}
use Rattle.hm_parse_grammar.specs.Reading.Basics.{is_at, loop, behind, next_of}
use Rattle.hm_parse_grammar.specs.Reading.Expressions.{var_at}
use Rattle.hm_parse_descent.proofs.ExpressionLoops.{vars_go_on}
use Rattle.hm_parse_descent.proofs.cursor.Parser.vars.Goals as goal

pub vars-preserved : goal.vars-preserved
vars-preserved c =
    let at : is_at Comma c.vars.self ≡ true = search rules in
    ap (λ (z : List Identifier). behind z (loop (next_of var_at) c.var.new.self)) c.in_ok-push.ensures.items
    ∙ (vars_go_on c.vars.found.items c.in_ok-var.field-0 c.vars.self c.var.new.self at (ap var_at (sym c.skip.ensures) ∙ c.in_ok-var.ensures) ∙ c.vars.invariant)
