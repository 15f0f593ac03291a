use Rattle.std.proofs.Common.{◌≡◌, List, true, ap, sym, ◌∙◌, rules}
use Rattle.hm_syntax.specs.Trees.{DataConstructor}
use Rattle.hm_parse_grammar.specs.declared.symbol.Symbol.TheVariants.{Bar}
use Rattle.hm_parse_grammar.specs.Reading.Basics.{is_at, loop, behind}
use Rattle.hm_parse_grammar.specs.Reading.TypeDeclarations.{constr_at, next_constr}
use Rattle.hm_parse_descent.proofs.TypeDeclarationLoops.{constrs_go_on}
use Rattle.hm_parse_descent.proofs.cursor.Parser.constrs.Goals as goal

pub constrs-preserved : goal.constrs-preserved
constrs-preserved c =
    let at : is_at Bar c.constrs.self ≡ true = search rules in
    ap (λ (z : List DataConstructor). behind z (loop next_constr c.constr-in-constrs.new.self)) c.in_ok-push.ensures.items
    ∙ (constrs_go_on c.constrs.found.items c.in_ok-constr.field-0 c.constrs.self c.constr-in-constrs.new.self at (ap constr_at (sym c.skip.ensures) ∙ c.in_ok-constr.ensures) ∙ c.constrs.invariant)
