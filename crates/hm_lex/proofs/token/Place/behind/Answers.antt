use Rattle.std.proofs.Common.{sym, ◌∙◌, subst}
use Rattle.hm_lex.specs.declared.item.Item.{Item}
use Rattle.hm_lex.specs.Cut.{shape_of}
use Rattle.hm_lex.specs.Shapes.{HasShape}
use Rattle.hm_lex.proofs.OneLine.{behind_one_line}
use Rattle.hm_lex.proofs.token.Place.behind.Goals as goal

pub returns-in-Lexeme : goal.returns-in-Lexeme
returns-in-Lexeme c = λ before e.
    behind_one_line c.in-Lexeme.kind c.args.text.now before c.args.self (sym c.has_one_line.ensures ∙ c.if-has_one_line.true)
    (subst (λ (i : Item). HasShape (shape_of i) c.args.text.now) c.in-Lexeme.is c.requires.shape) e
