use Rattle.hm_lsp_positions.proofs.Walking.{line_last, line_with}
use Rattle.hm_lsp_positions.proofs.cursors.line_from.Goals as goal

pub returns-in-Some-clause-line : goal.returns-in-Some-clause-line
returns-in-Some-clause-line c =
    line_with c.args.text.now c.args.number c.args.start c.line_length-size.result c.in-Some.whole c.requires.starts c.requires.within c.requires.few c.line_length-size.ensures.value c.line_length-size.ensures.within c.in-Some.ensures.value
    c.in-Some.ensures.some c.in-Some.ensures.within

pub returns-in-None-clause-line : goal.returns-in-None-clause-line
returns-in-None-clause-line c =
    line_last c.args.text.now c.args.number c.args.start c.line_length-size.result c.requires.starts c.requires.within c.requires.few c.line_length-size.ensures.value c.line_length-size.ensures.within c.in-None.ensures.value
