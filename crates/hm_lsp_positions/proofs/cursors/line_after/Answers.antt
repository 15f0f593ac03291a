use Rattle.std.proofs.Common.{arith}
use Rattle.hm_lsp_positions.proofs.Walking.{next_of}
use Rattle.hm_lsp_positions.proofs.cursors.line_after.Goals as goal

pub overflow_add-line : goal.overflow_add-line
overflow_add-line c =
    let next = next_of c.args.text.now c.args.line c.args.next c.requires.line c.requires.next in
    let few = next.few in
    omega (arith, few)

pub line_from-requires-clause-starts : goal.line_from-requires-clause-starts
line_from-requires-clause-starts c = (next_of c.args.text.now c.args.line c.args.next c.requires.line c.requires.next).starts

pub line_from-requires-clause-within : goal.line_from-requires-clause-within
line_from-requires-clause-within c = (next_of c.args.text.now c.args.line c.args.next c.requires.line c.requires.next).within

pub line_from-requires-clause-few : goal.line_from-requires-clause-few
line_from-requires-clause-few c = (next_of c.args.text.now c.args.line c.args.next c.requires.line c.requires.next).few

pub returns-clause-later : goal.returns-clause-later
returns-clause-later c =
    let low = (next_of c.args.text.now c.args.line c.args.next c.requires.line c.requires.next).later in
    let at = c.line_from.ensures.start in
    omega (arith, low, at)

pub returns-clause-within : goal.returns-clause-within
returns-clause-within c =
    let low = (next_of c.args.text.now c.args.line c.args.next c.requires.line c.requires.next).within in
    let at = c.line_from.ensures.start in
    omega (arith, low, at)
