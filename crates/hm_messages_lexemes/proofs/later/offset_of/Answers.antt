use Rattle.std.proofs.Common.{[], get_or, ap, arith}
use Rattle.hm_lex.specs.declared.token.Place.{Place}
use Rattle.hm_lex.proofs.Places.{place_more, step_line, step_column}
use Rattle.hm_messages_lexemes.proofs.later.offset_of.Goals as goal

pub bytes-preserved : goal.bytes-preserved
bytes-preserved c =
    let i = c.bytes.invariant in
    let b = get_or c.args.text.now c.bytes.at 0 in
    record {
      lines = omega (arith, i.lines, ap (λ (p : Place). p.line) c.past-here.ensures, step_line c.bytes.here b);
      columns = omega (arith, i.columns, ap (λ (p : Place). p.column) c.past-here.ensures, step_column c.bytes.here b);
      at_place = place_more [] c.args.text.now c.bytes.at c.bytes.here c.past-here.result c.bytes-test.true i.at_place c.past-here.ensures;
    }
