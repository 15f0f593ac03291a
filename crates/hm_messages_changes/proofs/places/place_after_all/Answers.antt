use Rattle.std.proofs.Common.{[], get_or, ap, ◌∙◌, arith}
use Rattle.std.proofs.lemmas.List.{take_all}
use Rattle.hm_lex.specs.declared.token.Place.{Place}
use Rattle.hm_lex.specs.Cut.{place_after}
use Rattle.hm_lex.proofs.Places.{place_more, step_line, step_column}
use Rattle.hm_messages_changes.proofs.places.place_after_all.Goals as goal

pub loop-byte-preserved : goal.loop-byte-preserved
loop-byte-preserved c =
    let i = c.loop-byte.invariant in
    let b = get_or c.args.text.now c.loop-byte.byte-index 0 in
    record {
      lines = omega (arith, i.lines, ap (λ (p : Place). p.line) c.past-place.ensures, step_line c.loop-byte.place b);
      columns = omega (arith, i.columns, ap (λ (p : Place). p.column) c.past-place.ensures, step_column c.loop-byte.place b);
      at_place = place_more [] c.args.text.now c.loop-byte.byte-index c.loop-byte.place c.past-place.result c.loop-byte-test.true i.at_place c.past-place.ensures;
    }

pub returns : goal.returns
returns c = c.loop-byte.invariant.at_place ∙ ap place_after (take_all c.loop-byte.byte-index c.args.text.now (omega arith))
