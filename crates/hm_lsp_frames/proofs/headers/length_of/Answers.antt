use Rattle.std.proofs.Common.{◌∙◌, sym}
use Rattle.hm_lsp_frames.proofs.Fields.{first_value, no_value, second_value}
use Rattle.hm_lsp_frames.proofs.headers.length_of.Goals as goal
use Rattle.hm_lsp_frames.proofs.headers.length_of.Goals.{in-None, in-Some+else-is_some}

pub returns-then-is_some : goal.returns-then-is_some
returns-then-is_some c =
    second_value c.args.header.now c.places.at c.places.found c.in-Some.value.now c.places-test.true c.places.invariant (sym c.is_some.ensures ∙ c.if-is_some.true) c.in-Some.ensures

pub places-preserved : goal.places-preserved
places-preserved c =
    elim c.match-value_at.branch [
      | in-None w ↦ no_value c.args.header.now c.places.at c.places.found _ c.places.invariant w.in-None.ensures w.found-is
      | in-Some+else-is_some w ↦ first_value c.args.header.now c.places.at c.places.found _ w.in-Some.value c.places.invariant (sym w.is_some.ensures ∙ w.if-is_some.false) w.in-Some.ensures w.found-is
    ]
