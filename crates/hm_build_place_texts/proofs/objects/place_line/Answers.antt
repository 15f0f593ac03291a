use Rattle.std.proofs.Common.{ap, ◌∙◌}
use Rattle.serde_json.specs.Written.{has_float}
use Rattle.hm_build_place_texts.specs.Facts.{facts_of}
use Rattle.hm_build_place_texts.proofs.Floats.{no_floats}
use Rattle.hm_build_place_texts.proofs.objects.place_line.Goals as goal

pub line_of-requires : goal.line_of-requires
line_of-requires c = ap has_float c.in_ok-value.ensures ∙ no_floats (facts_of c.args.found.now)
