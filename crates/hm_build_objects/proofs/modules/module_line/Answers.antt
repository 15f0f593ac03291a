use Rattle.std.proofs.Common.{ap, ◌∙◌}
use Rattle.serde_json.specs.Written.{has_float}
use Rattle.hm_build_objects.specs.Stating.{names_of, status_of}
use Rattle.hm_build_objects.proofs.Floats.{no_floats}
use Rattle.hm_build_objects.proofs.modules.module_line.Goals as goal

pub line_of-requires : goal.line_of-requires
line_of-requires c = ap has_float c.in_ok-value.ensures ∙ no_floats c.args.file.now c.args.program.now (status_of c.args.stated) (names_of c.args.stated)
