use Rattle.std.proofs.Common.{◌≡◌, ◌++◌, drop, string_bytes}
use Rattle.hm_syntax.specs.Lists.{types}
use Rattle.hm_syntax.specs.Sizes.{type_size, types_size}
use Rattle.hm_build_objects.specs.TypeTexts.{each_text, mark_of}
use Rattle.hm_build_objects.proofs.type_texts.+written.Given as goal

abbrev pub decreases-write_type : goal.decreases-write_type
decreases-write_type l = type_size l.ty.now

abbrev pub decreases-write_each : goal.decreases-write_each
decreases-write_each l = types_size (types l.row.now)

abbrev pub invariant-write_each-row : goal.invariant-write_each-row
invariant-write_each-row l = string_bytes l.out ++ each_text l.side (mark_of l.is_first l.marks.0.now l.marks.1.now) l.marks.1.now (types (drop l.ty-index l.row)) ≡ string_bytes l.initial.out ++ each_text l.side l.marks.0.now l.marks.1.now (types l.row)
