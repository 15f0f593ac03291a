use Rattle.std.proofs.Common.{◌≡◌, ◌+◌, ◌*◌, ◌++◌, drop, string_bytes}
use Rattle.hm_types.specs.Monotypes.{size, list_size, arguments_of}
use Rattle.hm_types.specs.Shape.{type_of, types_of}
use Rattle.hm_types_display.specs.Texts.{rest_text}
use Rattle.hm_types_display.proofs.printing.+text.Given as goal

abbrev pub decreases-write_type : goal.decreases-write_type
decreases-write_type l = 4 * size (type_of l.t.now)

abbrev pub decreases-write_applied : goal.decreases-write_applied
decreases-write_applied l = 4 * list_size (types_of l.arguments.now) + 3

abbrev pub decreases-write_function : goal.decreases-write_function
decreases-write_function l = 4 * list_size (types_of l.arguments.now) + 2

abbrev pub decreases-write_enclosed : goal.decreases-write_enclosed
decreases-write_enclosed l = 4 * list_size (types_of l.types.now) + 2

abbrev pub decreases-write_named : goal.decreases-write_named
decreases-write_named l = 4 * list_size (types_of l.arguments.now) + 2

abbrev pub decreases-write_parted : goal.decreases-write_parted
decreases-write_parted l = 4 * list_size (types_of l.types.now) + 1

abbrev pub decreases-write_rest : goal.decreases-write_rest
decreases-write_rest l = 4 * list_size (types_of l.types.now)

abbrev pub invariant-write_rest-loop-t : goal.invariant-write_rest-loop-t
invariant-write_rest-loop-t l =
    string_bytes l.out ++ rest_text l.position l.between (arguments_of (types_of (drop l.t-index l.types))) ≡
    string_bytes l.initial.out ++ rest_text l.position l.between (arguments_of (types_of l.types))
