-- The worked changed sources.
use Rattle.std.proofs.Common.{◌≡◌, refl, ap, List, [], All, ℕ, length, arith}
use Rattle.std.specs.Prelude.{codes}
use Rattle.std.proofs.lemmas.List.Elements.{All-nil}
use Rattle.hm_messages_changes.specs.Probes.{IsWritten}
use Rattle.hm_messages_copies.specs.Worked.{FunctionsRow, NestedRow, SourcesRow, h}

pub worked_functions : FunctionsRow
worked_functions = record {
  argument = refl;
  with_signature = refl;
  parameter = refl;
  inside = refl;
  local_name = refl;
}

pub worked_sources : SourcesRow
worked_sources = record {
  exported = refl;
  whole = refl;
  not_listed = λ e. absurd (omega (arith, ap length e));
}

none_written : (source name : List ℕ) → All (IsWritten source name) []
none_written source name = All-nil (IsWritten source name)

pub worked_nested : NestedRow
worked_nested = record {
  inside = (omega arith, (omega arith, ((none_written h (codes "h"), none_written h (codes "h")), (omega arith, (omega arith, ((none_written h (codes "g"), none_written h (codes "g")), (omega arith, omega arith)))))));
  outside = λ n. absurd (omega (arith, n.1.1.1.1));
}
