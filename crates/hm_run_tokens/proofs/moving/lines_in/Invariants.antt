use Rattle.std.proofs.Common.{◌≡◌, ◌≤◌, take}
use Rattle.std.specs.List.{count_by}
use Rattle.hm_lex.specs.Cut.{is_line_end}
use Rattle.hm_run_tokens.proofs.moving.lines_in.Given as goal

abbrev pub invariant-bytes : goal.invariant-bytes
invariant-bytes l = (l.lines ≡ count_by is_line_end (take l.number l.text)) × (l.lines ≤ l.number)
