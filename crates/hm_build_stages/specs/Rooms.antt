-- The number of calls that a worker of a build may make.
use Rattle.std.specs.Prelude.{ℕ, ◌+◌, ◌*◌, List, length, sum_by}

-- for these imports: a claim and a publication or a failure for each module, a look-up for each import, the last claim, and a stop
abbrev pub room_of : List (List ℕ) → ℕ
room_of imports = 2 * length imports + sum_by length imports + 2
