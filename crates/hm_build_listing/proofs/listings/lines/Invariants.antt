use Rattle.std.proofs.Common.{◌≡◌, ◌<◌, ℕ, length, map, get_or, string_bytes}
use Rattle.hm_verdicts.specs.Reports.{Block}
use Rattle.hm_build_reports.specs.Settling.{module_set, statuses_of}
use Rattle.hm_build_listing.specs.Listings.{IsLineOf, file_of, line_block}
use Rattle.hm_build_listing.proofs.listings.lines.Given as goal

abbrev pub invariant-loop-number : goal.invariant-loop-number
invariant-loop-number l = (length (map line_block l.lines.items) ≡ l.number)
    × ((k : ℕ) (d : Block) → k < length (map line_block l.lines.items) → IsLineOf (file_of (map string_bytes l.set.names.now) l.set.origins.now) (module_set l.set.modules.now l.set.plan.now) (statuses_of l.set.settled.now) k (get_or (map line_block l.lines.items) k d))
