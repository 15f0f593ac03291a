use Rattle.std.proofs.Common.{◌≡◌, map, take, string_bytes}
use Rattle.std.specs.List.{flat_map}
use Rattle.hm_build_listing.specs.Listings.{line_block}
use Rattle.hm_build_listing.proofs.listings.settled_listing.Given as goal

abbrev pub invariant-loop-line : goal.invariant-loop-line
invariant-loop-line l = string_bytes l.text ≡ flat_map (λ b. b.text) (map line_block (take l.line-index l.line-items))
