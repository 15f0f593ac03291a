use Rattle.std.proofs.Common.{◌≡◌}
use Rattle.std.specs.Prelude.{flat_map, option_copied, option_to_list}
use Rattle.std.specs.List.{range_with_len}
use Rattle.hm_lsp_frames.specs.Headers.{value_at}
use Rattle.hm_lsp_frames.proofs.headers.length_of.Given as goal

abbrev pub invariant-places : goal.invariant-places
invariant-places l = flat_map (λ k. option_to_list (value_at l.header k)) (range_with_len 0 l.at) ≡ option_to_list (option_copied l.found)
