use Rattle.std.proofs.Common.{rules}
use Rattle.hm_lsp_positions.proofs.KnownStarts.{starts_first}
use Rattle.hm_lsp_positions.proofs.known_starts.first_start.Goals as goal

pub returns : goal.returns
returns c text = starts_first text c.push.new.self.items (search rules)
