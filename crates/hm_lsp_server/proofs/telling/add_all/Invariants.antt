use Rattle.std.proofs.Common.{◌≡◌, ◌++◌, take}
use Rattle.hm_lsp_server.proofs.telling.add_all.Given as goal

abbrev pub invariant-more : goal.invariant-more
invariant-more l = l.found.items ≡ l.initial.found.items ++ take l.diagnostic-index l.more
