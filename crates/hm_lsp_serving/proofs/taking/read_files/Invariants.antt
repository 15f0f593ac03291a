use Rattle.std.proofs.Common.{map, string_bytes, take}
use Rattle.hm_lsp_server.specs.Servers.{IsOrderly}
use Rattle.hm_lsp_serving.specs.Taking.{AreRead}
use Rattle.hm_lsp_serving.proofs.taking.read_files.Given as goal

abbrev pub invariant-files : goal.invariant-files
invariant-files g l = IsOrderly l.serving.server × AreRead l.initial.serving.server (map string_bytes (take l.uri-index l.uris)) l.serving.server
