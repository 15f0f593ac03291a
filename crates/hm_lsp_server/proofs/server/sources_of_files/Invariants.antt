use Rattle.hm_lsp_server.proofs.Begun.{IsBegun}
use Rattle.hm_lsp_server.proofs.server.sources_of_files.Given as goal

abbrev pub invariant-files : goal.invariant-files
invariant-files g l = IsBegun l.initial.file-iterator.rest.items l.file-iterator.rest.items l.sources
