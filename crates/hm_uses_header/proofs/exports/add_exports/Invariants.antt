use Rattle.std.proofs.Common.{drop}
use Rattle.hm_uses.specs.Mentions.{exports_mentions}
use Rattle.hm_uses_header.proofs.Exported.{Listed}
use Rattle.hm_uses_header.specs.Adding.{Leaves}
use Rattle.hm_uses_header.proofs.exports.add_exports.Given as goal

abbrev pub invariant-exports : goal.invariant-exports
invariant-exports l = Leaves l.initial.found.items l.found.items (exports_mentions (drop l.export-index l.exports)) (exports_mentions l.exports) (Listed l.tables l.exports)
