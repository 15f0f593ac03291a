use Rattle.std.proofs.Common.{drop}
use Rattle.std.specs.Prelude.{false}
use Rattle.hm_syntax.specs.declared.ast.Export.TheVariants as export
use Rattle.hm_syntax.specs.declared.ast.SubItems.TheVariants as subs
use Rattle.hm_uses.specs.declared.name_kind.NameKind.TheVariants.{Constructor}
use Rattle.hm_uses.specs.Mentions.{mentions}
use Rattle.hm_uses_header.proofs.Exported.{Item}
use Rattle.hm_uses_header.specs.Adding.{Leaves}
use Rattle.hm_uses_header.proofs.exports.add_parts.Given as goal

abbrev pub invariant-parts : goal.invariant-parts
invariant-parts l = Leaves l.initial.found.items l.found.items (mentions Constructor false (drop l.part-index l.parts)) (mentions Constructor false l.parts) (Item l.tables (export.Con l.of (subs.Some l.parts)))
