-- The trees of modules may cross threads.
use denote.Param.Send.{IsSend, IsSync, sendable}
use Rattle.std.proofs.Crossing.{crosses}
use Rattle.hm_syntax.specs.contracts.ast.Module as Module
use Rattle.hm_syntax.proofs.ast.Alt.TheLaws.TheKnot.{crosses as expressions}
use Rattle.hm_syntax.proofs.ast.Pat.TheLaws.TheKnot.{crosses as patterns}
use Rattle.hm_syntax.proofs.ast.TypeExpr.TheLaws.TheKnot.{crosses as written_types}
use Rattle.hm_syntax.proofs.ast.Name.TheSendSync as Name
use Rattle.hm_syntax.proofs.ast.Literal.TheSendSync as Literal
use Rattle.hm_syntax.proofs.ast.LiteralKind.TheSendSync as LiteralKind
use Rattle.hm_syntax.proofs.ast.Export.TheSendSync as Export
use Rattle.hm_syntax.proofs.ast.Header.TheSendSync as Header
use Rattle.hm_syntax.proofs.ast.Import.TheSendSync as Import
use Rattle.hm_syntax.proofs.ast.ImportItem.TheSendSync as ImportItem
use Rattle.hm_syntax.proofs.ast.ImportList.TheSendSync as List
use Rattle.hm_syntax.proofs.ast.SubItems.TheSendSync as SubItems

ruleset parts_of_trees = (Name.the_send, Name.the_sync, Literal.the_send, Literal.the_sync, LiteralKind.the_send, LiteralKind.the_sync, Export.the_send, Export.the_sync, Header.the_send, Header.the_sync, Import.the_send, Import.the_sync, ImportItem.the_send, ImportItem.the_sync, List.the_send, List.the_sync, SubItems.the_send, SubItems.the_sync)

pub module_send : IsSend Module.the_row
module_send = search (parts_of_trees, expressions, patterns, written_types, crosses, sendable) depth 30 fits 5000

pub module_sync : IsSync Module.the_row
module_sync = search (parts_of_trees, expressions, patterns, written_types, crosses, sendable) depth 30 fits 5000
