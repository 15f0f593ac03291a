-- What the thread of a question shares may cross threads.
use denote.Param.Send.{IsSend, IsSync, sendable}
use Rattle.std.proofs.Crossing.{crosses}
use Rattle.hm_types.proofs.monotypes.Types.TheLaws.TheKnot.{crosses as types}
use Rattle.hm_types.proofs.Text.TheSendSync as Text
use Rattle.hm_types.proofs.Entity.TheSendSync as Entity
use Rattle.hm_types.proofs.Head.TheSendSync as Head
use Rattle.hm_types.proofs.entries.TypeEntry.TheSendSync as TypeEntry
use Rattle.hm_types.specs.contracts.interfaces.Interface as Interface
use Rattle.hm_names.proofs.faults.Fault.TheSendSync as Fault
use Rattle.hm_run_parallel_parse.proofs.Crossing.{module_send, module_sync}
use Rattle.hm_verdicts.specs.contracts.outcome.Verdict as Verdict
use Rattle.hm_verdicts.specs.contracts.outcome.Outcome as Outcome
use Rattle.hm_store.specs.contracts.store.Store as Store
use Rattle.hm_store.proofs.object.Entry.TheSendSync as Entry
use Rattle.hm_store.proofs.object.Status.TheSendSync as Status

ruleset parts_of_types = (Text.the_send, Text.the_sync, Entity.the_send, Entity.the_sync, Head.the_send, Head.the_sync, TypeEntry.the_send, TypeEntry.the_sync)

interface_send : IsSend Interface.the_row
interface_send = search (types, parts_of_types, crosses, sendable) depth 30 fits 5000

interface_sync : IsSync Interface.the_row
interface_sync = search (types, parts_of_types, crosses, sendable) depth 30 fits 5000

verdict_field_sync : IsSync Verdict.the_field.row
verdict_field_sync = search (interface_send, interface_sync, Fault.the_sync, crosses, sendable) depth 30 fits 5000

outcome_sync : IsSync Outcome.the_row
outcome_sync = search (interface_send, interface_sync, module_send, module_sync, verdict_field_sync, crosses, sendable) depth 30 fits 5000

pub store_sync : IsSync Store.the_row
store_sync = search (outcome_sync, module_send, module_sync, Entry.the_field_sync, Status.the_field_sync, crosses, sendable) depth 30 fits 5000
