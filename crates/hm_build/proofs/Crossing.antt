-- What the threads of a build share or are given may cross threads.
use Rattle.std.proofs.Common.{[], ◌∷◌}
use denote.RattleType.{RattleType}
use denote.Ref.{NamedLft}
use mir.Syntax.{Sym}
use denote.Struct.Declared.{shape}
use denote.Struct.Struct.{Struct}
use denote.Struct.Tuple.{TupleAt, type_at}
use denote.Param.Send.{AllSend, IsSend, IsSync, recorded_send, sendable, struct_send}
use denote.Param.SendFields.{declared_sync}
use Rattle.std.proofs.Crossing.{crosses}
use Rattle.std.proofs.Crossing as heap
use Rattle.std.specs.contracts.alloc.Global as Heap
use Rattle.std.specs.contracts.impls.GlobalAllocator.TheImpl.{ghosts}
use Rattle.left_right.specs.contracts.handles.ReadHandle as ReadHandle
use Rattle.left_right.specs.contracts.handles.WriteHandle as WriteHandle
use Rattle.left_right.specs.declared.Absorb.{Ghosts as Absorbs}
use Rattle.left_right.proofs.handles.ReadHandle.TheSendSync as ReadHandleFacts
use Rattle.left_right.proofs.handles.WriteHandle.TheSendSync as WriteHandleFacts
use Rattle.hm_types.specs.contracts.interfaces.Interface as Interface
use Rattle.hm_types.proofs.monotypes.Types.TheLaws.TheKnot.{crosses as types}
use Rattle.hm_run_parallel_parse.proofs.Crossing.{module_send, module_sync}
use Rattle.hm_verdicts.specs.contracts.outcome.Verdict as Verdict
use Rattle.hm_verdicts.specs.contracts.outcome.Outcome as Outcome
use Rattle.hm_store.specs.contracts.record.Call as Call
use Rattle.hm_store.specs.contracts.record.Act as Act
use Rattle.hm_store_shared.specs.contracts.passes.Pass as Pass
use Rattle.hm_store.specs.contracts.record.Record as Record
use Rattle.hm_store.specs.contracts.store.Store as Store
use Rattle.hm_store_shared.specs.contracts.shared.Shared as Shared
use Rattle.hm_store_shared.specs.contracts.shared.Locked as Locked
use Rattle.hm_store_shared.specs.contracts.listed.Listed as Listed
use Rattle.hm_store_published.specs.contracts.history.Front as Front
use Rattle.hm_store_journal.specs.contracts.journal.Journal as Journal
use Rattle.hm_store_journal.specs.contracts.journal.Known as Known
use Rattle.hm_store_published.specs.contracts.published.Published as Published
use Rattle.hm_store_published.specs.contracts.published.Step as Step
use Rattle.hm_store_published.specs.contracts.reading.Reader as Reader
use Rattle.hm_store_published.specs.declared.history.Naming.{Ghosts as Names}
use Rattle.hm_store.proofs.object.Entry.TheSendSync as Entry
use Rattle.hm_store.proofs.object.Status.TheSendSync as Status
use Rattle.hm_build_stages.specs.contracts.finished_build.Finished as Finished
use Rattle.hm_store_shared.specs.contracts.records.Records as Records
use Rattle.hm_build.specs.contracts.workers.Work as Work
use Rattle.hm_types_prelude.specs.contracts.shared_prelude.SharedPrelude as SharedPrelude
use Rattle.core.specs.declared.ledger.Ledger.{Ghosts}
use Rattle.hm_store_published.proofs.history.Front.TheSendSync as FrontFacts
use Rattle.atomic_table.proofs.send_lease.SendLease.TheSendSync as LeaseFacts
use Rattle.atomic_table.proofs.shared.Seat.TheSendSync as SeatFacts
use Rattle.atomic_table.proofs.shared.Shared.TheSendSync as TableFacts
use Rattle.logbook.proofs.word.Word.TheSendSync as Word
use Rattle.core.proofs.ledger.Share.TheSendSync as Share
use Rattle.core.proofs.ledger.Book.TheSendSync as Book
use Rattle.hm_types.proofs.Text.TheSendSync as Text
use Rattle.hm_types.proofs.Entity.TheSendSync as Entity
use Rattle.hm_types.proofs.Head.TheSendSync as Head
use Rattle.hm_types.proofs.entries.TypeEntry.TheSendSync as TypeEntry
use Rattle.hm_names.proofs.faults.Fault.TheSendSync as Fault

-- a closure with three captures
pub captures_send : (ν : Sym) (A B C : RattleType) → IsSend A → IsSend B → IsSend C → IsSend (TupleAt ν (A ∷ B ∷ C ∷ []))
captures_send ν A B C a b c =
    let T = type_at ν (A ∷ B ∷ C ∷ []) in
    let all : AllSend (A ∷ B ∷ C ∷ []) = (a, (b, (c, tt))) in
    recorded_send (Struct (shape T)) T.D T.to T.to_one (struct_send (shape T) all)

ruleset parts_of_types = (Text.the_send, Text.the_sync, Entity.the_send, Entity.the_sync, Head.the_send, Head.the_sync, TypeEntry.the_send, TypeEntry.the_sync)

pub interface_send : IsSend Interface.the_row
interface_send = search (types, parts_of_types, crosses, sendable) depth 30 fits 5000

pub interface_sync : IsSync Interface.the_row
interface_sync = search (types, parts_of_types, crosses, sendable) depth 30 fits 5000

pub prelude_sync : IsSync SharedPrelude.the_row
prelude_sync = search (interface_send, interface_sync, crosses, sendable) depth 30 fits 5000

pub verdict_field_send : IsSend Verdict.the_field.row
verdict_field_send = search (interface_send, interface_sync, Fault.the_send, crosses, sendable) depth 30 fits 5000

pub outcome_send : IsSend Outcome.the_row
outcome_send = search (interface_send, interface_sync, module_send, module_sync, verdict_field_send, crosses, sendable) depth 30 fits 5000

pub verdict_field_sync : IsSync Verdict.the_field.row
verdict_field_sync = search (interface_send, interface_sync, Fault.the_sync, crosses, sendable) depth 30 fits 5000

pub outcome_sync : IsSync Outcome.the_row
outcome_sync = search (interface_send, interface_sync, module_send, module_sync, verdict_field_sync, crosses, sendable) depth 30 fits 5000

pub act_field_sync : IsSync Act.the_field.row
act_field_sync = search (interface_send, interface_sync, crosses, sendable) depth 30 fits 5000

pub call_field_sync : IsSync Call.the_field.row
call_field_sync = search (act_field_sync, crosses, sendable) depth 30 fits 5000

pub record_field_sync : IsSync Record.the_field.row
record_field_sync = search (call_field_sync, crosses, sendable) depth 30 fits 5000

pub records_field_sync : IsSync Records.the_field.row
records_field_sync = search (record_field_sync, crosses, sendable) depth 30 fits 5000

pub store_sync : IsSync Store.the_row
store_sync = search (outcome_sync, module_send, module_sync, Entry.the_field_sync, Status.the_field_sync, crosses, sendable) depth 30 fits 5000

pub finished_sync : IsSync Finished.the_row
finished_sync = search (store_sync, records_field_sync, crosses, sendable) depth 30 fits 5000

pub act_field_send : IsSend Act.the_field.row
act_field_send = search (interface_send, interface_sync, crosses, sendable) depth 30 fits 5000

pub call_field_send : IsSend Call.the_field.row
call_field_send = search (act_field_send, crosses, sendable) depth 30 fits 5000

pub store_send : IsSend Store.the_row
store_send = search (outcome_send, module_send, module_sync, Entry.the_field_send, Status.the_field_send, crosses, sendable) depth 30 fits 5000

pub record_field_send : IsSend Record.the_field.row
record_field_send = search (call_field_send, crosses, sendable) depth 30 fits 5000

pub records_field_send : IsSend Records.the_field.row
records_field_send = search (record_field_send, crosses, sendable) depth 30 fits 5000

pub finished_send : IsSend Finished.the_row
finished_send = search (store_send, module_send, module_sync, records_field_send, crosses, sendable) depth 30 fits 5000

module _ (L : RattleType) (l : Ghosts L.Denot) (j : Names L.Denot) (send : IsSend L) (sync : IsSync L) where
  front_send : IsSend (Front.the_row L j)
  front_send = search (FrontFacts.the_send, crosses, sendable) depth 30 fits 5000

  front_sync : IsSync (Front.the_row L j)
  front_sync = search (FrontFacts.the_sync, crosses, sendable) depth 30 fits 5000

  journal_send : IsSend (Journal.the_row L j)
  journal_send = search (Entry.the_send, SeatFacts.the_send, TableFacts.the_send, LeaseFacts.the_send, heap.send, heap.frees, crosses, sendable) depth 30 fits 5000

  known_send : IsSend (Known.the_row L j)
  known_send = search (Entry.the_send, SeatFacts.the_send, crosses, sendable) depth 30 fits 5000

  published_send : IsSend (Published.the_row L j)
  published_send = search (front_send, interface_send, interface_sync, crosses, sendable) depth 30 fits 5000

  published_sync : IsSync (Published.the_row L j)
  published_sync = search (front_sync, interface_send, interface_sync, crosses, sendable) depth 30 fits 5000

  step_send : IsSend (Step.the_row L j)
  step_send = search (front_send, interface_send, interface_sync, crosses, sendable) depth 30 fits 5000

  entrance_send : IsSend (ReadHandle.the_field (Published.the_row L j) Heap.the_row ghosts).row
  entrance_send = ReadHandleFacts.the_field_send (Published.the_row L j) Heap.the_row ghosts heap.send published_sync heap.sync heap.frees

  reader_send : IsSend (Reader.the_row L j)
  reader_send = search (entrance_send, front_send, crosses, sendable) depth 30 fits 5000

  pub pass_send : IsSend (Pass.the_row L j l)
  pass_send = search (call_field_send, reader_send, known_send, Share.the_send, crosses, sendable) depth 30 fits 5000

  listed_send : IsSend (Listed.the_row L j)
  listed_send = search (store_send, front_send, Word.the_send, crosses, sendable) depth 30 fits 5000

  module _ (W S : RattleType) (absorbs : Absorbs (Published.the_row L j).Denot (Step.the_row L j).Denot S.Denot) (held : IsSend W) where
    pages_send : IsSend (WriteHandle.the_field (Published.the_row L j) (Step.the_row L j) W Heap.the_row S absorbs ghosts).row
    pages_send = WriteHandleFacts.the_field_send (Published.the_row L j) (Step.the_row L j) W Heap.the_row S absorbs ghosts published_send step_send held heap.send published_sync heap.sync heap.frees

    locked_send : IsSend (Locked.the_row L W S j absorbs l)
    locked_send = search (listed_send, pages_send, journal_send, Book.the_send, crosses, sendable) depth 30 fits 5000

    shared_sync : IsSync (Shared.the_row L W S j absorbs l)
    shared_sync = search (locked_send, crosses, sendable) depth 30 fits 5000

    module _ (κ : NamedLft) (G : RattleType) where
      pub work_sync : IsSync G → IsSync (Work.the_row κ L G W S j absorbs l)
      work_sync gate =
          declared_sync (Work.the_type κ L G W S j absorbs l) (
            search (crosses, sendable) depth 30,
            (
              search (shared_sync, sendable) depth 30,
              (
                search (module_send, module_sync, crosses, sendable) depth 30 fits 5000,
                (
                  search (crosses, sendable) depth 30,
                  (search (gate, sendable) depth 30, (search (crosses, sendable) depth 30, (search (prelude_sync, sendable) depth 30, (search (outcome_sync, crosses, sendable) depth 30 fits 5000, tt)))),
                ),
              ),
            ),
          )
