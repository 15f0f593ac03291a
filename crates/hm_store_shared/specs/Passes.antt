-- The parts of a pass that clauses read.
use Rattle.std.specs.Prelude.{ℕ, List}
use Rattle.std.specs.declared.sync.ledger.Share.{Share}
use Rattle.hm_store_published.specs.declared.history.Naming as Naming
use Rattle.hm_store_published.specs.declared.publication.Publication.{Publication}
use Rattle.hm_store.specs.declared.object.Entry.{Entry}
use Rattle.hm_store.specs.declared.record.Call.{Call}
use Rattle.hm_store_shared.specs.declared.passes.Pass.{Pass}

-- the number of its worker
abbrev pub worker_of : {L : Type 0} {J : Naming.Ghosts L} → Pass L J → ℕ
worker_of p = p.record.worker

-- the calls that returned, in order
abbrev pub calls_of : {L : Type 0} {J : Naming.Ghosts L} → Pass L J → List Call
calls_of p = p.record.calls.items

-- the number of calls that can still be made with it
abbrev pub room_of : {L : Type 0} {J : Naming.Ghosts L} → Pass L J → ℕ
room_of p = p.room

-- the ledger's share that counts the journal entries of its calls
abbrev pub share_of : {L : Type 0} {J : Naming.Ghosts L} → Pass L J → Share L
share_of p = p.share

-- the publications that it has seen, by look-ups or under the lock: a prefix of the list of all
abbrev pub seen_of : {L : Type 0} {J : Naming.Ghosts L} → Pass L J → List Publication
seen_of p = p.reader

-- the entries of the journal that it has seen, from its calls under the lock: a prefix of the list of all
abbrev pub known_of : {L : Type 0} {J : Naming.Ghosts L} → Pass L J → List Entry
known_of p = p.token.entries
