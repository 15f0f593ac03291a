-- The part of gathered records that clauses read.
use Rattle.std.specs.Prelude.{ℕ, List, Option, Some, None, sum_by}
use Rattle.std.specs.declared.sync.ledger.Share.{Share}
use Rattle.hm_store.specs.Records.{wrote_in}
use Rattle.hm_store.specs.declared.record.Record.{Record}
use Rattle.hm_store_shared.specs.declared.records.Records.{Records}

-- the records, in the order of the passes
abbrev pub records_in : Records → List Record
records_in r = r.items.items

-- the number of journal entries that the calls of these records wrote
abbrev pub written_in : List Record → ℕ
written_in rs = sum_by (λ r. wrote_in r.calls.items) rs

-- the parts of a share, if there is one
abbrev pub parts_in : {L : Type 0} → Option (Share L) → ℕ
parts_in None = 0
parts_in (Some s) = s.parts

-- the amount of a share, if there is one
abbrev pub amount_in : {L : Type 0} → Option (Share L) → ℕ
amount_in None = 0
amount_in (Some s) = s.amount
