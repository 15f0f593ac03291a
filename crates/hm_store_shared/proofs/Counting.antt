-- The entries that the calls of records wrote.
use Rattle.std.proofs.Common.{◌≡◌, ◌+◌, List, [], ◌∷◌, ◌++◌, arith}
use Rattle.std.proofs.lemmas.List.Sums.{sum_by-append}
use Rattle.hm_store.specs.Records.{wrote_in}
use Rattle.hm_store.specs.declared.record.Record.{Record}
use Rattle.hm_store_shared.specs.Gathered.{written_in}

pub written_more : (rs : List Record) (r : Record) → written_in (rs ++ r ∷ []) ≡ written_in rs + wrote_in r.calls.items
written_more rs r = omega (arith, sum_by-append (λ (x : Record). wrote_in x.calls.items) rs (r ∷ []))
