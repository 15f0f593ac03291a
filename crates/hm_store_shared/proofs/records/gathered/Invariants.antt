use Rattle.std.proofs.Common.{◌≡◌, ◌≤◌, length, map}
use Rattle.hm_store.specs.declared.record.Record.{Record}
use Rattle.hm_store_shared.specs.Gathered.{amount_in, parts_in, written_in}
use Rattle.hm_store_shared.specs.Passes.{calls_of, worker_of}
use Rattle.hm_store_shared.proofs.records.gathered.Given as goal

abbrev pub invariant-loop-pass : goal.invariant-loop-pass
invariant-loop-pass g l = record {
  workers : map (λ (x : Record). x.worker) l.items.items ≡ map (λ p. worker_of p) l.yielded;
  calls : map (λ (x : Record). x.calls.items) l.items.items ≡ map (λ p. calls_of p) l.yielded;
  parts : length l.yielded ≤ parts_in l.all;
  apart : parts_in l.all ≤ g.L.Ledger.parts;
  amount : amount_in l.all ≡ written_in l.items.items;
}
