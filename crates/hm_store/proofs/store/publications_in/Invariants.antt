use Rattle.std.proofs.Common.{◌≡◌, count_by, take}
use Rattle.hm_store.specs.Objects.{is_publication}
use Rattle.hm_store.proofs.store.publications_in.Given as goal

abbrev pub invariant-loop-entry : goal.invariant-loop-entry
invariant-loop-entry l = l.count ≡ count_by is_publication (take l.entry-index l.entries)
