use Rattle.std.proofs.Common.{◌≡◌, ℕ, ◌<◌, ◌≤◌, [], drop, length, get_or, map, take}
use Rattle.hm_messages.specs.ModuleStarts.{start_of}
use Rattle.hm_messages.specs.Pages.{file_at, files_in, starts_in, texts_in}
use Rattle.hm_messages.proofs.Grouping.{AreGrouped}
use Rattle.hm_messages.proofs.files.pages_of.Given as goal

abbrev pub invariant-loop-number : goal.invariant-loop-number
invariant-loop-number l = record {
  texts : texts_in l.items.items ≡ map (λ s. s.items) (take l.number l.sources);
  files : (k : ℕ) → k < length (files_in l.items.items) → get_or (files_in l.items.items) k [] ≡ file_at (map (λ s. s.items) l.names) k;
  from_within : l.from ≤ length l.starts;
  starts : starts_in l.items.items ≡ map start_of (take l.from l.starts);
  grouped : AreGrouped l.number (drop l.number (map (λ s. s.items) l.sources)) (drop l.from l.starts);
}
