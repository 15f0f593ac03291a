use Rattle.std.proofs.Common.{◌≤◌, length, map, take}
use Rattle.hm_service_rename.specs.Replaced.{AreFirstReplaced}
use Rattle.hm_service_rename.proofs.texts.renamed_texts.Given as goal

abbrev pub invariant-texts : goal.invariant-texts
invariant-texts l = (l.from ≤ length l.references) × AreFirstReplaced (map (λ s. s.items) l.texts) l.name l.source (take l.from l.references) (map (λ s. s.items) l.made.items)
