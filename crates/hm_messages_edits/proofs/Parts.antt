-- The parts of a mend are in the source.
use Rattle.std.proofs.Common.{List, ℕ}
use Rattle.hm_types.specs.Interfaces.{Exports as Interface}
use Rattle.hm_messages_trials.specs.Mends.{IsMend}
use Rattle.hm_messages_trials.specs.declared.mends.Mend.{Mend}
use Rattle.hm_messages_trials.specs.declared.mends.Mend.TheVariants.{Expression, Pattern, Exchange, Removal, Sides, Patterns, Insertion, Wrapped}
use Rattle.hm_messages_edits.specs.Edits.{HasPartsIn}

pub parts_inside : (source name : List ℕ) (fs : List Interface) (definition : List ℕ) (mend : Mend) → IsMend source name fs definition mend → HasPartsIn source mend
parts_inside source name fs definition (Expression part) h = h.part_of
parts_inside source name fs definition (Pattern part) h = h.part_of
parts_inside source name fs definition (Exchange first second) h = (h.first_of, h.second_of)
parts_inside source name fs definition (Removal part) h = h.part_of
parts_inside source name fs definition (Sides first second) h = (h.first_of, h.second_of)
parts_inside source name fs definition (Patterns first second) h = (h.first_of, h.second_of)
parts_inside source name fs definition (Insertion insertion part) h = h.part_of
parts_inside source name fs definition (Wrapped constructor part) h = h.part_of
