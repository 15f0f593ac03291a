-- The verdict that the crate's functions take.
use Rattle.std.specs.Prelude.{ℕ, List, [], map}
use Rattle.hm_verdicts.specs.Verdicts.{Status}
use Rattle.hm_verdicts.specs.Verdicts as verdicts
use Rattle.hm_build_objects.specs.declared.modules.Stated.{Stated}
use Rattle.hm_build_objects.specs.declared.modules.Stated.TheVariants.{Good, Faulty, Skipped}

abbrev pub status_of : Stated → Status
status_of (Good f) = verdicts.Published f.now
status_of (Faulty found) = verdicts.Failed found.now
status_of (Skipped names) = verdicts.Skipped

-- the imports because of which the module is skipped
abbrev pub names_of : Stated → List (List ℕ)
names_of (Good f) = []
names_of (Faulty found) = []
names_of (Skipped names) = map (λ n. n.now) names.now
