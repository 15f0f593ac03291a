-- The binding that the next clause may continue, as the code has it. No public clause names these.
use Rattle.std.specs.Prelude.{ℕ, List, Option, option_map}
use Rattle.std.specs.Borrow.{Bor}
use Rattle.hm_names.specs.Faults.Lists.{OpenBinding}

abbrev pub open_binding : Option (Bor (List ℕ) × ℕ) → OpenBinding
open_binding b = option_map (λ p. (p.0.now, p.1)) b
