use Rattle.std.proofs.Common.{◌≡◌, take, false}
use Rattle.hm_types.specs.Schemes.{is_among}
use Rattle.hm_infer_generalisation.proofs.collecting.place_among_few.Given as goal

abbrev pub invariant-numbers : goal.invariant-numbers
invariant-numbers l = is_among l.n (take l.place l.numbers) ≡ false
