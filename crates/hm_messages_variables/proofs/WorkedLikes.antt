-- The worked type variables.
use Rattle.std.proofs.Common.{refl}
use Rattle.hm_messages_variables.specs.Worked.{LikeRow}

pub worked_likes : LikeRow
worked_likes = record { capital = refl; no_letter = refl; found = refl; not_other = refl }
