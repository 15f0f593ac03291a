use Rattle.hm_store_shared.proofs.Owning.{claims_are_held, done_is_the_end, held_are_theirs}
use Rattle.hm_store_shared.proofs.laws.replies_are_known.Goals as goal

pub returns : goal.returns
returns c = record { claims = claims_are_held; held = held_are_theirs; done = done_is_the_end }
