use Rattle.hm_messages_changes.proofs.wildcards.hole_for.Goals as goal

pub returns : goal.returns
returns c = rw c.as_bytes.ensures.value at c.in_ok-joined.ensures
