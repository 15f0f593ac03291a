use Rattle.hm_messages_changes.proofs.blanks.definition_of.Goals as goal

pub returns : goal.returns
returns c = rw (c.as_bytes.ensures.value, c.as_bytes-2.ensures.value) at c.in_ok-joined.ensures
