use Rattle.hm_types_prelude.proofs.standard_prelude.synonym_entry.Goals as goal

pub new-requires-2 : goal.new-requires-2
new-requires-2 c = rw c.in_ok-body.ensures c.requires
