use Rattle.hm_build_messages.proofs.explaining.errors_of.Goals as goal

pub all_messages-requires-clause-complete : goal.all_messages-requires-clause-complete
all_messages-requires-clause-complete c = record {
  lawful = c.requires.lawful;
  len = c.requires.len;
  number = c.requires.number;
  origins = c.requires.origins;
}
