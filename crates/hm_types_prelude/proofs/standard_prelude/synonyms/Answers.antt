use Rattle.hm_types_prelude.proofs.standard_prelude.synonyms.Goals as goal

pub synonym_entry-requires : goal.synonym_entry-requires
synonym_entry-requires c = c.requires c.loop-name.name-index _ c.loop-name-test.true
