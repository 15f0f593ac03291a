use Rattle.hm_scope_tables.specs.declared.keys.Key.{Key}
use Rattle.hm_scope_tables.proofs.NameSetLemmas.{after_insert}
use Rattle.hm_scope_tables.proofs.name_set.NameSet.insert.Goals as goal

pub returns : goal.returns
returns c = λ n.
    let k : Key = record { space = c.args.space; qualifier = c.args.qualifier; text = c.args.text } in
    rw (← c.self.view_is) (after_insert k c.self.inside.keys.keys c.insert.new.self.keys c.in_ok-insert.ensures.keys n)
