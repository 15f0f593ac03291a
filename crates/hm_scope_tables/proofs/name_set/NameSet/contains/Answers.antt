use Rattle.std.proofs.Common.{sym, ◌∙◌}
use Rattle.hm_scope_tables.specs.declared.keys.Key.{Key}
use Rattle.hm_scope_tables.proofs.NameSetLemmas.{has_name}
use Rattle.hm_scope_tables.proofs.name_set.NameSet.contains.Goals as goal

pub returns : goal.returns
returns c =
    let k : Key = record { space = c.args.space; qualifier = c.args.qualifier; text = c.args.text } in
    let has = has_name k c.self.inside.keys.keys in
    rw (← c.self.view_is) (λ t. has.0 (sym c.contains.ensures ∙ t), λ h. c.contains.ensures ∙ has.1 h)
