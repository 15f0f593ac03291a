use Rattle.std.proofs.Common.{ap, not, ◌∙◌}
use Rattle.hm_scope_tables.proofs.TextSets.{any_is, inserted}
use Rattle.hm_scope_tables.proofs.text_set.TextSet.insert.Goals as goal

pub returns-clause-added : goal.returns-clause-added
returns-clause-added c = rw (← c.self.view_is) ((rw c.make_room.ensures at c.in_ok-insert.ensures.added) ∙ ap not (any_is c.args.text.now c.self.inside.keys.keys))

pub returns-clause-texts : goal.returns-clause-texts
returns-clause-texts c = rw (← c.self.view_is) (ap (λ ks. Rattle.std.specs.Prelude.map (λ k. k.now) ks) (rw c.make_room.ensures at c.in_ok-insert.ensures.keys) ∙ inserted c.args.text c.self.inside.keys.keys)
