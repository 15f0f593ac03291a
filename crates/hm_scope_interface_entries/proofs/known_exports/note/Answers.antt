use Rattle.std.proofs.Common.{◌∙◌, sym, ap, cond, Some}
use Rattle.indexmap.specs.IndexMap.{get_by}
use Rattle.hm_scope_entities.specs.Owners.{same_key}
use Rattle.hm_scope_interface_entries.proofs.known_exports.note.Goals as goal

pub returns-then-contains_key : goal.returns-then-contains_key
returns-then-contains_key g c = λ k. sym (ap (λ b. cond b (get_by (same_key k) c.args.table.now) (cond (same_key c.args.key k) (Some c.args.value) (get_by (same_key k) c.args.table.now))) (sym c.contains_key.ensures ∙ c.if-contains_key.true))

pub returns : goal.returns
returns g c = λ k. c.in_ok-insert.ensures.updates.0 k ∙ sym (ap (λ b. cond b (get_by (same_key k) c.args.table.now) (cond (same_key c.args.key k) (Some c.args.value) (get_by (same_key k) c.args.table.now))) (sym c.contains_key.ensures ∙ c.if-contains_key.false))
