use Rattle.std.proofs.Common.{rules, ◌≡◌, Some, subst, sym}
use Rattle.serde_json.specs.Find.{as_array}
use Rattle.serde_json.specs.View.{items_view, view}
use Rattle.hm_lsp_positions.specs.declared.changes.Change.{Change}
use Rattle.hm_lsp_session.specs.Params.{AreChangesIn, IsChangeIn}
use Rattle.hm_lsp_session.proofs.Reading.{change_at, changes_more, same_items}
use Rattle.hm_lsp_session.proofs.params.changes_in.Goals as goal

pub changes-preserved : goal.changes-preserved
changes-preserved c =
    changes_more c.deref-value-items.result.now c.changes.value-index c.value-item.result c.changes.changes.items c.push.new.self.items c.in-Some-2.change (search rules) (search rules) c.changes.invariant (search rules) (search rules)

pub returns-in-None-clause-none : goal.returns-in-None-clause-none
returns-in-None-clause-none c items changes e h =
    let vs = c.deref-value-items.result.now in
    let here : Some (items_view vs) ≡ as_array (view c.args.value.now) = search rules in
    let found = change_at vs changes c.changes.value-index c.value-item.result (search rules) (search rules) (subst (λ x. AreChangesIn x changes) (sym (same_items _ _ _ here e)) h) in
    let none : (x : Change) → IsChangeIn (view c.value-item.result) x → ⊥ = search rules in
    none found.0 found.1
