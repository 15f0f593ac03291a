use Rattle.std.proofs.Common.{ℕ, List, subst}
use Rattle.hm_types.specs.declared.Entity.{Entity}
use Rattle.hm_names.specs.Bindings.{Adds, IsPairOf}
use Rattle.hm_scope_imports.specs.Selections.{Selects}
use Rattle.hm_names.proofs.AddedPairs.{for_more, for_all}
use Rattle.hm_scope_imports.proofs.imports.add_entries.Goals as goal

pub loop-entry-preserved : goal.loop-entry-preserved
loop-entry-preserved g c =
    let b = c.args.brought.now in
    let s = c.args.space in
    let r = c.entry-item.result in
    let named = subst (λ (x : List ℕ). Adds c.loop-entry.pairs.items c.add_entry.new.pairs.items (λ p. Selects b.selection.now s x × IsPairOf b.qualified b.name.now s x c.entity.result.now p)) c.name.ensures c.in_ok-add_entry.ensures in
    let added = subst (λ (e : Entity). Adds c.loop-entry.pairs.items c.add_entry.new.pairs.items (λ p. Selects b.selection.now s (g.E.Named.name_of r) × IsPairOf b.qualified b.name.now s (g.E.Named.name_of r) e p)) c.entity.ensures named in
    for_more (λ r p. Selects b.selection.now s (g.E.Named.name_of r) × IsPairOf b.qualified b.name.now s (g.E.Named.name_of r) (g.E.Named.entity_of r) p) c.reserve.new.self.items c.loop-entry.pairs.items c.add_entry.new.pairs.items c.args.entries.now c.loop-entry.entry-index r c.loop-entry-test.true c.entry-item.is c.loop-entry.invariant added

pub returns : goal.returns
returns g c = rw c.in_ok-reserve.ensures.items at (for_all (λ r p. Selects c.args.brought.now.selection.now c.args.space (g.E.Named.name_of r) × IsPairOf c.args.brought.now.qualified c.args.brought.now.name.now c.args.space (g.E.Named.name_of r) (g.E.Named.entity_of r) p) c.reserve.new.self.items c.loop-entry.pairs.items c.args.entries.now c.loop-entry.entry-index c.loop-entry-test.false c.loop-entry.invariant)
