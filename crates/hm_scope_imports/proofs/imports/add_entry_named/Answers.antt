use Rattle.std.proofs.Common.{ℕ, List, subst}
use Rattle.hm_types.specs.declared.Entity.{Entity}
use Rattle.hm_names.specs.Bindings.{Adds, IsPairOf}
use Rattle.hm_scope_imports.specs.Selections.{Selects}
use Rattle.hm_scope_imports.proofs.SelectedPairs.{named_none, named_one}
use Rattle.hm_scope_imports.proofs.imports.add_entry_named.Goals as goal

pub returns-in-None : goal.returns-in-None
returns-in-None g c =
    let b = c.args.brought.now in
    named_none g.E.Named.name_of g.E.Named.entity_of c.args.entries.now b.selection.now b.qualified b.name.now c.args.space c.args.text.now c.args.pairs.now.items c.in-None.ensures

pub returns-in_ok-add_entry-in-Some : goal.returns-in_ok-add_entry-in-Some
returns-in_ok-add_entry-in-Some g c =
    let b = c.args.brought.now in
    let s = c.args.space in
    let r = c.in-Some.entry.now in
    let found = c.in-Some.ensures in
    let named = subst (λ (x : List ℕ). Adds c.args.pairs.now.items c.add_entry.new.pairs.items (λ p. Selects b.selection.now s x × IsPairOf b.qualified b.name.now s x c.entity.result.now p)) c.name.ensures c.in_ok-add_entry-in-Some.ensures in
    let added = subst (λ (e : Entity). Adds c.args.pairs.now.items c.add_entry.new.pairs.items (λ p. Selects b.selection.now s (g.E.Named.name_of r) × IsPairOf b.qualified b.name.now s (g.E.Named.name_of r) e p)) c.entity.ensures named in
    named_one g.E.Named.name_of g.E.Named.entity_of c.args.entries.now b.selection.now b.qualified b.name.now s c.args.text.now c.args.pairs.now.items c.add_entry.new.pairs.items r c.requires found.0 found.1 added
