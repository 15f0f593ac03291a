use Rattle.std.proofs.Common.{Bool, true, false, sym, subst}
use Rattle.hm_types.specs.declared.Entity.{Entity}
use Rattle.hm_names.specs.Bindings.{Adds, IsPairOf}
use Rattle.hm_scope_imports.specs.Selections.{Selects}
use Rattle.hm_names.proofs.AddedPairs.{adds_where}
use Rattle.hm_scope_imports.proofs.imports.add_entry.Goals as goal

pub returns-then-brought : goal.returns-then-brought
returns-then-brought c =
    let under = c.args.brought.now.name.now in
    let added = subst (λ (e : Entity). Adds c.args.pairs.now.items c.add_qualified.new.pairs.items (IsPairOf true under c.args.space c.args.text.now e)) c.of-found.ensures c.in_ok-add_qualified.ensures in
    adds_where c.args.pairs.now.items c.add_qualified.new.pairs.items (Selects c.args.brought.now.selection.now c.args.space c.args.text.now) (IsPairOf c.args.brought.now.qualified under c.args.space c.args.text.now c.args.entity.now)
    (c.selects.ensures.0 c.if-not-selects.false)
    (subst (λ (q : Bool). Adds c.args.pairs.now.items c.add_qualified.new.pairs.items (IsPairOf q under c.args.space c.args.text.now c.args.entity.now)) (sym c.if-brought.true) added)

pub returns : goal.returns
returns c =
    let under = c.args.brought.now.name.now in
    let added = subst (λ (e : Entity). Adds c.args.pairs.now.items c.add_both.new.pairs.items (IsPairOf false under c.args.space c.args.text.now e)) c.of-found.ensures c.in_ok-add_both.ensures in
    adds_where c.args.pairs.now.items c.add_both.new.pairs.items (Selects c.args.brought.now.selection.now c.args.space c.args.text.now) (IsPairOf c.args.brought.now.qualified under c.args.space c.args.text.now c.args.entity.now)
    (c.selects.ensures.0 c.if-not-selects.false)
    (subst (λ (q : Bool). Adds c.args.pairs.now.items c.add_both.new.pairs.items (IsPairOf q under c.args.space c.args.text.now c.args.entity.now)) (sym c.if-brought.false) added)
