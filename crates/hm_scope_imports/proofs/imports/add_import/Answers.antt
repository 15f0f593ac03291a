use Rattle.std.proofs.Common.{◌∙◌, sym}
use Rattle.hm_scope_imports.proofs.Apart.{brought_none, brought_one}
use Rattle.hm_scope_imports.proofs.imports.add_import.Goals as goal

pub returns-in-None : goal.returns-in-None
returns-in-None c = brought_none c.args.interfaces.now c.args.import.now (λ f k n. c.in-None.ensures.none f k (n ∙ sym c.as_str.ensures)) c.args.pairs.now.items

pub returns-in_ok-add_brought-in-Some : goal.returns-in_ok-add_brought-in-Some
returns-in_ok-add_brought-in-Some c =
    let f = c.index-interfaces-place.result in
    brought_one c.args.interfaces.now c.args.import.now c.requires f (c.in-Some.place, c.in-Some.ensures.within, sym c.index-interfaces-place.is) (c.in-Some.ensures.named f c.index-interfaces-place.is ∙ c.as_str.ensures)
    c.args.pairs.now.items c.add_brought.new.pairs.items c.in_ok-add_brought-in-Some.ensures
