use Rattle.std.proofs.Common.{◌∙◌, sym}
use Rattle.hm_scope_imports.proofs.Apart.{faults_none, faults_one}
use Rattle.hm_scope_imports.proofs.faulty_imports.add_import_faults.Goals as goal

pub returns-in-None : goal.returns-in-None
returns-in-None c = faults_none c.args.interfaces.now c.args.import.now (λ f k n. c.in-None.ensures.none f k (n ∙ sym c.as_str.ensures)) c.args.faults.now.items

pub returns-in_ok-add_list_faults-in-Some : goal.returns-in_ok-add_list_faults-in-Some
returns-in_ok-add_list_faults-in-Some c =
    let f = c.index-interfaces-place.result in
    faults_one c.args.interfaces.now c.args.import.now c.requires f (c.in-Some.place, c.in-Some.ensures.within, sym c.index-interfaces-place.is) (c.in-Some.ensures.named f c.index-interfaces-place.is ∙ c.as_str.ensures)
    c.args.faults.now.items c.add_list_faults.new.faults.items c.in_ok-add_list_faults-in-Some.ensures
