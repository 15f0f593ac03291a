use Rattle.std.proofs.Common.{subst, option_map, Bor}
use Rattle.hm_types.specs.Interfaces.{Exports as Interface}
use Rattle.hm_uses_header.specs.Lookups.{IsInterfaceOf}
use Rattle.hm_uses_header.proofs.Listed.{sub_item_found, sub_item_missing, sub_item_of_none}
use Rattle.hm_uses_header.proofs.items.of_sub_item.Goals as goal

pub returns-in_default : goal.returns-in_default
returns-in_default c = λ fs i only. sub_item_of_none fs i (subst (λ o. IsInterfaceOf fs i.name.text (option_map (λ (f : Bor Interface). f.now) o)) c.in_default.is only) c.args.of.now.text c.args.part.now.text

pub returns-in-Some-exported_of : goal.returns-in-Some-exported_of
returns-in-Some-exported_of c = λ fs i only.
    sub_item_found fs i c.in-Some.interface.now (subst (λ o. IsInterfaceOf fs i.name.text (option_map (λ (f : Bor Interface). f.now) o)) c.in-Some.is only) c.args.of.now.text c.args.part.now.text c.in-Some-exported_of.entity
    (rw (c.as_str.ensures, c.as_str-2.ensures) at c.in-Some-exported_of.ensures)

pub returns-in-None : goal.returns-in-None
returns-in-None c = λ fs i only.
    sub_item_missing fs i c.in-Some.interface.now (subst (λ o. IsInterfaceOf fs i.name.text (option_map (λ (f : Bor Interface). f.now) o)) c.in-Some.is only) c.args.of.now.text c.args.part.now.text
    (rw (c.as_str.ensures, c.as_str-2.ensures) at c.in-None.ensures)
