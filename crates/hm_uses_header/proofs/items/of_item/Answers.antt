use Rattle.std.proofs.Common.{subst, option_map, Bor}
use Rattle.hm_types.specs.Interfaces.{Exports as Interface}
use Rattle.hm_uses_header.specs.Lookups.{IsInterfaceOf}
use Rattle.hm_uses_header.proofs.Listed.{item_found, item_missing, item_of_none}
use Rattle.hm_uses_header.proofs.items.of_item.Goals as goal

pub returns-in_default : goal.returns-in_default
returns-in_default c = λ fs i only. item_of_none fs i (subst (λ o. IsInterfaceOf fs i.name.text (option_map (λ (f : Bor Interface). f.now) o)) c.in_default.is only) c.args.space c.args.name.now.text

pub returns-in-Some-exported : goal.returns-in-Some-exported
returns-in-Some-exported c = λ fs i only.
    item_found fs i c.in-Some.interface.now (subst (λ o. IsInterfaceOf fs i.name.text (option_map (λ (f : Bor Interface). f.now) o)) c.in-Some.is only) c.args.space c.args.name.now.text c.in-Some-exported.meant
    (rw c.as_str.ensures at c.in-Some-exported.ensures)

pub returns-in-None : goal.returns-in-None
returns-in-None c = λ fs i only.
    item_missing fs i c.in-Some.interface.now (subst (λ o. IsInterfaceOf fs i.name.text (option_map (λ (f : Bor Interface). f.now) o)) c.in-Some.is only) c.args.space c.args.name.now.text (rw c.as_str.ensures at c.in-None.ensures)
