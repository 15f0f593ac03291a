use Rattle.std.proofs.Common.{sym, subst, option_map, Bor}
use Rattle.hm_types.specs.Interfaces.{Exports as Interface}
use Rattle.hm_uses_header.specs.Lookups.{IsInterfaceOf}
use Rattle.hm_uses_header.proofs.interfaces.interface_named.Goals as goal

pub returns-in-None : goal.returns-in-None
returns-in-None c = λ fs table. subst (λ o. IsInterfaceOf fs c.args.name.now (option_map (λ (f : Bor Interface). f.now) o)) (sym c.in-None.ensures.value) (table c.args.name)
