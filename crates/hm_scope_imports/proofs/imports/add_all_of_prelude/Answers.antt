use Rattle.std.proofs.Common.{◌≡◌, Bor, refl}
use Rattle.hm_types.specs.Interfaces.{Exports as Interface}
use Rattle.hm_names.specs.Bindings.{IsBroughtPair}
use Rattle.hm_names.specs.Scope.{import_prelude, prelude_name}
use Rattle.hm_names.proofs.AddedPairs.{for_more, for_all}
use Rattle.hm_scope_imports.proofs.SelectedPairs.{from_adds}
use Rattle.hm_scope_imports.proofs.imports.add_all_of_prelude.Goals as goal

pub loop-interface-preserved : goal.loop-interface-preserved
loop-interface-preserved c =
    for_more (λ (f : Bor Interface) p. (f.now.name ≡ prelude_name) × IsBroughtPair f.now import_prelude p) c.args.pairs.now.items c.loop-interface.pairs.items c.add_prelude.new.pairs.items c.args.interfaces.now c.loop-interface.interface-index c.interface-item.result c.loop-interface-test.true c.interface-item.is c.loop-interface.invariant c.in_ok-add_prelude.ensures

pub returns : goal.returns
returns c = from_adds c.args.pairs.now.items c.loop-interface.pairs.items c.args.interfaces.now import_prelude prelude_name refl
    (for_all (λ (f : Bor Interface) p. (f.now.name ≡ prelude_name) × IsBroughtPair f.now import_prelude p) c.args.pairs.now.items c.loop-interface.pairs.items c.args.interfaces.now c.loop-interface.interface-index c.loop-interface-test.false c.loop-interface.invariant)
