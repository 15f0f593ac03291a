use Rattle.hm_service_references.specs.Views.{known_of}
use Rattle.hm_service_references.proofs.Naming.{names_more}
use Rattle.hm_service_references.proofs.names.all_names.Goals as goal

pub modules-preserved : goal.modules-preserved
modules-preserved c =
    names_more (known_of c.args.view.now) c.args.part.now c.modules.number c.modules.names.items c.add_uses.new.names.items c.in_ok-uses.uses.items c.source_of-source.result c.modules.invariant c.in_ok-uses.ensures c.source_of-source.ensures c.in_ok-add_uses.ensures
