use Rattle.std.proofs.Common.{◌∙◌, ap, sym}
use Rattle.hm_types.specs.Shape.{types_of}
use Rattle.hm_types.specs.Substitution.{listed, substitute}
use Rattle.hm_types_subsumption.proofs.instances.instantiate.Goals as goal

pub returns-clause-instance : goal.returns-clause-instance
returns-clause-instance c =
    let f = listed (types_of c.args.types.now) in
    (f, ap (substitute f) (sym c.body.ensures.value) ∙ sym c.in_ok-replace_all.ensures)
