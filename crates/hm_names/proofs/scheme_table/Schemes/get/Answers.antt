use Rattle.std.proofs.Common.{ap, ◌∙◌}
use Rattle.hm_names.specs.SchemeTables.{scheme_of}
use Rattle.hm_names.proofs.Assigned.{scheme_of_assigned}
use Rattle.hm_names.proofs.scheme_table.Schemes.get.Goals as goal

pub returns : goal.returns
returns c = c.get.ensures.value ∙ scheme_of_assigned c.self.inside.table.entries c.args.name.now ∙ ap (λ s. scheme_of s c.args.name.now) c.self.view_is
