use Rattle.std.proofs.Common.{◌∙◌, sym}
use Rattle.hm_messages_details.proofs.Arities.{special_takes}
use Rattle.hm_messages_details.proofs.counts.constructor_arity.Goals as goal

pub returns-in-Some : goal.returns-in-Some
returns-in-Some c = λ fs scope known. special_takes c.args.site.now.program.now fs c.args.name.now c.in-Some.arity (sym c.in-Some.is ∙ c.special_arity.ensures)
