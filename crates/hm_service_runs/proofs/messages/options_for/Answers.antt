use Rattle.std.proofs.Common.{refl}
use Rattle.hm_messages.specs.declared.heading.MessageFormat.TheVariants.{Json}
use Rattle.hm_service_runs.proofs.messages.options_for.Goals as goal

pub returns : goal.returns
returns c = record {
  workers_are = refl;
  no_journal = refl;
  messages = record { names = c.in_ok-names.names; format = Json };
  is = refl;
  format = refl;
  names = c.in_ok-names.ensures;
}
