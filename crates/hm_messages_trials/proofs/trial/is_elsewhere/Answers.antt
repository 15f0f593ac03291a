use Rattle.std.proofs.Common.{rules}
use Rattle.hm_messages_trials.proofs.Elsewhere.{none_of}
use Rattle.hm_messages_trials.proofs.trial.is_elsewhere.Goals as goal

pub returns : goal.returns
returns c h =
    (search rules, none_of c.args.definition.now c.args.fault.now.name c.as_str-name.result.now c.args.others.now c.as_str-name.ensures (search rules) (c.is_none_of.ensures h))
