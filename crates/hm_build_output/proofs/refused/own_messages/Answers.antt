use Rattle.std.proofs.Common.{Err, ap}
use Rattle.hm_messages.proofs.OfSources.{refusals_are_theirs}
use Rattle.hm_messages.specs.Pages.{texts_in}
use Rattle.hm_build_output.proofs.refused.own_messages.Goals as goal

pub unreachable-requires : goal.unreachable-requires
unreachable-requires c =
    refusals_are_theirs (texts_in c.args.pages.now.items.items) c.args.refused.now.fault c.requires.because (c.in-Err-Foreign.ensures.foreign (ap Err c.in-Err-Foreign.field-0-is))
