use Rattle.hm_uses_renames.specs.Firsts.{number_at}
use Rattle.hm_uses_renames.proofs.Alike.{all_renamed}
use Rattle.hm_uses_renames.proofs.comparing.are_renamed.Goals as goal

pub returns : goal.returns
returns c = λ yes.
    all_renamed c.args.of.now c.index-later-number.result c.args.name.now c.args.names.now c.args.later.now (number_at c.in_ok-firsts.firsts) (number_at c.in_ok-later_firsts.later_firsts) c.if-names-later.false
    (c.all_become.ensures c.if-not-all_become.false) (c.are_of.ensures c.if-not-are_of.false) (c.are_paired.ensures c.if-not-are_paired.false) (c.are_paired-2.ensures yes)
