use Rattle.std.proofs.Common.{rules}
use Rattle.hm_uses_renames.specs.Renames.{Becomes}
use Rattle.hm_uses_renames.proofs.Pairs.{pairs_more}
use Rattle.hm_uses_renames.proofs.comparing.all_become.Goals as goal

pub names-preserved : goal.names-preserved
names-preserved c =
    let here : Becomes c.args.of.now c.args.name.now c.index-names-i.result c.index-later-i.result = search rules in
    pairs_more (λ m n. Becomes c.args.of.now c.args.name.now m n) c.args.names.now c.args.later.now c.names.i c.index-names-i.result c.index-later-i.result c.requires c.names-test.true c.index-names-i.is c.index-later-i.is c.names.invariant here
