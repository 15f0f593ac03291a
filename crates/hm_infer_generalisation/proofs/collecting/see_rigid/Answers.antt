use Rattle.std.proofs.Common.{refl}
use Rattle.hm_infer_generalisation.proofs.Gather.{gathers_rigid}
use Rattle.hm_infer_generalisation.proofs.collecting.see_rigid.Goals as goal

pub returns : goal.returns
returns c = gathers_rigid _ _ c.args.n c.in_ok-add.ensures refl
