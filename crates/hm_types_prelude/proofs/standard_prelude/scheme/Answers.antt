use Rattle.hm_types_prelude.proofs.Tabled.{numbered_is_scheme}
use Rattle.hm_types_prelude.proofs.standard_prelude.scheme.Goals as goal

pub new-requires : goal.new-requires
new-requires c = rw c.in_ok-body.ensures (numbered_is_scheme _ _ c.requires.not_rigid c.requires.arities c.requires.numbered)
