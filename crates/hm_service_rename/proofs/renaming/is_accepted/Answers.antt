use Rattle.hm_service_rename.proofs.renaming.is_accepted.Goals as goal

pub returns : goal.returns
returns g c = λ yes. (c.in_ok-after.after, (c.in_ok-after.ensures.ok, (c.in_ok-is_as_good.ensures c.if-not-branch.false, c.in_ok-are_names_renamed.ensures yes)))
