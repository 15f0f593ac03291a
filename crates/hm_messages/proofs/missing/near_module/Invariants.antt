use Rattle.hm_messages.proofs.missing.near_module.Given as goal

abbrev pub invariant-modules : goal.invariant-modules
invariant-modules l = Unit {0}
