use Rattle.std.proofs.Common.{arith, rules}
use Rattle.hm_uses_declarations.proofs.Tables.{last_removed, none_removed}
use Rattle.hm_uses_declarations.proofs.locals.remove_binding.Goals as goal

pub returns-in-Some-clause-last : goal.returns-in-Some-clause-last
returns-in-Some-clause-last c = λ x bs b same is.
    last_removed c.args.table.now (c.get_mut.follows.lender c.pop.new.self) c.args.text x c.in-Some.bindings.now c.pop.new.self c.pop.result bs b _ c.in-Some.ensures.value c.pop.ensures.items c.pop.ensures.variant (omega (arith, c.in-Some.bindings.now.ok.0))
    (((c.get_mut.follows.holds c.pop.new.self).3 (search rules)).0 x) same is

pub returns-in_default-clause-last : goal.returns-in_default-clause-last
returns-in_default-clause-last c = λ x bs b same is. none_removed c.args.table.now c.get_mut.follows.lender-at-none c.args.text x bs b c.in_default.ensures.value same is
