use Rattle.std.proofs.Common.{◌∙◌}
use Rattle.hm_store_shared.proofs.Knowing.{fails_of}
use Rattle.hm_store_shared.proofs.Refusing.{fail_fits}
use Rattle.hm_store_shared.specs.Passes.{seen_of}
use Rattle.hm_store_shared.proofs.shared.Locked.fail.Goals as goal

pub returns-clause-answers : goal.returns-clause-answers
returns-clause-answers g c =
    let h = c.beside.ensures in
    let e = c.fail_one-reply.ensures in
    fails_of _ _ c.args.self.now.listed c.fail_one-reply.new.self.listed _ _ _ h.legal h.build e.begins (c.meet.ensures.known ∙ e.known) c.args.number c.args.outcome c.fail_one-reply.result e.settles

pub returns-clause-fits : goal.returns-clause-fits
returns-clause-fits g c =
    let h = c.beside.ensures in
    λ of. fail_fits _ _ c.args.self.now.listed _ (seen_of c.args.pass.now) _ c.args.number c.args.outcome c.fail_one-reply.result h.legal h.listed h.build h.beside c.fail_one-reply.ensures.settles of
