use Rattle.std.proofs.Common.{length, take, sym, ap, ◌∙◌}
use Rattle.hm_store.specs.AuditsInside.{played}
use Rattle.hm_store.proofs.Playing.{played_length}
use Rattle.hm_store.proofs.store.Store.reply_in.Goals as goal

pub reply_at-requires : goal.reply_at-requires
reply_at-requires c = let b = c.args.self.now in let r = c.args.replay.now in
    ap length c.deref.ensures.value ∙ (played_length b.given (take r.at b.journal) (played r) c.requires.state ∙ ap length (sym c.plan.ensures))
