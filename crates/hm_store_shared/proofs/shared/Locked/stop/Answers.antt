use Rattle.std.proofs.Common.{◌∙◌}
use Rattle.hm_store_shared.proofs.Knowing.{stopped_of, stops_of}
use Rattle.hm_store_shared.proofs.shared.Locked.stop.Goals as goal

pub returns-clause-stops : goal.returns-clause-stops
returns-clause-stops g c =
    let h = c.beside.ensures in
    let e = c.stop_all-first.ensures in
    stops_of _ _ c.args.self.now.listed c.stop_all-first.new.self.listed _ _ _ h.legal h.build e.begins (c.meet.ensures.known ∙ e.known) c.stop_all-first.result e.reply e.step

pub returns-clause-stopped : goal.returns-clause-stopped
returns-clause-stopped g c =
    let h = c.beside-2.ensures in
    let e = c.stop_all-first.ensures in
    stopped_of _ _ c.args.self.now.listed c.stop_all-first.new.self.listed _ _ c.stop_all-first.result h.legal h.build (c.meet.ensures.known ∙ e.known) e.reply e.step
