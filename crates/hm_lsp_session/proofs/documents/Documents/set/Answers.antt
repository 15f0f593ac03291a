use Rattle.std.proofs.Common.{refl}
use Rattle.hm_lsp_session.proofs.Holding.{push_held, set_held}
use Rattle.hm_lsp_session.proofs.documents.Documents.set.Goals as goal

pub returns-in-Some-clause-held : goal.returns-in-Some-clause-held
returns-in-Some-clause-held c =
    let held = set_held c.args.self.now.items.items _ c.args.uri.now c.in-Some.index c.set.new.self c.index_mut.result.now c.args.text c.in-Some.ensures refl c.index_mut.ensures.value c.set.ensures.uri c.set.ensures.text in
    record { now = held.0; others = held.1 }

pub returns-in_ok-push-in-None-clause-held : goal.returns-in_ok-push-in-None-clause-held
returns-in_ok-push-in-None-clause-held c =
    let held = push_held c.args.self.now.items.items c.push.new.self.items c.args.uri.now _ c.args.text c.in-None.ensures c.in_ok-push-in-None.ensures.items c.in_ok-from_str-in-None.ensures.ok refl in
    record { now = held.0; others = held.1 }
