use Rattle.std.proofs.Common.{[], ◌++◌, refl, subst, take}
use Rattle.std.proofs.KnownBytes.{Consumes-nil, Consumes-trans}
use Rattle.hm_lsp_serving.specs.Steps.{IsTurnOf}
use Rattle.hm_lsp_serving.specs.Turns.{begun, ended, input_ended, turn}
use Rattle.hm_lsp_serving.proofs.Turning.{consumed_none, some_taken, written_joined, written_none}
use Rattle.hm_lsp_serving.proofs.serving.serve.Goals as goal

pub reads-init : goal.reads-init
reads-init g c = (
  tt,
  (
    tt,
    (c.requires, ([], ([], ([], (begun refl refl refl refl, (c.new-frames.ensures, (Consumes-nil (g.R.Read.remaining c.args.client.now.reader), written_none (g.W.Write.contents c.args.client.now.writer)))))))),
  ),
)

pub returns-then-count-eq0-clause-session : goal.returns-then-count-eq0-clause-session
returns-then-count-eq0-clause-session g c =
    let of = g.R.Read.remaining in
    let i = c.reads.invariant.1.1.1 in
    let consumed = consumed_none (of c.args.client.now.reader) (of c.reads.client.reader) (of c.read.new.self) i.0 c.read.new.buf c.in-Ok.count c.if-count-eq0.true i.1.1.1.1.1.0 c.in-Ok.ensures.bytes.0 in
    (i.0, (i.1.0, (input_ended i.1.1.1.0 refl, (consumed, i.1.1.1.1.1.1))))

pub returns-in-Some-2-clause-session : goal.returns-in-Some-2-clause-session
returns-in-Some-2-clause-session g c =
    let reading = g.R.Read.remaining in
    let writing = g.W.Write.contents in
    let i = c.reads.invariant.1.1.1 in
    let piece = take c.in-Ok.count c.read.new.buf in
    let t = c.in_ok-status.ensures.turn i.1.1.0 i.1.1.1.1.0 in
    let last = subst (IsTurnOf (i.1.1.0 ++ piece) c.reads.serving.server c.take_turn.new.serving.server t.0 t.1.0) c.in-Some-2.is t.1.1.1.0 in
    let some = some_taken c.in-Ok.count c.read.new.buf c.if-count-eq0.false c.in-Ok.ensures.bound.0 in
    let consumed = Consumes-trans (reading c.args.client.now.reader) (reading c.reads.client.reader) (reading c.read.new.self) i.0 piece i.1.1.1.1.1.0 c.in-Ok.ensures.bytes.0 in
    let written = written_joined (writing c.args.client.now.writer) (writing c.reads.client.writer) (writing c.take_turn.new.writer) i.1.0 t.1.0 i.1.1.1.1.1.1 t.1.1.1.1 in
    (i.0 ++ piece, (i.1.0 ++ t.1.0, (ended piece i.1.1.1.0 some last refl refl refl, (consumed, written))))

pub reads-preserved : goal.reads-preserved
reads-preserved g c =
    let reading = g.R.Read.remaining in
    let writing = g.W.Write.contents in
    let i = c.reads.invariant.1.1.1 in
    let piece = take c.in-Ok.count c.read.new.buf in
    let t = c.in_ok-status.ensures.turn i.1.1.0 i.1.1.1.1.0 in
    let one = subst (IsTurnOf (i.1.1.0 ++ piece) c.reads.serving.server c.take_turn.new.serving.server t.0 t.1.0) c.in-None-2.is t.1.1.1.0 in
    let some = some_taken c.in-Ok.count c.read.new.buf c.if-count-eq0.false c.in-Ok.ensures.bound.0 in
    let consumed = Consumes-trans (reading c.args.client.now.reader) (reading c.reads.client.reader) (reading c.read.new.self) i.0 piece i.1.1.1.1.1.0 c.in-Ok.ensures.bytes.0 in
    let written = written_joined (writing c.args.client.now.writer) (writing c.reads.client.writer) (writing c.take_turn.new.writer) i.1.0 t.1.0 i.1.1.1.1.1.1 t.1.1.1.1 in
    let served = turn piece i.1.1.1.0 some one refl refl in
    (tt, (tt, (c.in_ok-status.ensures.orderly, (i.0 ++ piece, (i.1.0 ++ t.1.0, (t.0, (served, (t.1.1.0, (consumed, written)))))))))
