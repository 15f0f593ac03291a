use Rattle.std.proofs.Common.{ℕ, List}
use Rattle.std.specs.Io.KnownBytes.{Consumes}
use Rattle.serde_json.specs.Data.{Data}
use Rattle.hm_lsp_frames.specs.Pending.{IsPending}
use Rattle.hm_lsp_server.specs.Servers.{IsOrderly}
use Rattle.hm_lsp_serving.specs.Turns.{AreWritten, HasServed}
use Rattle.hm_lsp_serving.proofs.serving.serve.Given as goal

-- what is so between two reads
abbrev pub invariant-reads : goal.invariant-reads
invariant-reads g l =
    (goal.iterator-reads g).can_next l.iterator' × ((goal.iterator-reads g).is_finite l.iterator' × (IsOrderly l.serving.server × ((read : List ℕ) × ((sent : List Data) × ((waits : List ℕ)
    × (HasServed l.initial.serving.server read sent l.serving.server waits × (IsPending l.frames waits
    × (Consumes (g.R.Read.remaining l.initial.client.reader) (g.R.Read.remaining l.client.reader) read × AreWritten (g.W.Write.contents l.initial.client.writer) (g.W.Write.contents l.client.writer) sent))))))))
