use Rattle.std.proofs.Common.{[], map, refl, string_bytes, subst, sym}
use Rattle.hm_lsp_serving.specs.Taking.{AreRead, IsDone}
use Rattle.hm_lsp_serving.proofs.Turning.{written_none}
use Rattle.hm_lsp_serving.proofs.turns.act.Goals as goal

pub returns-in_ok-read_files-in-Files-clause-done : goal.returns-in_ok-read_files-in-Files-clause-done
returns-in_ok-read_files-in-Files-clause-done g c =
    let before = c.args.serving.now.server in
    let after = c.read_files.new.serving.server in
    let read = subst (λ uris. AreRead before (map string_bytes uris) after) c.deref.ensures.value c.in_ok-read_files-in-Files.ensures.read in
    ([], (subst (λ taken. IsDone taken before after []) (sym c.in-Files.is) (read, refl), written_none (g.W.Write.contents c.args.writer.now)))

pub returns-in-Ended-clause-done : goal.returns-in-Ended-clause-done
returns-in-Ended-clause-done g c =
    let before = c.args.serving.now.server in
    ([], (subst (λ taken. IsDone taken before before []) (sym c.in-Ended.is) (refl, refl), written_none (g.W.Write.contents c.args.writer.now)))
