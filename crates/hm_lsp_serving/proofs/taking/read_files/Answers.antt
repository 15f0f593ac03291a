use Rattle.std.proofs.Common.{refl, string_bytes, subst}
use Rattle.hm_lsp_serving.specs.Taking.{IsRead, more, none}
use Rattle.hm_lsp_serving.proofs.Turning.{one_more}
use Rattle.hm_lsp_serving.proofs.taking.read_files.Goals as goal

pub files-init : goal.files-init
files-init g c = (c.requires, none refl refl)

pub files-preserved : goal.files-preserved
files-preserved g c =
    let is = subst (λ u. IsRead u c.files.serving.server c.read_file.new.serving.server) c.as_str.ensures.value c.in_ok-read_file.ensures.read in
    (c.in_ok-read_file.ensures.orderly, more c.files.invariant.1 is (one_more string_bytes c.args.uris.now c.files.uri-index c.uri-item.result c.files-test.true c.uri-item.is))
