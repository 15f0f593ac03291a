use Rattle.std.proofs.Common.{refl}
use Rattle.hm_lsp_sources.proofs.following.Sources.set_file.Goals as goal

pub returns : goal.returns
returns c =
    let s = c.index_mut.result.now in
    record { s = s; t = record { uri = s.uri; name = s.name; file = c.args.file }; at = c.index_mut.ensures.value; named = refl; held = refl; name_is = refl; uri_is = refl; file_is = refl }
