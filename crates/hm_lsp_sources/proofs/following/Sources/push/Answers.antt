use Rattle.std.proofs.Common.{refl, ap, ◌∙◌}
use Rattle.percent_encoding.specs.Percent.{percent_decode}
use Rattle.hm_lsp_sources.proofs.following.Sources.push.Goals as goal

pub returns : goal.returns
returns g c = record {
  s = record { uri = c.args.uri; name = c.in_ok-name.name; file = c.args.file };
  h = c.in_ok-held.held;
  named = c.in_ok-push-2.ensures.items;
  held = c.in_ok-push.ensures.items;
  uri_is = refl;
  name_is = c.in_ok-name.ensures ∙ ap percent_decode c.as_str.ensures.value;
  file_is = refl;
  text_is = c.in_ok-held.ensures ∙ c.as_slice.ensures.value;
}
