use Rattle.std.proofs.Common.{◌∙◌, None, Some, ap, option_map, string_bytes, subst, sym}
use Rattle.percent_encoding.specs.Percent.{percent_decode}
use Rattle.hm_lsp_sources.specs.Held.{named_in}
use Rattle.hm_lsp_sources.specs.Names.{IsNumberOf}
use Rattle.hm_lsp_sources.proofs.Placed.{file_added, file_set}
use Rattle.hm_lsp_sources.proofs.following.Sources.place_file.Goals as goal

pub returns-in-Some : goal.returns-in-Some
returns-in-Some g c =
    let name = percent_decode c.args.uri.now in
    let found : IsNumberOf (named_in c.args.self.now) name (Some c.in-Some.number) = subst (λ l. IsNumberOf l name (Some c.in-Some.number)) c.as_slice.ensures.value
    (subst (λ m. IsNumberOf c.as_slice.result.now m (Some c.in-Some.number)) (c.as_slice-2.ensures.value ∙ c.in_ok-name.ensures) c.in-Some.ensures) in
    file_set name c.file_text.result.items (option_map (λ t. t.items) c.args.file) c.in-Some.number c.args.self.now c.set_file.new.self found c.file_text.ensures c.set_file.ensures

pub returns : goal.returns
returns g c =
    let name = percent_decode c.args.uri.now in
    let found : IsNumberOf (named_in c.args.self.now) name None = subst (λ l. IsNumberOf l name None) c.as_slice.ensures.value
    (subst (λ m. IsNumberOf c.as_slice.result.now m None) (c.as_slice-2.ensures.value ∙ c.in_ok-name.ensures) c.in-None.ensures) in
    let uri = string_bytes c.in_ok-uri-in-Some-file.uri in
    let text = c.in-Some-file.text in
    file_added name uri text.items (option_map (λ t. t.items) c.args.file) c.args.self.now c.push.new.self found (ap percent_decode (sym c.in_ok-uri-in-Some-file.ensures.ok)) (ap (option_map (λ t. t.items)) c.in-Some-file.is)
    c.in_ok-push-in-Some-file.ensures
