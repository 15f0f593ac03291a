use Rattle.std.proofs.Common.{◌≡◌, ◌++◌, ◌∙◌, ℕ, List, All, codes, string_bytes, ap, arith, rules}
use Rattle.std.proofs.lemmas.List.Elements.{All-from_get_or}
use Rattle.percent_encoding.proofs.PercentLemmas.{round_trip, IsByte}
use Rattle.percent_encoding.specs.Percent.{percent_decode, percent_encode}
use Rattle.hm_lsp_sources.proofs.Schemes.{decode_scheme}
use Rattle.hm_lsp_sources.proofs.uris.uri_of.Goals as goal

pub returns : goal.returns
returns c =
    let path : List ℕ = c.args.path.now in
    let encoded : List ℕ = percent_encode c.escaped.result path in
    let whole : string_bytes c.append_to.new.out ≡ codes "file://" ++ encoded = search (rules) in
    let small : All IsByte path = All-from_get_or IsByte path 0 (λ i within. omega (arith, c.type_inv.path i)) in
    ap percent_decode whole ∙ decode_scheme encoded ∙ ap (λ (l : List ℕ). codes "file://" ++ l) (round_trip c.escaped.result path c.escaped.ensures small)
