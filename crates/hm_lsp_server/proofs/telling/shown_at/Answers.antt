use Rattle.std.proofs.Common.{◌≡◌, ◌∙◌, ◌++◌, ap, map}
use Rattle.std.proofs.lemmas.List.{map-append}
use Rattle.hm_lsp_server.proofs.telling.shown_at.Goals as goal

pub returns : goal.returns
returns c =
    let found = c.in_ok-found.found.items in
    let more = c.in_ok-more.more.items in
    let all : c.add_all.new.found.items ≡ found ++ more = c.in_ok-add_all.ensures ∙ ap (λ l. found ++ l) c.as_slice.ensures.value in
    record { first = map (λ d. d.now) found; later = map (λ d. d.now) more; of_first = c.in_ok-found.ensures; of_second = c.in_ok-more.ensures; whole = ap (map (λ d. d.now)) all ∙ map-append (λ d. d.now) found more }
