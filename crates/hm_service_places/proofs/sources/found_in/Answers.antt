use Rattle.std.proofs.Common.{◌≡◌, ◌∙◌, ◌++◌, List, ap, map, subst}
use Rattle.std.proofs.lemmas.List.{map-append}
use Rattle.hm_service_messages.specs.Choices.{AreChosen}
use Rattle.hm_service_messages.specs.declared.diagnostic.Diagnostic.{Diagnostic}
use Rattle.hm_service_places.proofs.sources.found_in.Goals as goal

pub returns : goal.returns
returns c =
    let found = c.in_ok-found.found.items in
    let more = c.in_ok-more.more.items in
    let all : c.add_all.new.found.items ≡ found ++ more = c.in_ok-add_all.ensures ∙ ap (λ l. found ++ l) c.as_slice-2.ensures.value in
    record {
      first = map (λ d. d.now) found;
      later = map (λ d. d.now) more;
      refused = subst (λ (l : List Diagnostic). AreChosen (λ d. d.source ≡ c.args.source) l (map (λ d. d.now) found)) c.in_run.ensures c.in_ok-found.ensures;
      told = subst (λ (l : List Diagnostic). AreChosen (λ d. d.source ≡ c.args.source) l (map (λ d. d.now) more)) c.as_slice.ensures.value c.in_ok-more.ensures;
      whole = ap (map (λ d. d.now)) all ∙ map-append (λ d. d.now) found more;
    }
