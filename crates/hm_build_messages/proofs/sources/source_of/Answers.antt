use Rattle.std.proofs.Common.{◌<◌, ℕ, get_or, subst, sym}
use Rattle.std.proofs.lemmas.List.{length-map}
use Rattle.hm_build_messages.proofs.sources.source_of.Goals as goal

pub returns-clause-spelled : goal.returns-clause-spelled
returns-clause-spelled c =
    let h = c.requires.origins in
    let number : ℕ = c.args.number in
    h.each number 0 (subst (λ n. number < n) (sym h.as_many) c.requires.number)

pub returns-clause-within : goal.returns-clause-within
returns-clause-within c =
    let told = c.args.view.now in
    let h = c.requires.origins in
    let number : ℕ = c.args.number in
    subst (λ n. get_or told.origins.now number 0 < n) (length-map told.pages.now.items.items (λ p. p.lines)) (h.each number 0 (subst (λ n. number < n) (sym h.as_many) c.requires.number)).inside
