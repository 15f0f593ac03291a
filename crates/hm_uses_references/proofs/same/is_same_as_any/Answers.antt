use Rattle.std.proofs.Common.{◌≡◌, ◌∙◌, ◌<◌, ◌≤◌, ℕ, false, ap, get_or, length, map, rules, subst, sym}
use Rattle.std.proofs.lemmas.Bool.{both_ways, false≢true}
use Rattle.std.proofs.lemmas.List.{get_or-map, length-map}
use Rattle.std.proofs.lemmas.List.Elements.{All-more}
use Rattle.hm_uses_references.specs.SetNames.{IsSame}
use Rattle.hm_uses_references.proofs.Sought.{none_found}
use Rattle.hm_uses_references.proofs.same.is_same_as_any.Goals as goal

pub names-preserved : goal.names-preserved
names-preserved c =
    let other = c.args.other.now in
    let names = map (λ n. n.now) c.args.names.now in
    let item = c.one-item.result in
    let i = c.names.one-index in
    let at : get_or names i item.now ≡ item.now = get_or-map (λ n. n.now) c.args.names.now i item item.now c.names-test.true ∙ ap (λ n. n.now) (sym c.one-item.is) in
    let within : i < length names = subst (λ (n : ℕ). i < n) (sym (length-map c.args.names.now (λ n. n.now))) c.names-test.true in
    let clear : c.is_same.result ≡ false = search rules in
    All-more (λ n. ¬ (IsSame n other)) names i item.now within c.names.invariant (subst (λ n. ¬ (IsSame n other)) (sym at) (λ same. both_ways c.is_same.result clear (c.is_same.ensures.1 same)))

pub returns : goal.returns
returns c =
    let names = map (λ n. n.now) c.args.names.now in
    let i = c.names.one-index in
    let ends : length names ≤ i = subst (λ (n : ℕ). n ≤ i) (sym (length-map c.args.names.now (λ n. n.now))) c.names-test.false in
    (λ t. absurd (false≢true t), λ found. absurd (none_found names i c.args.other.now ends c.names.invariant found))
