use Rattle.std.proofs.Common.{◌≡◌, ◌∙◌, Global, List, Vec, ap, map, subst, ℕ}
use Rattle.hm_service_rename.proofs.Named.{prepared_in}
use Rattle.hm_service_rename.specs.Sets.{IsWhole}
use Rattle.hm_service_sources.specs.HeldSets.{texts_of}
use Rattle.hm_service_rename.proofs.preparing.prepare_rename.Goals as goal

pub returns-then-not-is_whole : goal.returns-then-not-is_whole
returns-then-not-is_whole g c =
    let items : List (Vec ℕ Global) → List (List ℕ) = λ xs. map (λ (s : Vec ℕ Global). s.items) xs in
    let same : items c.as_slice.result.now ≡ texts_of c.args.set.now.held.now = ap items c.as_slice.ensures.value ∙ c.in_ok-texts.ensures in
    subst (λ (l : List (List ℕ)). ¬ (IsWhole l c.args.set.now.checked.now)) same (c.is_whole.ensures.no c.if-not-is_whole.true)

pub returns : goal.returns
returns g c =
    let set = c.args.set.now in
    let items : List (Vec ℕ Global) → List (List ℕ) = λ xs. map (λ (s : Vec ℕ Global). s.items) xs in
    let same : items c.as_slice.result.now ≡ texts_of set.held.now = ap items c.as_slice.ensures.value ∙ c.in_ok-texts.ensures in
    let whole : IsWhole (texts_of set.held.now) set.checked.now = subst (λ (l : List (List ℕ)). IsWhole l set.checked.now) same (c.is_whole.ensures.yes c.if-not-is_whole.false) in
    prepared_in set c.args.place.now c.in_ok-found_at.field-0 whole c.in_ok-found_at.ensures
