use Rattle.std.proofs.Common.{rules, ◌≡◌, ◌∙◌, ◌++◌, ◌<◌, [], ◌∷◌, ap, get_or, map, refl, subst, sym}
use Rattle.std.proofs.lemmas.List.{map-append}
use Rattle.std.proofs.lemmas.List.{get_or-map, length-map}
use Rattle.hm_build_place_texts.specs.Facts.{item_of, name_of, a_name}
use Rattle.hm_build_place_texts.specs.declared.found.PlaceItem.TheVariants.{Name}
use Rattle.hm_build_places.specs.Answers.{IsUse, IsUseItem}
use Rattle.hm_build_places.specs.Views.{known_of}
use Rattle.hm_build_places.proofs.Parts.{parts_more}
use Rattle.hm_build_places.proofs.uses.items_of.Goals as goal

pub uses-preserved : goal.uses-preserved
uses-preserved c =
    let k = known_of c.args.view.now in
    let uses = c.args.uses.now in
    let at = c.uses.one-index in
    let u = c.one-item.result in
    let n = name_of c.in_ok-name.name in
    let told : IsUse k c.args.number u.now n = search rules in
    let here : get_or (map (λ x. x.now) uses) at u.now ≡ u.now = get_or-map (λ x. x.now) uses at u u.now c.uses-test.true ∙ ap (λ x. x.now) (sym c.one-item.is) in
    let pushed : map item_of c.push.new.self.items ≡ map item_of c.uses.items.items ++ a_name n ∷ [] = ap (map item_of) c.in_ok-push.ensures.items ∙ map-append item_of c.uses.items.items (Name c.in_ok-name.name ∷ []) in
    parts_more (IsUseItem k c.args.number) (map (λ x. x.now) uses) at u.now (map item_of c.uses.items.items) (a_name n ∷ []) (map item_of c.push.new.self.items)
    (subst (λ n. at < n) (sym (length-map uses (λ x. x.now))) c.uses-test.true) c.uses.invariant (subst (λ x. IsUseItem k c.args.number x (a_name n ∷ [])) (sym here) (n, (told, refl))) pushed
