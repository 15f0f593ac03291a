-- Values of the members that pass a test.
use Rattle.std.proofs.Common.{◌≡◌, ℕ, ◌+◌, ◌<◌, ◌≤◌, Bool, true, false, cond, List, [], ◌∷◌, ◌++◌, length, map, take, get_or, sym, ap, subst, ◌∙◌}
use Rattle.std.proofs.lemmas.Bool.{cond-false, cond-true}
use Rattle.std.proofs.lemmas.List.{append-nil, map-append, take_all}
use Rattle.std.proofs.lemmas.List.Elements.{filter_more}
use Rattle.std.specs.List.{AllZip, filter}
use Rattle.serde_json.specs.Data.{Data}
use Rattle.serde_json.specs.View.{view}
use Rattle.serde_json.specs.declared.value.Value.{Value}

pub zip_pushed : {X : Type 0} (P : X → Data → Type 0) (xs : List X) (ys : List Data) (x : X) (y : Data) → AllZip P xs ys → P x y → AllZip P (xs ++ x ∷ []) (ys ++ y ∷ [])
zip_pushed P [] [] x y h own = (own, tt)
zip_pushed P [] (z ∷ ys) x y h own = absurd h
zip_pushed P (w ∷ xs) [] x y h own = absurd h
zip_pushed P (w ∷ xs) (z ∷ ys) x y h own = (h.0, zip_pushed P xs ys x y h.1 own)

-- a member that passes has a value
pub chosen_more : {X : Type 0} (P : X → Data → Type 0) (f : X → Bool) (xs : List X) (i : ℕ) (x : X) (v : Value) (old new : List Value) → i < length xs → x ≡ get_or xs i x → AllZip P (filter f (take i xs)) (map view old) → f x ≡ true → P x (view v)
    → new ≡ old ++ v ∷ [] → AllZip P (filter f (take (i + 1) xs)) (map view new)
chosen_more P f xs i x v old new low at before passes own pushed =
    let values : map view new ≡ map view old ++ view v ∷ [] = ap (map view) pushed ∙ map-append view old (v ∷ []) in
    let members : filter f (take (i + 1) xs) ≡ filter f (take i xs) ++ x ∷ [] =
    filter_more f xs i x low ∙ ap (λ l. filter f (take i xs) ++ l) (ap (λ z. cond (f z) (z ∷ []) []) (sym at) ∙ cond-true _ _ _ passes) in
    subst (λ l. AllZip P l (map view new)) (sym members) (subst (λ l. AllZip P (filter f (take i xs) ++ x ∷ []) l) (sym values) (zip_pushed P (filter f (take i xs)) (map view old) x (view v) before own))

-- one that doesn't has none
pub chosen_less : {X : Type 0} (P : X → Data → Type 0) (f : X → Bool) (xs : List X) (i : ℕ) (x : X) (values : List Data) → i < length xs → x ≡ get_or xs i x → AllZip P (filter f (take i xs)) values → f x ≡ false
    → AllZip P (filter f (take (i + 1) xs)) values
chosen_less P f xs i x values low at before fails =
    let members : filter f (take (i + 1) xs) ≡ filter f (take i xs) =
    filter_more f xs i x low ∙ ap (λ l. filter f (take i xs) ++ l) (ap (λ z. cond (f z) (z ∷ []) []) (sym at) ∙ cond-false _ _ _ fails) ∙ append-nil (filter f (take i xs)) in
    subst (λ l. AllZip P l values) (sym members) before

pub all_chosen : {X : Type 0} (P : X → Data → Type 0) (f : X → Bool) (xs : List X) (i : ℕ) (values : List Data) → length xs ≤ i → AllZip P (filter f (take i xs)) values → AllZip P (filter f xs) values
all_chosen P f xs i values ends h = subst (λ l. AllZip P (filter f l) values) (take_all i xs ends) h
