-- Lists of texts, and the sources that hold them.
use Rattle.std.proofs.Common.{◌≡◌, ◌∙◌, ◌+◌, ◌<◌, ℕ, List, [], ◌∷◌, ◌++◌, Vec, Global, ap, ap₂, get_or, length, map, subst, sym, take, true}
use Rattle.std.specs.List.{Any}
use Rattle.std.proofs.lemmas.List.{get_or-map, length-map, map-append, take_more}
use Rattle.std.proofs.lemmas.List.Elements.{All-push}
use Rattle.hm_service_rename.specs.Sets.{AreHeldAs}
use Rattle.hm_service_sources.specs.Standing.{IsUnreadable}
use Rattle.hm_service_sources.specs.declared.held.HeldSource.{HeldSource}

abbrev items_of : List (Vec ℕ Global) → List (List ℕ)
items_of xs = map (λ s. s.items) xs

pub one_more : (xs : List (Vec ℕ Global)) (i : ℕ) (x : Vec ℕ Global) → i < length xs → x ≡ get_or xs i x → items_of (take (i + 1) xs) ≡ items_of (take i xs) ++ x.items ∷ []
one_more xs i x inside is =
    ap items_of (take_more xs i x inside) ∙ (map-append (λ (s : Vec ℕ Global). s.items) (take i xs) (get_or xs i x ∷ []) ∙ ap (λ (y : Vec ℕ Global). items_of (take i xs) ++ y.items ∷ []) (sym is))

-- two lists of texts are the same up to one more
pub same_more : (xs ys : List (Vec ℕ Global)) (i : ℕ) (x y : Vec ℕ Global) → i < length xs → i < length ys → x ≡ get_or xs i x → y ≡ get_or ys i y → x.items ≡ y.items → items_of (take i xs) ≡ items_of (take i ys)
    → items_of (take (i + 1) xs) ≡ items_of (take (i + 1) ys)
same_more xs ys i x y inside within is_x is_y same before =
    one_more xs i x inside is_x ∙ (ap₂ (λ (l : List (List ℕ)) (t : List ℕ). l ++ t ∷ []) before same ∙ sym (one_more ys i y within is_y))

-- sources hold one more text
pub held_more : (xs : List (Vec ℕ Global)) (i : ℕ) (x : Vec ℕ Global) (old new : List HeldSource) (h : HeldSource) → i < length xs → x ≡ get_or xs i x → AreHeldAs (items_of (take i xs)) old → new ≡ old ++ h ∷ [] → h.text.items ≡ x.items
    → h.standing.items ≡ x.items → h.is_read ≡ true → AreHeldAs (items_of (take (i + 1) xs)) new
held_more xs i x old new h inside is before added text standing read =
    subst (AreHeldAs (items_of (take (i + 1) xs))) (sym added) (subst (λ (l : List (List ℕ)). AreHeldAs l (old ++ h ∷ [])) (sym (one_more xs i x inside is)) (record {
      texts_are = map-append (λ (s : HeldSource). s.text.items) old (h ∷ []) ∙ ap₂ (λ (l : List (List ℕ)) (t : List ℕ). l ++ t ∷ []) before.texts_are text;
      standing = map-append (λ (s : HeldSource). s.standing.items) old (h ∷ []) ∙ ap₂ (λ (l : List (List ℕ)) (t : List ℕ). l ++ t ∷ []) before.standing standing;
      read = All-push (λ (s : HeldSource). s.is_read ≡ true) old h before.read read;
    }))

-- a text that can't be read is one of them
pub unread_at : (xs : List (Vec ℕ Global)) (i : ℕ) (x : Vec ℕ Global) (text : List ℕ) → i < length xs → x ≡ get_or xs i x → text ≡ x.items → IsUnreadable text → Any IsUnreadable (items_of xs)
unread_at xs i x text inside is same unread = (
  i,
  x.items,
  subst (λ (n : ℕ). i < n) (sym (length-map xs (λ (s : Vec ℕ Global). s.items))) inside,
  get_or-map (λ (s : Vec ℕ Global). s.items) xs i x x.items inside ∙ ap (λ (y : Vec ℕ Global). y.items) (sym is),
  subst IsUnreadable same unread,
)

-- two lists of texts differ at a place of both
pub not_same_at : (xs ys : List (Vec ℕ Global)) (i : ℕ) (x y : Vec ℕ Global) → i < length xs → i < length ys → x ≡ get_or xs i x → y ≡ get_or ys i y → ¬ (x.items ≡ y.items) → ¬ (items_of xs ≡ items_of ys)
not_same_at xs ys i x y inside within is_x is_y apart same =
    let one : get_or (items_of xs) i [] ≡ x.items = get_or-map (λ (s : Vec ℕ Global). s.items) xs i x [] inside ∙ ap (λ (v : Vec ℕ Global). v.items) (sym is_x) in
    let other : get_or (items_of ys) i [] ≡ y.items = get_or-map (λ (s : Vec ℕ Global). s.items) ys i y [] within ∙ ap (λ (v : Vec ℕ Global). v.items) (sym is_y) in
    apart (sym one ∙ ap (λ (l : List (List ℕ)). get_or l i []) same ∙ other)

pub not_same_long : (xs ys : List (Vec ℕ Global)) → ¬ (length xs ≡ length ys) → ¬ (items_of xs ≡ items_of ys)
not_same_long xs ys apart same =
    apart (sym (length-map xs (λ (s : Vec ℕ Global). s.items)) ∙ ap (λ (l : List (List ℕ)). length l) same ∙ length-map ys (λ (s : Vec ℕ Global). s.items))
