-- The names of the imported modules, gathered one after the other.
use Rattle.std.proofs.Common.{◌≡◌, ℕ, ◌+◌, ◌<◌, Bool, true, false, cond, ◌||◌, List, [], ◌∷◌, ◌++◌, drop, length, get_or, map, not, refl, ap, ap₂, sym, ◌∙◌, append_assoc}
use Rattle.std.proofs.lemmas.List.{drop_more, map-append}
use Rattle.std.specs.Borrow.{Bor}
use Rattle.hm_syntax.specs.declared.ast.Import.{Import}
use Rattle.hm_names.specs.Texts.{is_text_among, same_text}
use Rattle.hm_names.specs.Imports.{imported_after}

-- only which texts were seen counts
pub seen_same : (is : List Import) (s t : List (List ℕ)) → ((x : List ℕ) → is_text_among x s ≡ is_text_among x t) → imported_after s is ≡ imported_after t is
seen_same [] s t h = refl
seen_same (i ∷ is) s t h =
    ap (λ b. cond b (imported_after s is) (i.name.text ∷ imported_after (i.name.text ∷ s) is)) (h i.name.text)
    ∙ at (is_text_among i.name.text t) (seen_same is s t h) (seen_same is (i.name.text ∷ s) (i.name.text ∷ t) (λ x. ap (λ b. same_text x i.name.text || b) (h x)))
  where
    at : (b : Bool) → imported_after s is ≡ imported_after t is → imported_after (i.name.text ∷ s) is ≡ imported_after (i.name.text ∷ t) is →
        cond b (imported_after s is) (i.name.text ∷ imported_after (i.name.text ∷ s) is) ≡ cond b (imported_after t is) (i.name.text ∷ imported_after (i.name.text ∷ t) is)
    at true d e = d
    at false d e = ap (λ z. i.name.text ∷ z) e

-- the last text of a list might stand first
last_first : (x y : List ℕ) (s : List (List ℕ)) → is_text_among x (y ∷ s) ≡ is_text_among x (s ++ y ∷ [])
last_first x y [] = refl
last_first x y (z ∷ s) = swap (same_text x y) (same_text x z) (is_text_among x s) ∙ ap (λ b. same_text x z || b) (last_first x y s)
  where
    swap : (a b c : Bool) → (a || (b || c)) ≡ (b || (a || c))
    swap true true c = refl
    swap true false c = refl
    swap false b c = refl

drop_next : {X : Type 0} (xs : List X) (i : ℕ) (x : X) → i < length xs → x ≡ get_or xs i x → drop i xs ≡ x ∷ drop (i + 1) xs
drop_next xs i x l e = drop_more xs i x l ∙ ap (λ z. z ∷ drop (i + 1) xs) (sym e)

-- a module that was seen before
pub known_before : (is : List Import) (i : ℕ) (x : Import) (s : List (List ℕ)) → i < length is → x ≡ get_or is i x → is_text_among x.name.text s ≡ true → imported_after s (drop i is) ≡ imported_after s (drop (i + 1) is)
known_before is i x s l e b = ap (imported_after s) (drop_next is i x l e) ∙ ap (λ z. cond z (imported_after s (drop (i + 1) is)) (x.name.text ∷ imported_after (x.name.text ∷ s) (drop (i + 1) is))) b

-- a new one
pub new_name : (is : List Import) (i : ℕ) (x : Import) (s : List (List ℕ)) → i < length is → x ≡ get_or is i x → is_text_among x.name.text s ≡ false → imported_after s (drop i is) ≡ x.name.text ∷ imported_after (s ++ x.name.text ∷ []) (drop (i + 1) is)
new_name is i x s l e b =
    ap (imported_after s) (drop_next is i x l e) ∙ (ap (λ z. cond z (imported_after s (drop (i + 1) is)) (x.name.text ∷ imported_after (x.name.text ∷ s) (drop (i + 1) is))) b
    ∙ ap (λ z. x.name.text ∷ z) (seen_same (drop (i + 1) is) (x.name.text ∷ s) (s ++ x.name.text ∷ []) (λ t. last_first t x.name.text s)))

-- one more import, of a new module
pub gathered_new : (all : List (List ℕ)) (is : List Import) (i : ℕ) (x : Import) (ns ms : List (Bor (List ℕ))) (n : Bor (List ℕ)) (s t : List (List ℕ)) (b : Bool) → i < length is → x ≡ get_or is i x → n.now ≡ x.name.text → b ≡ not (is_text_among n.now s) → b ≡ true →
    ms ≡ ns ++ n ∷ [] → t ≡ cond (is_text_among n.now s) s (s ++ n.now ∷ []) → map (λ n. n.now) ns ++ imported_after s (drop i is) ≡ all → map (λ n. n.now) ms ++ imported_after t (drop (i + 1) is) ≡ all
gathered_new all is i x ns ms n s t b l e named fresh true_ grown texts h =
    ap (λ z. map (λ n. n.now) z ++ imported_after t (drop (i + 1) is)) grown
    ∙ (ap (λ z. z ++ imported_after t (drop (i + 1) is)) (map-append (λ n. n.now) ns (n ∷ []))
    ∙ (append_assoc (map (λ n. n.now) ns) (n.now ∷ []) (imported_after t (drop (i + 1) is))
    ∙ (ap (λ z. map (λ n. n.now) ns ++ z) (ap₂ (λ y u. y ∷ imported_after u (drop (i + 1) is)) named (texts ∙ (ap (λ z. cond z s (s ++ n.now ∷ [])) unknown ∙ ap (λ y. s ++ y ∷ []) named)) ∙ sym (new_name is i x s l e (ap (λ y. is_text_among y s) (sym named) ∙ unknown)))
    ∙ h)))
  where
    unknown : is_text_among n.now s ≡ false
    unknown = at (is_text_among n.now s) (sym fresh ∙ true_)
      where
        at : (c : Bool) → not c ≡ true → c ≡ false
        at true e = sym e
        at false e = refl

-- or of one that was seen
pub gathered_old : (all : List (List ℕ)) (is : List Import) (i : ℕ) (x : Import) (ns ms : List (Bor (List ℕ))) (n : Bor (List ℕ)) (s t : List (List ℕ)) (b : Bool) → i < length is → x ≡ get_or is i x → n.now ≡ x.name.text → b ≡ not (is_text_among n.now s) → b ≡ false →
    ms ≡ ns → t ≡ cond (is_text_among n.now s) s (s ++ n.now ∷ []) → map (λ n. n.now) ns ++ imported_after s (drop i is) ≡ all → map (λ n. n.now) ms ++ imported_after t (drop (i + 1) is) ≡ all
gathered_old all is i x ns ms n s t b l e named fresh false_ same texts h =
    ap₂ (λ z u. map (λ n. n.now) z ++ imported_after u (drop (i + 1) is)) same (texts ∙ ap (λ z. cond z s (s ++ n.now ∷ [])) known)
    ∙ (ap (λ z. map (λ n. n.now) ns ++ z) (sym (known_before is i x s l e (ap (λ y. is_text_among y s) (sym named) ∙ known))) ∙ h)
  where
    known : is_text_among n.now s ≡ true
    known = at (is_text_among n.now s) (sym fresh ∙ false_)
      where
        at : (c : Bool) → not c ≡ false → c ≡ true
        at true e = refl
        at false e = sym e
