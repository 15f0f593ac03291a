-- A set of the texts of names.
use Rattle.std.proofs.Common.{◌≡◌, ℕ, ◌+◌, ◌<◌, Bool, true, false, cond, ◌||◌, ◌⊎◌, List, [], ◌∷◌, ◌++◌, length, drop, map, get_or, inl, inr, refl, sym, ap, ◌∙◌, bytes_eq, Bor}
use Rattle.std.proofs.lemmas.Bool.{cases_Bool}
use Rattle.std.proofs.lemmas.Slice.Eq.{bytes_eq-Decides}
use Rattle.hm_syntax.specs.Names.{Identifier}
use Rattle.hm_names.specs.Texts.{is_text_among}
use Rattle.hm_names.specs.Variables.{texts}
use Rattle.hm_names.proofs.Rows.{unrolled}
use Rattle.hm_scope_tables.proofs.TextSets.{more}

-- a text more, unless it is there
with_text : (y : List ℕ) (a b : List (List ℕ)) (x : List ℕ) → b ≡ cond (is_text_among y a) a (a ++ y ∷ []) → is_text_among x b ≡ (bytes_eq x y || is_text_among x a)
with_text y a b x is = elim (cases_Bool (is_text_among y a)) [
  | inl there ↦ ap (is_text_among x) (is ∙ ap (λ t. cond t a (a ++ y ∷ [])) there) ∙ known there (cases_Bool (bytes_eq x y))
  | inr absent ↦ ap (is_text_among x) (is ∙ ap (λ t. cond t a (a ++ y ∷ [])) absent) ∙ more x y a
]
  where
    known : is_text_among y a ≡ true → (bytes_eq x y ≡ true) ⊎ (bytes_eq x y ≡ false) → is_text_among x a ≡ (bytes_eq x y || is_text_among x a)
    known there (inl same) = ap (λ z. is_text_among z a) ((bytes_eq-Decides x y).0 same) ∙ (there ∙ ap (λ t. t || is_text_among x a) (sym same))
    known there (inr other) = ap (λ t. t || is_text_among x a) (sym other)

pub texts_more : (row : List (Bor Identifier)) (i : ℕ) (n : Bor Identifier) (a b : List (List ℕ)) (x : List ℕ) → i < length row → n ≡ get_or row i n → b ≡ cond (is_text_among n.now.text a) a (a ++ n.now.text ∷ [])
    → (is_text_among x b || is_text_among x (texts (map (λ y. y.now) (drop (i + 1) row)))) ≡ (is_text_among x a || is_text_among x (texts (map (λ y. y.now) (drop i row))))
texts_more row i n a b x l e is =
    let rest : Bool = is_text_among x (texts (map (λ (y : Bor Identifier). y.now) (drop (i + 1) row))) in
    ap (λ t. t || rest) (with_text n.now.text a b x is)
    ∙ (turn (bytes_eq x n.now.text) (is_text_among x a) rest ∙ ap (λ (r : List (Bor Identifier)). is_text_among x a || is_text_among x (texts (map (λ y. y.now) r))) (sym (unrolled row i n l e)))
  where
    turn : (p q r : Bool) → ((p || q) || r) ≡ (q || (p || r))
    turn true true r = refl
    turn true false r = refl
    turn false true r = refl
    turn false false r = refl
