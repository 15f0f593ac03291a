-- One more letter, which is no other one.
use Rattle.std.proofs.Common.{◌≡◌, ◌∙◌, ◌++◌, ◌∷◌, ◌<◌, ℕ, List, [], All, ap, get_or, length, map, subst, sym}
use Rattle.std.proofs.lemmas.List.{get_or-map, length-map, map-append}
use Rattle.std.proofs.lemmas.List.Elements.{All-map}
use Rattle.std.proofs.lemmas.List.Quantifiers.{all_pairs_push}
use Rattle.hm_messages_types.specs.Lettered.{letter_of}
use Rattle.hm_messages_types.specs.Letters.{AreApart, IsNoLetter}
use Rattle.hm_messages_types.specs.Shown.{NamedType}
use Rattle.hm_messages_types.specs.declared.letters.Letter.{Letter}

abbrev Differ : NamedType → NamedType → Type 0
Differ l m = ¬ (l.text ≡ m.text) × ¬ (l.name ≡ m.name)

pub apart_more : (before : List Letter) (letter : Letter) (after : List Letter) → All (λ (l : Letter). ¬ ((letter_of l).name ≡ letter.name.now)) before
    → All (λ (l : Letter). ¬ ((letter_of l).text ≡ letter.text.now)) before → after ≡ before ++ letter ∷ [] → AreApart (map letter_of before) → AreApart (map letter_of after)
apart_more before letter after unnamed untexted pushed apart =
    let all : map letter_of after ≡ map letter_of before ++ letter_of letter ∷ [] = ap (map letter_of) pushed ∙ map-append letter_of before (letter ∷ []) in
    subst AreApart (sym all) (all_pairs_push Differ (map letter_of before) (letter_of letter) apart others)
  where
    others : (k : ℕ) (d : NamedType) → k < length (map letter_of before) → Differ (get_or (map letter_of before) k d) (letter_of letter)
    others k d within =
        let inside : k < length before = subst (λ (n : ℕ). k < n) (length-map before letter_of) within in
        let is : get_or (map letter_of before) k d ≡ letter_of (get_or before k letter) = get_or-map letter_of before k letter d inside in
        subst (λ (l : NamedType). Differ l (letter_of letter)) (sym is) (untexted k letter inside, unnamed k letter inside)

-- a word that is neither the text nor the name of a letter
pub no_letter : (letters : List Letter) (word : List ℕ) → All (λ (l : Letter). ¬ ((letter_of l).text ≡ word)) letters → All (λ (l : Letter). ¬ ((letter_of l).name ≡ word)) letters
    → IsNoLetter (map letter_of letters) word
no_letter letters word untexted unnamed = All-map (λ (l : NamedType). ¬ (l.text ≡ word) × ¬ (l.name ≡ word)) letter_of letters (λ k d within. (untexted k d within, unnamed k d within))
