-- One name for each source.
use Rattle.std.proofs.Common.{◌≡◌, ℕ, ◌+◌, ◌<◌, List, [], ◌∷◌, ◌++◌, length, map, get_or, take, sym, ap, ap₂, ◌∙◌, arith, inl, inr}
use Rattle.std.proofs.Math.Seq.{get_or-append_seam}
use Rattle.std.proofs.lemmas.Bool.{cases_lt}
use Rattle.std.proofs.lemmas.List.{get_or_append_left, length-append, length-map, length-take-le, map-append}
use Rattle.hm_messages.proofs.Gathering.{take_last}
use Rattle.hm_messages.specs.Pages.{AreFilesOf, file_at, files_in, texts_in}
use Rattle.hm_messages.specs.declared.pages.Page.{Page}

pub named_each : (names sources : List (List ℕ)) (pages : List Page) → texts_in pages ≡ sources → ((k : ℕ) → k < length (files_in pages) → get_or (files_in pages) k [] ≡ file_at names k) → AreFilesOf names sources (files_in pages)
named_each names sources pages texts named = record {
  one_each = length-map pages (λ p. p.file.now) ∙ (sym (length-map pages (λ p. p.lines)) ∙ ap length texts);
  named = named;
}

-- ---- the step of a loop over sources

files_pushed : (pages more : List Page) (page : Page) → more ≡ pages ++ page ∷ [] → files_in more ≡ files_in pages ++ page.file.now ∷ []
files_pushed pages more page pushed = ap files_in pushed ∙ map-append (λ (p : Page). p.file.now) pages (page ∷ [])

pub files_more : (names : List (List ℕ)) (k : ℕ) (pages more : List Page) (page : Page) → length (texts_in pages) ≡ k → more ≡ pages ++ page ∷ [] → page.file.now ≡ file_at names k
    → ((j : ℕ) → j < length (files_in pages) → get_or (files_in pages) j [] ≡ file_at names j) → (j : ℕ) → j < length (files_in more) → get_or (files_in more) j [] ≡ file_at names j
files_more names k pages more page many pushed last before j within =
    let files = files_in pages in
    let all = files_pushed pages more page pushed in
    let as_many : length files ≡ k = length-map pages (λ p. p.file.now) ∙ (sym (length-map pages (λ p. p.lines)) ∙ many) in
    let long : length (files_in more) ≡ length files + 1 = ap length all ∙ length-append files (page.file.now ∷ []) in
    ap (λ (l : List (List ℕ)). get_or l j []) all ∙ elim (cases_lt j (length files)) [
      | inl low ↦ get_or_append_left files (page.file.now ∷ []) [] j low ∙ before j low
      | inr high ↦
          let at : j ≡ length files = omega (arith, high, within, long) in
          ap (λ (n : ℕ). get_or (files ++ page.file.now ∷ []) n []) at ∙ (get_or-append_seam files page.file.now [] [] ∙ (last ∙ ap (file_at names) (sym as_many ∙ sym at)))
    ]

pub texts_more : {X : Type 0} (xs : List X) (f : X → List ℕ) (k : ℕ) (x : X) (pages more : List Page) (page : Page) → k < length xs → x ≡ get_or xs k x → more ≡ pages ++ page ∷ [] → page.lines ≡ f x
    → texts_in pages ≡ map f (take k xs) → texts_in more ≡ map f (take (k + 1) xs)
texts_more xs f k x pages more page within is pushed same before =
    ap texts_in pushed ∙ (map-append (λ (p : Page). p.lines) pages (page ∷ []) ∙ (ap₂ (λ l t. l ++ t ∷ []) before same
    ∙ sym (ap (map f) (take_last xs k x within is) ∙ map-append f (take k xs) (x ∷ []))))

pub as_many_texts : {X : Type 0} (xs : List X) (f : X → List ℕ) (k : ℕ) (texts : List (List ℕ)) → k < length xs → texts ≡ map f (take k xs) → length texts ≡ k
as_many_texts xs f k texts within e = ap length e ∙ (length-map (take k xs) f ∙ length-take-le k xs (omega (arith, within)))
