-- What is told of a page among pages.
use Rattle.std.proofs.Common.{◌≡◌, ℕ, ◌<◌, List, [], length, get_or, sym, ap, subst, ◌∙◌}
use Rattle.std.proofs.lemmas.List.{get_or-map, length-map}
use Rattle.hm_lex.specs.declared.token.Place.{Place}
use Rattle.hm_messages.specs.Messages.{IsHeadingAt}
use Rattle.hm_messages.specs.Pages.{files_in, texts_in}
use Rattle.hm_messages.specs.Subjects.{Subject}
use Rattle.hm_messages.specs.declared.heading.MessageFormat.{MessageFormat}
use Rattle.hm_messages.specs.declared.pages.Page.{Page}

pub as_many : (pages : List Page) → length (texts_in pages) ≡ length pages
as_many pages = length-map pages (λ p. p.lines)

module _ (pages : List Page) (k : ℕ) (page : Page) (low : k < length pages) (is : page ≡ get_or pages k page) where
  pub inside : k < length (texts_in pages)
  inside = subst (λ n. k < n) (sym (length-map pages (λ p. p.lines))) low

  pub file_is : page.file.now ≡ get_or (files_in pages) k []
  file_is = ap (λ (p : Page). p.file.now) is ∙ sym (get_or-map (λ p. p.file.now) pages k page [] low)

  pub text_is : page.lines ≡ get_or (texts_in pages) k []
  text_is = ap (λ (p : Page). p.lines) is ∙ sym (get_or-map (λ p. p.lines) pages k page [] low)

  pub heading_in : (format : MessageFormat) (place : Place) (subject : Subject) (text : List ℕ) → IsHeadingAt format page.file.now page.lines place subject text
      → IsHeadingAt format (get_or (files_in pages) k []) (get_or (texts_in pages) k []) place subject text
  heading_in format place subject text h =
      subst (λ (s : List ℕ). IsHeadingAt format (get_or (files_in pages) k []) s place subject text) text_is
      (subst (λ (f : List ℕ). IsHeadingAt format f page.lines place subject text) file_is h)
