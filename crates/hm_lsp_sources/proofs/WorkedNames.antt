-- Worked examples of sources.
use Rattle.std.proofs.Common.{◌≡◌, ◌&&◌, ℕ, List, length, Option, Vec, is_some, string_bytes, true, false, not, [], ◌∷◌, None, Some, codes, refl, sym, ap, ◌∙◌, arith}
use Rattle.std.proofs.lemmas.Bool.{and_from, and_parts, cond-false, cond-true, false_from_ne_true, false≢true}
use Rattle.std.specs.Str.{bytes_eq}
use Rattle.std.specs.declared.alloc.Global.{Global}
use Rattle.percent_encoding.specs.Percent.{percent_decode}
use Rattle.hm_lsp_session.specs.declared.documents.Document.{Document}
use Rattle.hm_lsp_sources.specs.Files.{IsFileIn, absent, added, known}
use Rattle.hm_lsp_sources.specs.Following.{is_open_as}
use Rattle.std.proofs.lemmas.Slice.Eq.{bytes_eq-Decides}
use Rattle.hm_lsp_sources.specs.Names.{IsNumberOf, is_other}
use Rattle.hm_lsp_sources.specs.Worked.{FilesRow, NumbersRow, TextsRow}
use Rattle.hm_lsp_sources.specs.declared.source.Source.{Source}

same_name : (s : Source) → s.name.items ≡ codes "file:///a.hs" → is_other (codes "file:///a.hs") s ≡ false
same_name s is = ap not ((bytes_eq-Decides s.name.items (codes "file:///a.hs")).1 is)

second : (s : Source) → s.name.items ≡ codes "file:///a.hs" → IsNumberOf (s ∷ s ∷ []) (codes "file:///a.hs") (Some 1) → ⊥
second s is (low, before, here) = false≢true (sym (same_name s is) ∙ (and_parts (is_other (codes "file:///a.hs") s) true before).0)

pub worked_numbers : NumbersRow
worked_numbers = record { first = λ s is. (omega arith, refl, λ t. same_name s is); not_second = second }

shown : (d : Document) → string_bytes d.uri ≡ codes "file:///a%2Bb.hs" → ¬ (d.text ≡ None) → is_open_as (codes "file:///a+b.hs") d ≡ true
unfolding percent_decode
shown d is apart = and_from (is_some d.text) (bytes_eq (percent_decode (string_bytes d.uri)) (codes "file:///a+b.hs")) (is_there d.text apart) ((bytes_eq-Decides (percent_decode (string_bytes d.uri)) (codes "file:///a+b.hs")).1 (ap percent_decode is))
  where
    is_there : (o : Option (Vec ℕ Global)) → ¬ (o ≡ None) → is_some o ≡ true
    is_there None h = absurd (h refl)
    is_there (Some t) h = refl

hidden : (d : Document) → string_bytes d.uri ≡ codes "file:///c.hs" → is_open_as (codes "file:///a+b.hs") d ≡ false
unfolding percent_decode
hidden d is = false_from_ne_true (is_open_as (codes "file:///a+b.hs") d) (λ t. other (sym (ap percent_decode is) ∙ (bytes_eq-Decides (percent_decode (string_bytes d.uri)) (codes "file:///a+b.hs")).0 (and_parts (is_some d.text) _ t).1))
  where
    other : percent_decode (codes "file:///c.hs") ≡ codes "file:///a+b.hs" → ⊥
    other e = absurd (false≢true (sym (ap (λ l. bytes_eq l (codes "file:///c.hs")) e)))

nothing : (d : Document) → None ≡ Some d → ⊥
nothing d e = absurd cc

pub worked_texts : TextsRow
worked_texts = record {
  closed = λ d is. cond-false _ _ _ (ap (λ o. is_some o && bytes_eq (percent_decode (string_bytes d.uri)) (codes "file:///a+b.hs")) is);
  of_file = λ file. refl;
  escaped = λ d is apart. cond-true _ _ _ (shown d is apart);
  not_other = λ d is e. nothing d (sym (cond-false _ _ _ (hidden d is)) ∙ e);
}

one_none : (ss : List Source) (s : Source) → s ∷ ss ≡ [] → ⊥
one_none ss s e = let z : length (s ∷ ss) ≡ 0 = ap (λ (l : List Source). length l) e in omega (arith, z)

not_added : (s : Source) → IsFileIn (codes "file:///a.hs") None [] (s ∷ []) → ⊥
not_added s (known {n = n} at names files) = absurd (omega (arith, at.0))
not_added s (added {text = text} at is names files) = absurd (nothing_some text is)
  where
    nothing_some : (text : List ℕ) → None ≡ Some text → ⊥
    nothing_some text e = cc
not_added s (absent at is same) = one_none [] s same

pub worked_files : FilesRow
worked_files = record { new = λ s name file. added refl refl (ap (λ (x : List ℕ). x ∷ []) name) (ap (λ (x : List ℕ). x ∷ []) file); not_missing = not_added }
