-- Sources after a file is read.
use Rattle.std.proofs.Common.{◌≡◌, ◌∙◌, ◌<◌, ◌++◌, ◌∷◌, [], ℕ, true, false, List, Option, None, Some, ap, get_or, length, map, refl, set, string_bytes, subst, sym}
use Rattle.std.proofs.Math.ListN.{get_or-map as mapped_at}
use Rattle.std.proofs.Math.Seq.{map-set_same}
use Rattle.std.proofs.lemmas.Bool.{false≢true}
use Rattle.std.proofs.lemmas.List.{length-set, map-set}
use Rattle.percent_encoding.specs.Percent.{percent_decode}
use Rattle.hm_lsp_sources.specs.Files.{absent, added, known, text_in}
use Rattle.hm_lsp_sources.specs.Following.{files_in, names_in, uris_in}
use Rattle.hm_lsp_sources.specs.Held.{held_in, named_in}
use Rattle.hm_lsp_sources.specs.Names.{IsNumberOf}
use Rattle.hm_lsp_sources.specs.Steps.{AreNamed, IsFilePlaced, IsFileSet, IsPushed}
use Rattle.hm_lsp_sources.specs.declared.following.Sources.{Sources}
use Rattle.hm_lsp_sources.specs.declared.source.Source.{Source}
use Rattle.hm_lsp_sources.proofs.Grown.{file_text, files_pushed, name_text, named_pushed, names_pushed}

uri_text : Source → List ℕ
uri_text s = string_bytes s.uri

same_at : (f : Source → List ℕ) (xs ys : List Source) (n : ℕ) (s : Source) → map f ys ≡ map f xs → f (get_or ys n s) ≡ f (get_or xs n s)
same_at f xs ys n s same = sym (mapped_at f ys n s) ∙ ap (λ l. get_or l n (f s)) same ∙ mapped_at f xs n s

same_names : (n : ℕ) (file : List ℕ) (before after : Sources) → IsFileSet n file before after → names_in (named_in after) ≡ names_in (named_in before)
same_names n file before after h = ap names_in h.named ∙ map-set_same name_text (named_in before) n h.t h.s (ap (λ x. x.items) h.name_is ∙ ap name_text h.at)

same_uris : (n : ℕ) (file : List ℕ) (before after : Sources) → IsFileSet n file before after → uris_in (named_in after) ≡ uris_in (named_in before)
same_uris n file before after h = ap uris_in h.named ∙ map-set_same (λ s. string_bytes s.uri) (named_in before) n h.t h.s (ap string_bytes h.uri_is ∙ ap (λ (s : Source). string_bytes s.uri) h.at)

set_named : (n : ℕ) (file : List ℕ) (before after : Sources) → IsFileSet n file before after → AreNamed (named_in before) (held_in before) → AreNamed (named_in after) (held_in after)
set_named n file before after h own =
    let as_long : length (named_in after) ≡ length (named_in before) = ap length h.named ∙ length-set (named_in before) n h.t in
    record {
      as_many = ap length h.held ∙ own.as_many ∙ sym as_long;
      each = λ k s low. same_at name_text (named_in before) (named_in after) k s (same_names n file before after h) ∙ own.each k s (subst (λ m. k < m) as_long low)
          ∙ ap percent_decode (sym (same_at (λ x. string_bytes x.uri) (named_in before) (named_in after) k s (same_uris n file before after h)));
    }

pub file_set : (name text : List ℕ) (file : Option (List ℕ)) (n : ℕ) (before after : Sources) → IsNumberOf (named_in before) name (Some n) → text ≡ text_in file → IsFileSet n text before after → IsFilePlaced name file false before after
file_set name text file n before after at is h = record {
  is = known at (same_names n text before after h) (ap files_in h.named ∙ map-set file_text (named_in before) n h.t ∙ ap (set (files_in (named_in before)) n) (h.file_is ∙ is));
  named = set_named n text before after h;
  held = λ x. h.held;
  uris = λ x. same_uris n text before after h;
  names = λ x. same_names n text before after h;
}

pub file_added : (name uri text : List ℕ) (file : Option (List ℕ)) (before after : Sources) → IsNumberOf (named_in before) name None → name ≡ percent_decode uri → file ≡ Some text → IsPushed uri text before after → IsFilePlaced name file true before after
file_added name uri text file before after at is some p = record {
  is = added at some (names_pushed uri text before after p ∙ ap (λ (x : List ℕ). names_in (named_in before) ++ x ∷ []) (sym is)) (files_pushed uri text before after p);
  named = named_pushed uri text before after p;
  held = λ x. absurd (false≢true (sym x));
  uris = λ x. absurd (false≢true (sym x));
  names = λ x. absurd (false≢true (sym x));
}

pub file_absent : (name : List ℕ) (file : Option (List ℕ)) (s : Sources) → IsNumberOf (named_in s) name None → file ≡ None → IsFilePlaced name file false s s
file_absent name file s at none = record { is = absent at none refl; named = λ x. x; held = λ x. refl; uris = λ x. refl; names = λ x. refl }
