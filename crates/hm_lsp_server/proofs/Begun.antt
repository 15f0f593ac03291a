-- The sources of files, while they are added.
use Rattle.std.proofs.Common.{◌≡◌, ◌<◌, ◌++◌, [], ◌∷◌, ℕ, suc, List, codes, length, map, string_bytes, arith, refl, sym, ap, subst, ◌∙◌}
use Rattle.std.proofs.lemmas.List.{append_assoc, append-nil}
use Rattle.std.proofs.lemmas.List.Elements.{All-nil}
use Rattle.hm_lsp_sources.specs.Following.{AreFollowing, HasSource, files_in, names_in}
use Rattle.hm_lsp_sources.specs.Held.{held_in, named_in}
use Rattle.hm_lsp_sources.specs.declared.following.Sources.{Sources}
use Rattle.hm_lsp_server.specs.Servers.{HasFiles}
use Rattle.hm_lsp_server.specs.declared.server.SourceFile.{SourceFile}

abbrev pub file_name : SourceFile → List ℕ
file_name f = codes "file://" ++ string_bytes f.path

abbrev pub file_text : SourceFile → List ℕ
file_text f = f.text.items

-- some of the files are sources, and the others are left
pub record IsBegun (files rest : List SourceFile) (s : Sources) : Type 0 where
  pub names : names_in (named_in s) ++ map file_name rest ≡ map file_name files
  pub texts : files_in (named_in s) ++ map file_text rest ≡ map file_text files
  pub following : AreFollowing [] (named_in s) (held_in s)

pub begin : (files : List SourceFile) (s : Sources) → named_in s ≡ [] → held_in s ≡ [] → IsBegun files files s
begin files s named held = record {
  names = ap (λ l. names_in l ++ map file_name files) named;
  texts = ap (λ l. files_in l ++ map file_text files) named;
  following = record {
    as_many = ap length held ∙ sym (ap length named);
    each = λ n d h low. absurd (none n (subst (λ l. n < length l) named low));
    known = All-nil (HasSource (named_in s));
  };
}
  where
    none : (n : ℕ) → n < 0 → ⊥
    none n low = omega (arith, low)

pub one_more : (files rest later : List SourceFile) (f : SourceFile) (s t : Sources) → rest ≡ f ∷ later → names_in (named_in t) ≡ names_in (named_in s) ++ file_name f ∷ [] → files_in (named_in t) ≡ files_in (named_in s) ++ file_text f ∷ []
    → AreFollowing [] (named_in t) (held_in t) → IsBegun files rest s → IsBegun files later t
one_more files rest later f s t step names texts following h = record {
  names = ap (λ l. l ++ map file_name later) names ∙ append_assoc (names_in (named_in s)) (file_name f ∷ []) (map file_name later) ∙ ap (λ l. names_in (named_in s) ++ map file_name l) (sym step) ∙ h.names;
  texts = ap (λ l. l ++ map file_text later) texts ∙ append_assoc (files_in (named_in s)) (file_text f ∷ []) (map file_text later) ∙ ap (λ l. files_in (named_in s) ++ map file_text l) (sym step) ∙ h.texts;
  following = following;
}

pub ended : (files rest : List SourceFile) (s : Sources) → rest ≡ [] → IsBegun files rest s → HasFiles files (named_in s)
ended files rest s none h = record {
  names = sym (append-nil (names_in (named_in s))) ∙ ap (λ l. names_in (named_in s) ++ map file_name l) (sym none) ∙ h.names;
  texts = sym (append-nil (files_in (named_in s))) ∙ ap (λ l. files_in (named_in s) ++ map file_text l) (sym none) ∙ h.texts;
}

some_more : (n : ℕ) → suc n ≡ 0 → ⊥
some_more n is = omega (arith, is)

pub empty_of : {X : Type 0} (xs : List X) → length xs ≡ 0 → xs ≡ []
empty_of [] is = refl
empty_of (x ∷ xs) is = absurd (some_more (length xs) is)
