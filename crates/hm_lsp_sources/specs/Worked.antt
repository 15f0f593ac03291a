-- Worked examples: which source has a name, which text a source has, and what a file that is read again changes.
use Rattle.std.specs.Prelude.{◌≡◌, List, ℕ, [], ◌∷◌, None, Some, codes, string_bytes}
use Rattle.hm_lsp_session.specs.declared.documents.Document.{Document}
use Rattle.hm_lsp_sources.specs.Files.{IsFileIn}
use Rattle.hm_lsp_sources.specs.Following.{HasText, last_open}
use Rattle.hm_lsp_sources.specs.Names.{IsNumberOf}
use Rattle.hm_lsp_sources.specs.declared.source.Source.{Source}

-- the first source of the name counts
pub record NumbersRow : Type 0 where
  pub first : (s : Source) → s.name.items ≡ codes "file:///a.hs" → IsNumberOf (s ∷ s ∷ []) (codes "file:///a.hs") (Some 0)
  pub not_second : (s : Source) → s.name.items ≡ codes "file:///a.hs" → ¬ (IsNumberOf (s ∷ s ∷ []) (codes "file:///a.hs") (Some 1))

-- a source has the text of its file, unless a document of its name is open. The escape %2B is a plus sign
pub record TextsRow : Type 0 where
  pub closed : (d : Document) → d.text ≡ None → last_open (d ∷ []) (codes "file:///a+b.hs") ≡ None
  pub of_file : (file : List ℕ) → HasText file None file
  pub escaped : (d : Document) → string_bytes d.uri ≡ codes "file:///a%2Bb.hs" → ¬ (d.text ≡ None) → last_open (d ∷ []) (codes "file:///a+b.hs") ≡ Some d
  pub not_other : (d : Document) → string_bytes d.uri ≡ codes "file:///c.hs" → ¬ (last_open (d ∷ []) (codes "file:///a+b.hs") ≡ Some d)

-- a file that is no source becomes one. One that isn't there doesn't
pub record FilesRow : Type 0 where
  pub new : (s : Source) → s.name.items ≡ codes "file:///a.hs" → s.file.items ≡ codes "x" → IsFileIn (codes "file:///a.hs") (Some (codes "x")) [] (s ∷ [])
  pub not_missing : (s : Source) → ¬ (IsFileIn (codes "file:///a.hs") None [] (s ∷ []))
