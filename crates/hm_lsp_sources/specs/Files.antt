-- Files that are read again (Language Server Protocol 3.17, "DidChangeWatchedFiles Notification").
use Rattle.std.specs.Prelude.{◌≡◌, ◌++◌, ℕ, List, [], ◌∷◌, Option, None, Some, set}
use Rattle.hm_lsp_sources.specs.Following.{AreKept, files_in, names_in}
use Rattle.hm_lsp_sources.specs.Names.{IsNumberOf}
use Rattle.hm_lsp_sources.specs.declared.source.Source.{Source}

-- the text of a file. One that isn't there has an empty text, as a document has that is no file
abbrev pub text_in : Option (List ℕ) → List ℕ
text_in None = []
text_in (Some text) = text

-- the file with this name has this text, or isn't there: the first source of the name has its text. If no source has the name and the file is there, one is added
pub data IsFileIn (name : List ℕ) (file : Option (List ℕ)) (before after : List Source) : Type 0 where
  known : {n : ℕ} → IsNumberOf before name (Some n) → names_in after ≡ names_in before → files_in after ≡ set (files_in before) n (text_in file) → IsFileIn name file before after
  added : {text : List ℕ} → IsNumberOf before name None → file ≡ Some text → names_in after ≡ names_in before ++ name ∷ [] → files_in after ≡ files_in before ++ text ∷ [] → IsFileIn name file before after
  absent : IsNumberOf before name None → file ≡ None → after ≡ before → IsFileIn name file before after

-- the same, and then sources stay with their names and files
abbrev pub IsFileRead : List ℕ → Option (List ℕ) → List Source → List Source → Type 0
IsFileRead name file before after = (between : List Source) × (IsFileIn name file before between × AreKept between after)
