-- The change of a source that imports a name.
use Rattle.std.specs.Prelude.{◌≡◌, ◌⊎◌, ℕ, ◌+◌, List, [], ◌∷◌, ◌++◌, codes, false}
use Rattle.hm_lex.specs.declared.token.Place.{Place}
use Rattle.hm_messages_excerpts.specs.Excerpts.{IsRestOfLine}
use Rattle.hm_messages_json.specs.Edits.{Changed}

-- an import of the module with this list, and the mark after it
abbrev pub import_text : List ℕ → List ℕ → List ℕ
import_text x item = codes " import " ++ x ++ item ++ codes " ;"

-- a brace is at the place
abbrev pub IsBrace : List ℕ → Place → Type 0
IsBrace source p = (after : List ℕ) × IsRestOfLine source p (codes "{" ++ after)

-- the place after the brace at this one
abbrev pub after_brace : Place → Place
after_brace p = record { line = p.line; column = p.column + 1 }

-- the text is put in after a brace. The checker hasn't accepted the source with it
abbrev pub insertion : Place → List ℕ → Changed
insertion p text = record { start = after_brace p; end = after_brace p; text = text; checked = false }

-- this is the only change, or there is none
abbrev pub IsPutAfter : Place → List ℕ → List Changed → Type 0
IsPutAfter p text changes = (changes ≡ insertion p text ∷ []) ⊎ (changes ≡ [])

-- the text is put in after a brace of the source, or there is no change
abbrev pub IsImportPut : List ℕ → List ℕ → List Changed → Type 0
IsImportPut source text changes = (changes ≡ []) ⊎ ((p : Place) × IsBrace source p × (changes ≡ insertion p text ∷ []))
