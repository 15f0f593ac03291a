-- The changes of a source that a message speaks of, and their edits.
use Rattle.std.specs.Prelude.{◌≡◌, ◌⊎◌, ℕ, All, Bool, List, [], ◌∷◌, string_bytes}
use Rattle.hm_lex.specs.declared.token.Place.{Place}
use Rattle.hm_messages_excerpts.specs.Excerpts.{IsPlaceIn}
use Rattle.hm_messages_json.specs.Positions.{IsPositionAt}
use Rattle.hm_messages_json.specs.declared.changes.Change.{Change}
use Rattle.hm_messages_json.specs.declared.message.Edit.{Edit}

-- a change of the source: a text in place of the bytes from one place up to another, and whether the checker accepted the source with all changes
pub record Changed : Type 0 where
  pub start : Place
  pub end : Place
  pub text : List ℕ
  pub checked : Bool

abbrev pub changed_of : Change → Changed
changed_of c = record { start = c.start; end = c.end; text = string_bytes c.text; checked = c.is_checked }

-- both places of the change are in the source
abbrev pub AreBothIn : List ℕ → Changed → Type 0
AreBothIn source c = IsPlaceIn source c.start × IsPlaceIn source c.end

-- the edit has the change's range and text
pub record IsEditOf (source : List ℕ) (c : Changed) (e : Edit) : Type 0 where
  pub start_at : IsPositionAt source c.start e.start
  pub end_at : IsPositionAt source c.end e.end
  pub text_is : e.text.now ≡ c.text
  pub checked_is : e.is_checked ≡ c.checked

-- an edit for each change, in order
abbrev pub AreEditsOf : List ℕ → List Changed → List Edit → Type 0
AreEditsOf source [] edits = edits ≡ []
AreEditsOf source (c ∷ cs) edits = (e : Edit) × (later : List Edit) × IsEditOf source c e × AreEditsOf source cs later × (edits ≡ e ∷ later)

-- or no edit, if a change isn't in the source
abbrev pub HasEdits : List ℕ → List Changed → List Edit → Type 0
HasEdits source cs edits = AreEditsOf source cs edits ⊎ ((edits ≡ []) × ¬ (All (AreBothIn source) cs))
