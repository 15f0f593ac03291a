-- The diagnostics of a source, and those that overlap a range.
use Rattle.std.specs.Prelude.{◌≡◌, ◌<◌, ◌⊎◌, List, [], ◌∷◌}
use Rattle.hm_messages_json.specs.declared.message.Position.{Position}
use Rattle.hm_service_messages.specs.declared.diagnostic.Diagnostic.{Diagnostic}

-- the members of a list with a property, in order
abbrev pub AreChosen : (Diagnostic → Type 0) → List Diagnostic → List Diagnostic → Type 0
AreChosen P [] chosen = chosen ≡ []
AreChosen P (d ∷ ds) chosen = (P d × ((later : List Diagnostic) × ((chosen ≡ d ∷ later) × AreChosen P ds later))) ⊎ ((P d → ⊥) × AreChosen P ds chosen)

-- the first position comes before the second
abbrev pub IsBefore : Position → Position → Type 0
IsBefore p q = (p.line < q.line) ⊎ ((p.line ≡ q.line) × (p.columns.bytes < q.columns.bytes))

-- the diagnostic has a place in common with the range
abbrev pub Overlaps : Position → Position → Diagnostic → Type 0
Overlaps start end d = (IsBefore d.end start → ⊥) × (IsBefore end d.start → ⊥)
