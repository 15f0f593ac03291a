-- The held set of a second check: the last good text stands for each source in which the first check has found an error.
use Rattle.std.specs.Prelude.{◌≡◌, ◌⊎◌, ◌<◌, ℕ, true, List, [], Option, None, Some, codes, get_or, length, slice_index_or, string_bytes}
use Rattle.std.specs.List.{Any}
use Rattle.hm_service_messages.specs.declared.diagnostic.Diagnostic.{Diagnostic}
use Rattle.hm_service_sources.specs.HeldSets.{standing_of}
use Rattle.hm_service_sources.specs.declared.held.HeldSource.{HeldSource}
use Rattle.hm_service_stand_ins.specs.Findings.{Findings, HasError}

-- the text that stands for a source in the second check: its last good text if the first has found an error in it and there is one, and else that of
-- the first
pub data StandsIn (f : Findings) (n : ℕ) (h : HeldSource) (good : Option (List ℕ)) (text : List ℕ) : Type 0 where
  older : HasError f h n → good ≡ Some text → StandsIn f n h good text
  no_good : good ≡ None → text ≡ h.standing.items → StandsIn f n h good text
  as_before : ¬ (HasError f h n) → text ≡ h.standing.items → StandsIn f n h good text

-- the source is held with this text, which can be read
pub record IsStandIn (f : Findings) (n : ℕ) (h : HeldSource) (good : Option (List ℕ)) (s : HeldSource) : Type 0 where
  pub stands : StandsIn f n h good s.standing.items
  pub text : s.text.items ≡ s.standing.items
  pub read : s.is_read ≡ true

pub record AreStandIns (f : Findings) (held : List HeldSource) (good : List (Option (List ℕ))) (set : List HeldSource) : Type 0 where
  pub as_many : length set ≡ length held
  pub each : (n : ℕ) (h s : HeldSource) → n < length held → IsStandIn f n (get_or held n h) (slice_index_or good n None) (get_or set n s)

-- the note at an import because of which a module is skipped
abbrev pub IsSkip : Diagnostic → Type 0
IsSkip d = string_bytes d.kind ≡ codes "skipped"

-- the check has skipped a module or left out a source
abbrev pub MissesSome : Findings → List HeldSource → Type 0
MissesSome f held = Any IsSkip f.told ⊎ ¬ (length f.part ≡ length held)

-- the same text stands for source number n in both sets
abbrev pub IsSameAt : List HeldSource → List HeldSource → ℕ → Type 0
IsSameAt held set n = slice_index_or (standing_of set) n [] ≡ slice_index_or (standing_of held) n []

-- the set of a second check, or none: there is one if the first check has missed some and another text stands for some source
abbrev pub IsSecondSet : Findings → List HeldSource → List (Option (List ℕ)) → Option (List HeldSource) → Type 0
IsSecondSet f held good None = ¬ (MissesSome f held) ⊎ ((set : List HeldSource) × (AreStandIns f held good set × ((n : ℕ) → n < length held → IsSameAt held set n)))
IsSecondSet f held good (Some set) = MissesSome f held × (AreStandIns f held good set × ((n : ℕ) × ((n < length held) × ¬ (IsSameAt held set n))))
