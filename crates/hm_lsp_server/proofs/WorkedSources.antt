-- Worked examples of what is sent of a source.
use Rattle.std.proofs.Common.{◌≡◌, ◌⊎◌, ◌∷◌, [], ℕ, List, None, Some, ap, arith, codes, inl, inr, length, refl}
use Rattle.hm_lsp_positions.specs.declared.units.Encoding.TheVariants.{Utf16}
use Rattle.hm_lsp_server.specs.Published.{AreCleared, AreSent, diagnostics_notice}
use Rattle.hm_service_messages.specs.declared.diagnostic.Diagnostic.{Diagnostic}
use Rattle.hm_service_places.specs.declared.checked.Checked.{Checked}
use Rattle.hm_service_sources.specs.declared.held.HeldSource.{HeldSource}
use Rattle.hm_service_stand_ins.specs.Missed.{HasTextOfNow, of_now, older}
use Rattle.hm_lsp_server.specs.Second.{AreSecondAt}
use Rattle.hm_lsp_server.specs.declared.second.SecondCheck.{SecondCheck}
use Rattle.hm_lsp_server.specs.Worked.{SecondRow, SentRow}

abbrev uri : List ℕ
uri = codes "file:///a.hs"

abbrev other : List ℕ
other = codes "file:///%61.hs"

some : (u : List ℕ) → [] ≡ diagnostics_notice Utf16 u [] ∷ [] → ⊥
some u e = cc

none_some : (u : List ℕ) → None ≡ Some u → ⊥
none_some u e = cc

apart : other ≡ uri → ⊥
apart e = let z : 14 ≡ 12 = ap (λ (l : List ℕ). length l) e in omega (arith, z)

not_silent : ¬ (AreSent Utf16 (Some uri) uri [] [])
not_silent (inl (same, e)) = some uri e
not_silent (inr (other, e)) = other refl

not_kept : ¬ (AreCleared Utf16 (Some other) uri [])
not_kept (inl (same, e)) = apart same
not_kept (inr (not, e)) = some other e

pub worked_sent : SentRow
worked_sent = record { silent = inr (none_some uri, refl); emptied = inl (refl, refl); not_silent = not_silent; moved = inr (apart, refl); not_kept = not_kept }

some_left : (d : Diagnostic) → d ∷ [] ≡ [] → ⊥
some_left d e = let z : 1 ≡ 0 = ap (λ (l : List Diagnostic). length l) e in omega (arith, z)

not_older : (held : List HeldSource) (c : Checked) (s : SecondCheck) (d : Diagnostic) → ¬ (HasTextOfNow held s.set.items 0) → ¬ (AreSecondAt held c (Some s) 0 (d ∷ []))
not_older held c s d apart (of_now same chosen) = apart same
not_older held c s d apart (older not none) = some_left d none

pub worked_second : SecondRow
worked_second = record { none = λ held c. refl; not_without = λ held c d e. some_left d e; not_older = not_older }
