-- What a check says of each source of a held set.
use Rattle.std.specs.Prelude.{◌≡◌, ℕ, All, Contains, List, false, true}
use Rattle.std.specs.List.{Any}
use Rattle.hm_messages_json.specs.declared.message.Level.TheVariants.{Error}
use Rattle.hm_service_messages.specs.declared.diagnostic.Diagnostic.{Diagnostic}
use Rattle.hm_service_sources.specs.declared.held.HeldSource.{HeldSource}
use Rattle.hm_service_stand_ins.specs.declared.said.Said.{Said}

-- the numbers of the sources that are checked, why others are left out, and what is said of those that are checked
pub record Findings : Type 0 where
  pub part : List ℕ
  pub refused : List Diagnostic
  pub told : List Diagnostic

abbrev pub findings_of : Said → Findings
findings_of s = record { part = s.part.now; refused = s.refused.now; told = s.told.now }

-- the diagnostic is an error in source number n
abbrev pub IsErrorAt : ℕ → Diagnostic → Type 0
IsErrorAt n d = (d.source ≡ n) × (d.level ≡ Error)

-- the check has found an error in the source: it can't be read, or is left out, or one of its modules is faulty
pub data HasError (f : Findings) (h : HeldSource) (n : ℕ) : Type 0 where
  unread : h.is_read ≡ false → HasError f h n
  left_out : Any (IsErrorAt n) f.refused → HasError f h n
  faulty : Any (IsErrorAt n) f.told → HasError f h n

-- all modules of the source are good: it can be read, is checked, and no diagnostic is about it
pub record IsGoodIn (f : Findings) (h : HeldSource) (n : ℕ) : Type 0 where
  pub read : h.is_read ≡ true
  pub checked : Contains f.part n
  pub silent : All (λ d. ¬ (d.source ≡ n)) f.told
