-- Worked examples: which modules have notes, and how many of them a reader is shown.
use Rattle.std.specs.Prelude.{◌≡◌, ℕ, List, [], ◌∷◌}
use Rattle.hm_names.specs.declared.faults.Fault.{Fault}
use Rattle.hm_verdicts.specs.Verdicts.{Status, Failed, Skipped}
use Rattle.hm_messages.specs.declared.heading.MessageFormat.TheVariants.{Plain, Json}
use Rattle.hm_build_messages.specs.Explanations.{Numbered, noted_of, skipped_among}

-- of three modules the first and the last are skipped, and the second is faulty. The two have notes, in this order, and the faulty one has none.
-- Of nine notes a reader is shown eight, and a program all
pub record OrderRow : Type 0 where
  pub skipped :
      (status : ℕ → Status) (a b c : Numbered) (found : List Fault) → status a.number ≡ Skipped → status b.number ≡ Failed found → status c.number ≡ Skipped
      → skipped_among status (a ∷ b ∷ c ∷ []) ≡ a ∷ c ∷ []
  pub not_faulty : (status : ℕ → Status) (b : Numbered) (found : List Fault) → status b.number ≡ Failed found → ¬ (skipped_among status (b ∷ []) ≡ b ∷ [])
  pub reader : noted_of Plain 9 ≡ 8
  pub program : noted_of Json 9 ≡ 9
  pub few : noted_of Plain 3 ≡ 3
  pub not_all : ¬ (noted_of Plain 9 ≡ 9)
