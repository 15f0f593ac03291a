-- The faults of a module by its verdict.
use Rattle.std.proofs.Common.{◌≡◌, ◌∙◌, ℕ, Contains, List, [], ap, subst, sym}
use Rattle.hm_names.specs.declared.faults.Fault.{Fault}
use Rattle.hm_verdicts.specs.Verdicts.{Failed, Published, Skipped, Status}

abbrev faults_of : Status → List Fault
faults_of (Published i) = []
faults_of (Failed found) = found
faults_of Skipped = []

same_faults : (found others : List Fault) → Failed found ≡ Failed others → found ≡ others
same_faults found others e = ap faults_of e

-- the property of all faults that the code goes through is one of all faults of the verdict
pub by_verdict : (P : List ℕ → Fault → Type 0) (x y : List ℕ) (s : Status) (slice mine found : List Fault) → x ≡ y → slice ≡ mine → s ≡ Failed mine → s ≡ Failed found → ((g : Fault) → Contains slice g → P x g) → (g : Fault) → Contains found g → P y g
by_verdict P x y s slice mine found names rows own failed all g among =
    let same : found ≡ slice = same_faults found mine (sym failed ∙ own) ∙ sym rows in
    subst (λ (z : List ℕ). P z g) names (all g (subst (λ (l : List Fault). Contains l g) same among))

-- and the other way round
pub of_verdict : (P : List ℕ → Fault → Type 0) (x y : List ℕ) (s : Status) (slice mine : List Fault) → x ≡ y → slice ≡ mine → s ≡ Failed mine → ((found : List Fault) → s ≡ Failed found → (g : Fault) → Contains found g → P y g) → (g : Fault) → Contains slice g → P x g
of_verdict P x y s slice mine names rows own all g among =
    subst (λ (z : List ℕ). P z g) (sym names) (all mine own g (subst (λ (l : List Fault). Contains l g) rows among))
