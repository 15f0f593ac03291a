-- Modules with the same import closure in two sets (Report 5).
use Rattle.std.specs.Prelude.{◌≡◌, ℕ, ◌<◌, List, [], ◌∷◌, length}
use Rattle.hm_verdicts.specs.Sets.{ModuleSet, imports_of, module_at}
use Rattle.hm_verdicts.specs.Verdicts.{IsSettled, Status}

mutual
  -- module number i of p is module number j of q, and so is each module that it imports, in order, with all that they import
  pub data HasSameClosure (p q : ModuleSet) : ℕ → ℕ → Type 0 where
    same : {i j : ℕ} → i < length p.modules → j < length q.modules → module_at p i ≡ module_at q j → HaveSameClosures p q (imports_of p i) (imports_of q j) → HasSameClosure p q i j

  -- this holds of the modules with these numbers, one by one
  pub data HaveSameClosures (p q : ModuleSet) : List ℕ → List ℕ → Type 0 where
    none : HaveSameClosures p q [] []
    more : {i j : ℕ} {is js : List ℕ} → HasSameClosure p q i j → HaveSameClosures p q is js → HaveSameClosures p q (i ∷ is) (j ∷ js)

-- a module has one status in all settled sets in which it has the same import closure
abbrev pub HasStatusOfClosure : Type 0
HasStatusOfClosure = (p q : ModuleSet) (s t : ℕ → Status) (i j : ℕ) → IsSettled p s → IsSettled q t → HasSameClosure p q i j → s i ≡ t j
