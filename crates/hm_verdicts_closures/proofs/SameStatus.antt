-- A module's status follows from its import closure.
use Rattle.std.proofs.Common.{◌≡◌, ◌∙◌, ℕ, List, [], ◌∷◌, inl, inr, refl, sym, ap, ap₂, subst}
use Rattle.hm_types.specs.Interfaces.{Exports as Interface}
use Rattle.hm_types.specs.StandardPrelude.{prelude_interface}
use Rattle.hm_typing.specs.Names.{IsOneOf}
use Rattle.hm_syntax.specs.declared.ast.Module.{Module}
use Rattle.hm_verdicts.specs.Laws.{HasOneModuleVerdict}
use Rattle.hm_verdicts.specs.ModuleVerdicts.{Faulty, Good, IsVerdict, Verdict}
use Rattle.hm_verdicts.specs.Sets.{ModuleSet, imports_of, module_at}
use Rattle.hm_verdicts.specs.Verdicts.{ArePublished, Failed, IsJudged, IsSettled, IsSettledAt, Published, Skipped, Status}
use Rattle.hm_verdicts_closures.specs.Closures.{HasSameClosure, HaveSameClosures, more, none, same}

abbrev status_of : Verdict → Status
status_of (Good f) = Published f
status_of (Faulty found) = Failed found

-- modules with these numbers have the same statuses, one by one
abbrev AreEqual : (ℕ → Status) → (ℕ → Status) → List ℕ → List ℕ → Type 0
AreEqual s t [] [] = Unit {0}
AreEqual s t [] (j ∷ js) = ⊥
AreEqual s t (i ∷ is) [] = ⊥
AreEqual s t (i ∷ is) (j ∷ js) = (s i ≡ t j) × AreEqual s t is js

swapped : (s t : ℕ → Status) (is js : List ℕ) → AreEqual s t is js → AreEqual t s js is
swapped s t [] [] e = tt
swapped s t [] (j ∷ js) e = absurd e
swapped s t (i ∷ is) [] e = absurd e
swapped s t (i ∷ is) (j ∷ js) e = (sym e.0, swapped s t is js e.1)

abbrev interface_or : Interface → Status → Interface
interface_or d (Published f) = f
interface_or d (Failed found) = d
interface_or d Skipped = d

same_interface : (f g : Interface) → Published f ≡ Published g → f ≡ g
same_interface f g e = ap (interface_or f) e

-- so they have the same interfaces
same_interfaces : (s t : ℕ → Status) (is js : List ℕ) (fs gs : List Interface) → AreEqual s t is js → ArePublished s is fs → ArePublished t js gs → fs ≡ gs
same_interfaces s t [] [] [] [] e a b = refl
same_interfaces s t [] [] [] (g ∷ gs) e a b = absurd b
same_interfaces s t [] [] (f ∷ fs) gs e a b = absurd a
same_interfaces s t [] (j ∷ js) fs gs e a b = absurd e
same_interfaces s t (i ∷ is) [] fs gs e a b = absurd e
same_interfaces s t (i ∷ is) (j ∷ js) [] gs e a b = absurd a
same_interfaces s t (i ∷ is) (j ∷ js) (f ∷ fs) [] e a b = absurd b
same_interfaces s t (i ∷ is) (j ∷ js) (f ∷ fs) (g ∷ gs) e a b =
    ap₂ (λ x xs. x ∷ xs) (same_interface f g (sym a.0 ∙ (e.0 ∙ b.0))) (same_interfaces s t is js fs gs e.1 a.1 b.1)

-- if the first ones are published, so is each of the others
published_too : (s t : ℕ → Status) (is js : List ℕ) (fs : List Interface) (k : ℕ) → AreEqual s t is js → ArePublished s is fs → IsOneOf k js → (g : Interface) × (t k ≡ Published g)
published_too s t [] [] fs k e a o = absurd o
published_too s t [] (j ∷ js) fs k e a o = absurd e
published_too s t (i ∷ is) [] fs k e a o = absurd o
published_too s t (i ∷ is) (j ∷ js) [] k e a o = absurd a
published_too s t (i ∷ is) (j ∷ js) (f ∷ fs) k e a (inl here) = (f, ap t here ∙ (sym e.0 ∙ a.0))
published_too s t (i ∷ is) (j ∷ js) (f ∷ fs) k e a (inr later) = published_too s t is js fs k e.1 a.1 later

module _ (law : HasOneModuleVerdict) (p q : ModuleSet) (s t : ℕ → Status) where
  -- both are judged: by the same interfaces, so with the same verdict
  same_verdict : (i j : ℕ) (v w : Verdict) → module_at p i ≡ module_at q j → AreEqual s t (imports_of p i) (imports_of q j) → IsJudged p s i v → IsJudged q t j w → v ≡ w
  same_verdict i j v w m e a b =
      let fs : a.interfaces ≡ b.interfaces = same_interfaces s t (imports_of p i) (imports_of q j) a.interfaces b.interfaces e a.published b.published in
      let own : IsVerdict (module_at q j) (prelude_interface ∷ b.interfaces) v =
      subst (λ (n : Module). IsVerdict n (prelude_interface ∷ b.interfaces) v) m (subst (λ (l : List Interface). IsVerdict (module_at p i) (prelude_interface ∷ l) v) fs a.verdict) in
      law (module_at q j) (prelude_interface ∷ b.interfaces) v w own b.verdict

  -- one is judged and the other one skipped
  not_skipped : (i j : ℕ) (v : Verdict) → AreEqual s t (imports_of p i) (imports_of q j) → IsJudged p s i v → ¬ (IsSettledAt q t j Skipped)
  not_skipped i j v e a skipped =
      let found = published_too s t (imports_of p i) (imports_of q j) a.interfaces skipped.0 e a.published skipped.1.0 in
      skipped.1.1 found.0 found.1

  decided : (i j : ℕ) (a b : Status) → module_at p i ≡ module_at q j → AreEqual s t (imports_of p i) (imports_of q j) → IsSettledAt p s i a → IsSettledAt q t j b
      → ((v : Verdict) → IsJudged q t j v → ¬ (IsSettledAt p s i Skipped)) → a ≡ b
  decided i j (Published f) (Published g) m e x y n = ap status_of (same_verdict i j (Good f) (Good g) m e x y)
  decided i j (Published f) (Failed found) m e x y n = ap status_of (same_verdict i j (Good f) (Faulty found) m e x y)
  decided i j (Published f) Skipped m e x y n = absurd (not_skipped i j (Good f) e x y)
  decided i j (Failed found) (Published g) m e x y n = ap status_of (same_verdict i j (Faulty found) (Good g) m e x y)
  decided i j (Failed found) (Failed others) m e x y n = ap status_of (same_verdict i j (Faulty found) (Faulty others) m e x y)
  decided i j (Failed found) Skipped m e x y n = absurd (not_skipped i j (Faulty found) e x y)
  decided i j Skipped (Published g) m e x y n = absurd (n (Good g) y x)
  decided i j Skipped (Failed found) m e x y n = absurd (n (Faulty found) y x)
  decided i j Skipped Skipped m e x y n = refl

module _ (law : HasOneModuleVerdict) (p q : ModuleSet) (s t : ℕ → Status) (ps : IsSettled p s) (qs : IsSettled q t) where
  mutual
    pub same_status : (i j : ℕ) → HasSameClosure p q i j → s i ≡ t j
    same_status i j (same l k m below) =
        let e : AreEqual s t (imports_of p i) (imports_of q j) = same_statuses (imports_of p i) (imports_of q j) below in
        decided law p q s t i j (s i) (t j) m e (ps i l) (qs j k) (λ v judged. not_skipped law q p t s j i v (swapped s t (imports_of p i) (imports_of q j) e) judged)

    same_statuses : (is js : List ℕ) → HaveSameClosures p q is js → AreEqual s t is js
    same_statuses [] [] none = tt
    same_statuses (i ∷ is) (j ∷ js) (more h hs) = (same_status i j h, same_statuses is js hs)
