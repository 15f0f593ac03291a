-- The worked lists.
use Rattle.std.proofs.Common.{◌≤◌, ℕ, zero, suc, [], ◌∷◌, refl, arith}
use Rattle.std.specs.Prelude.{Contains}
use Rattle.hm_types.specs.Interfaces.{Exports as Interface}
use Rattle.hm_syntax.specs.declared.ast.Module.{Module}
use Rattle.hm_store_published.specs.Publications.{IsLawful}
use Rattle.hm_store_published.specs.Worked.{ListsRow, NumbersRow, IsGoodFor, entry, plan}
use Rattle.hm_store_published.proofs.Lawful.{none_lawful, more_lawful}

begun : (a b : Module) (g : Interface) → IsGoodFor b [] g → IsLawful (a ∷ b ∷ []) plan (entry 1 1 b [] g ∷ [])
begun a b g good = more_lawful (a ∷ b ∷ []) plan [] (entry 1 1 b [] g) (none_lawful (a ∷ b ∷ []) plan) (record {
  distinct = λ (k, lt, is). absurd (omega (arith, lt));
  later = omega arith;
  subject = refl;
  imports = refl;
  good = (g, refl);
  asked = good.asked;
  right = good.verdict;
})

lawful : (a b : Module) (f g : Interface) → IsGoodFor b [] g → IsGoodFor a (g ∷ []) f → IsLawful (a ∷ b ∷ []) plan (entry 1 1 b [] g ∷ entry 0 3 a (g ∷ []) f ∷ [])
lawful a b f g low high = more_lawful (a ∷ b ∷ []) plan (entry 1 1 b [] g ∷ []) (entry 0 3 a (g ∷ []) f) (begun a b g low) (record {
  distinct = λ c. other c;
  later = omega arith;
  subject = refl;
  imports = refl;
  good = (f, refl);
  asked = high.asked;
  right = high.verdict;
})
  where
    other : Contains {X = ℕ} (1 ∷ []) 0 → ⊥
    other (zero, lt, is) = absurd (omega (arith, is))
    other (suc k, lt, is) = absurd (omega (arith, lt))

pub lists : ListsRow
lists = record {
  lawful = lawful;
  begun = begun;
  looks = λ a b f g. refl;
  entries = λ a b f g. refl;
  early = λ a b f g h. let e = (h.each 0 (entry 0 1 a (g ∷ []) f) refl).imports in absurd (cc e);
  other = λ a b f g h ne l. let e = (l.each 1 (entry 0 3 a (h ∷ []) f) refl).imports in ne (cc e);
  without = λ a b f g l. let e = (l.each 1 (entry 0 3 a [] f) refl).imports in absurd (cc e);
  renumbered = λ a b g ne l. let e = (l.each 0 (entry 0 1 b [] g) refl).subject in ne (cc e);
  unknown = unknown;
  twice = λ a b g l. (l.each 1 (entry 1 3 b [] g) refl).distinct (0, omega arith, refl);
  backwards = λ a b f g l. let e = (l.each 1 (entry 0 1 a (g ∷ []) f) refl).later in absurd (omega (arith, e));
}
  where
    unknown : (a b : Module) (n : ℕ) (g : Interface) → 2 ≤ n → ¬ (IsLawful (a ∷ b ∷ []) plan (entry n 1 b [] g ∷ []))
    unknown a b zero g le l = absurd (omega (arith, le))
    unknown a b (suc zero) g le l = absurd (omega (arith, le))
    unknown a b (suc (suc n)) g le l = let e = (l.each 0 (entry (suc (suc n)) 1 b [] g) refl).subject in absurd (cc e)

pub numbers : NumbersRow
numbers = record {
  one = λ a b place later g ne l. let e = (l.each 1 (entry 1 later a [] g) refl).subject in ne (cc e);
}
