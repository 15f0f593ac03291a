-- Parts of the sources, one behind the other; and a source that is alone in its set.
use Rattle.std.proofs.Common.{◌≡◌, ℕ, List, [], ◌∷◌, ◌++◌, length, map, get_or, refl, sym, subst, arith}
use Rattle.std.proofs.lemmas.List.{append-nil, append_assoc}
use Rattle.hm_syntax.specs.declared.ast.Module.{Module}
use Rattle.hm_run_sources.specs.ModuleCounts.{AreCountedModules}
use Rattle.hm_run_sources.specs.Parts.{Follow}
use Rattle.hm_run_sources.specs.SourceModules.{HasModules}

pub follow_both : (before between through : List (List ℕ)) (modules more : List Module) (counts others : List ℕ) → Follow before between modules counts → Follow between through more others
    → Follow before through (modules ++ more) (counts ++ others)
follow_both before between through modules more counts others f l = λ earlier numbers are.
    subst (λ ms. AreCountedModules through ms (numbers ++ (counts ++ others))) (append_assoc earlier modules more)
    (subst (AreCountedModules through ((earlier ++ modules) ++ more)) (append_assoc numbers counts others) (l (earlier ++ modules) (numbers ++ counts) (f earlier numbers are)))

-- the only source of a set
pub alone : {X : Type 0} (view : X → List ℕ) (xs : List X) (d : X) (ms : List Module) (counts : List ℕ) → length xs ≡ 1 → HasModules (view (get_or xs 0 d)) ms → counts ≡ length ms ∷ []
    → AreCountedModules (map view xs) ms counts
alone view [] d ms counts q h e = absurd (omega arith)
alone view (x ∷ []) d ms counts q h e = (ms, [], [], h, (refl, refl), sym (append-nil ms), e)
alone view (x ∷ y ∷ xs) d ms counts q h e = absurd (omega arith)
