-- The interfaces that a look-up finds are the published ones.
use Rattle.std.proofs.Common.{◌≡◌, ℕ, zero, suc, ◌+◌, ◌<◌, List, [], ◌∷◌, ◌++◌, length, take, get_or, Option, Some, None, Bool, true, false, IsTrue, ◌↔◌, refl, sym, ap, ap₂, subst, ◌∙◌, arith}
use Rattle.std.proofs.lemmas.List.{take_more}
use Rattle.hm_types.specs.Interfaces.{Exports as Interface}
use Rattle.hm_types.specs.StandardPrelude.{prelude_interface}
use Rattle.hm_syntax.specs.declared.ast.Module.{Module}
use Rattle.hm_uses.specs.Uses.{AreUses, UseOf}
use Rattle.hm_store.specs.Builds.{Build, interface_at, interface_in, interface_of, kept_at}
use Rattle.hm_store.specs.Settlements.{settlement, settlement_by, settlement_with}
use Rattle.hm_verdicts.specs.ModuleVerdicts.{Verdict, Good, Faulty}
use Rattle.hm_verdicts.specs.Outcomes.{Checked}
use Rattle.hm_verdicts.specs.Sets.{imports_of, module_at}
use Rattle.hm_build_places.specs.Known.{HasUses, Known}
use Rattle.hm_verdicts.specs.Verdicts.{ArePublished, Status, Published, Failed, Skipped}

published_more : (status : ℕ → Status) (js : List ℕ) (fs : List Interface) (j : ℕ) (f : Interface) → ArePublished status js fs → status j ≡ Published f → ArePublished status (js ++ j ∷ []) (fs ++ f ∷ [])
published_more status [] [] j f h e = (e, tt)
published_more status [] (g ∷ fs) j f h e = absurd h
published_more status (i ∷ js) [] j f h e = absurd h
published_more status (i ∷ js) (g ∷ fs) j f h e = (h.0, published_more status js fs j f h.1 e)

-- the step of a loop
pub taken_published : (status : ℕ → Status) (js : List ℕ) (i d : ℕ) (fs next : List Interface) (f : Interface) → i < length js → ArePublished status (take i js) fs → status (get_or js i d) ≡ Published f → next ≡ fs ++ f ∷ [] → ArePublished status (take (i + 1) js) next
taken_published status js i d fs next f within h e pushed =
    subst (ArePublished status (take (i + 1) js)) (sym pushed) (subst (λ l. ArePublished status l (fs ++ f ∷ [])) (sym (take_more js i d within)) (published_more status (take i js) fs (get_or js i d) f h e))

interface_or : Interface → Option Interface → Interface
interface_or d None = d
interface_or d (Some f) = f

same_interface : (f g : Interface) → Some f ≡ Some g → f ≡ g
unfolding interface_or
same_interface f g e = ap (interface_or f) e

good_with : (v : Verdict) (f : Interface) → interface_of v ≡ Some f → settlement_by v ≡ Published f
good_with (Good g) f e = ap (λ x. Published x) (same_interface g f e)
good_with (Faulty found) f e = absurd (cc)

settled_with : (o : Option Checked) (f : Interface) → interface_in o ≡ Some f → settlement_with o ≡ Published f
settled_with (Some c) f e = good_with c.verdict f e
settled_with None f e = absurd (cc)

-- a module whose interface is kept is published with it
pub looked_up : (b : Build) (j : ℕ) (f : Interface) → interface_at b.kept j ≡ Some f → settlement b j ≡ Published f
looked_up b j f e = settled_with (kept_at b.kept j) f e

faulty_with : (v : Verdict) (f : Interface) → interface_of v ≡ None → ¬ (settlement_by v ≡ Published f)
faulty_with (Good g) f e h = let z : Some g ≡ None = e in absurd (cc)
faulty_with (Faulty found) f e h = let z : Failed found ≡ Published f = h in absurd (cc)

unsettled_with : (o : Option Checked) (f : Interface) → interface_in o ≡ None → ¬ (settlement_with o ≡ Published f)
unsettled_with (Some c) f e h = faulty_with c.verdict f e h
unsettled_with None f e h = let z : Skipped ≡ Published f = h in absurd (cc)

-- a module without an interface isn't published
pub not_looked_up : (b : Build) (j : ℕ) (f : Interface) → interface_at b.kept j ≡ None → ¬ (settlement b j ≡ Published f)
not_looked_up b j f e = unsettled_with (kept_at b.kept j) f e

-- one of the modules isn't published
pub not_all : (status : ℕ → Status) (js : List ℕ) (i d : ℕ) (fs : List Interface) → i < length js → ((f : Interface) → ¬ (status (get_or js i d) ≡ Published f)) → ¬ (ArePublished status js fs)
not_all status [] i d fs within none h = absurd (omega (arith, within))
not_all status (j ∷ js) i d [] within none h = h
not_all status (j ∷ js) zero d (f ∷ fs) within none h = none f h.0
not_all status (j ∷ js) (suc i) d (f ∷ fs) within none h = not_all status js i d fs (omega (arith, within)) none h.1

published_or : Interface → Status → Interface
published_or d (Published f) = f
published_or d (Failed found) = d
published_or d Skipped = d

same_published : (s : Status) (f g : Interface) → s ≡ Published f → s ≡ Published g → f ≡ g
unfolding published_or
same_published s f g e h = ap (published_or f) (sym e ∙ h)

-- modules are published with one list of interfaces
pub one_list : (status : ℕ → Status) (js : List ℕ) (fs gs : List Interface) → ArePublished status js fs → ArePublished status js gs → fs ≡ gs
one_list status [] [] [] a b = refl
one_list status [] [] (g ∷ gs) a b = absurd b
one_list status [] (f ∷ fs) gs a b = absurd a
one_list status (j ∷ js) [] gs a b = absurd a
one_list status (j ∷ js) (f ∷ fs) [] a b = absurd b
one_list status (j ∷ js) (f ∷ fs) (g ∷ gs) a b = ap₂ (λ x xs. x ∷ xs) (same_published (status j) f g a.0 b.0) (one_list status js fs gs a.1 b.1)

-- a test that fails refutes what it decides
pub refuted : (b : Bool) (P : Type 0) → IsTrue b ↔ P → b ≡ false → ¬ P
refuted true P iff e p = let z : true ≡ false = e in absurd (cc)
refuted false P iff e p = let z : false ≡ true = iff.1 p in absurd (cc)

-- the uses of a module for these interfaces
pub has_uses : (k : Known) (i : ℕ) (m : Module) (p : Interface) (fs gs : List Interface) (us : List UseOf) → m ≡ module_at k.set i → p ≡ prelude_interface → gs ≡ fs → ArePublished k.status (imports_of k.set i) fs → AreUses m (p ∷ gs) us → HasUses k i us
has_uses k i m p fs gs us is first same published are =
    record { interfaces = fs; published = published; uses = subst (λ n. AreUses n (prelude_interface ∷ fs) us) is (subst (λ q. AreUses m (q ∷ fs) us) first (subst (λ l. AreUses m (p ∷ l) us) same are)) }
