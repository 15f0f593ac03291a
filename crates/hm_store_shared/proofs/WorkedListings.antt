-- The worked lists.
use Rattle.std.proofs.Common.{◌≡◌, ◌≢◌, ◌==◌, ℕ, zero, suc, Bool, false, cond, List, [], ◌∷◌, map, length, Option, Some, None, refl, sym, ap, ◌∙◌, arith}
use Rattle.std.specs.Prelude.{All}
use Rattle.std.proofs.lemmas.Bool.Decides.{nat_tests}
use Rattle.hm_types.specs.Interfaces.{Exports as Interface}
use Rattle.hm_syntax.specs.declared.ast.Module.{Module}
use Rattle.hm_graph_components.specs.Digraph.{Edge}
use Rattle.hm_verdicts.specs.Outcomes.{Checked}
use Rattle.hm_store_published.specs.Publications.{IsPublishedIn, interface_in, published_interface}
use Rattle.hm_store_published.specs.Worked.{entry, plan}
use Rattle.hm_store.specs.Builds.{interface_at, kept_at}
use Rattle.hm_store.specs.Worked.{done}
use Rattle.hm_store.specs.declared.object.Turn.TheVariants.{Job}
use Rattle.hm_store.proofs.WorkedBuilds.{not_by_one}
use Rattle.hm_store_shared.specs.Listings.{ArePublications, HasImports, IsListed, IsOfSeen}
use Rattle.hm_store_shared.specs.Worked.{published_as, ListingRow, ClaimRow, PublishRow, SeenRow}

not_one : (m : ℕ) → (1 == suc (suc m)) ≡ false
not_one m = grind (arith, nat_tests)

not_zero : (m : ℕ) → (0 == suc (suc m)) ≡ false
not_zero m = grind (arith, nat_tests)

listed : (modules : List Module) (c d : Checked) → IsListed (done 0 modules (Some d ∷ Some c ∷ [])) (published_as 1 1 c ∷ published_as 0 3 d ∷ [])
listed modules c d = record {
  are = record { entries = refl; outcomes = outcomes };
  same = same;
  within = omega arith;
}
  where
    outcomes : All (λ p. kept_at (Some d ∷ Some c ∷ []) p.number ≡ Some p.outcome) (published_as 1 1 c ∷ published_as 0 3 d ∷ [])
    outcomes zero e lt = refl
    outcomes (suc zero) e lt = refl
    outcomes (suc (suc k)) e lt = absurd (omega (arith, lt))

    same : (m : ℕ) → interface_in (published_as 1 1 c ∷ published_as 0 3 d ∷ []) m ≡ interface_at (Some d ∷ Some c ∷ []) m
    same zero = refl
    same (suc zero) = refl
    same (suc (suc m)) =
        ap (λ (b : Bool). cond b (published_interface (published_as 1 1 c)) (interface_in (published_as 0 3 d ∷ []) (suc (suc m)))) (not_one m)
        ∙ ap (λ (b : Bool). cond b (published_interface (published_as 0 3 d)) None) (not_zero m)

-- the place of the first
first_place : List (ℕ × ℕ) → ℕ
first_place [] = 100
first_place (p ∷ ps) = p.1

pub listings : ListingRow
unfolding first_place
listings = record {
  numbers = refl;
  counted_on = refl;
  listed = listed;
  cut = λ modules kept c (h : ArePublications (done 0 modules kept) (published_as 1 1 c ∷ [])). let e : 1 ≡ 2 = ap length h.entries in absurd (omega (arith, e));
  moved = λ modules kept c d (h : ArePublications (done 0 modules kept) (published_as 1 0 c ∷ published_as 0 3 d ∷ [])). let e : 0 ≡ 1 = ap first_place h.entries in absurd (omega (arith, e));
}

to_one : Edge plan 0 1
to_one = (0, omega arith, refl)

imported : (b : Module) (g : Interface) → HasImports plan (Job 0) (entry 1 1 b [] g ∷ [])
imported b g zero (zero, lt, is) = let e : 1 ≡ 0 = is in absurd (omega (arith, e))
imported b g (suc zero) edge = (g, refl)
imported b g (suc (suc k)) (zero, lt, is) = let e : 1 ≡ suc (suc k) = is in absurd (omega (arith, e))
imported b g k (suc j, lt, is) = absurd (omega (arith, lt))

unseen : ¬ (HasImports plan (Job 0) [])
unseen h = let found : IsPublishedIn [] 1 = h 1 to_one in absurd (cc (found.1))

pub claims : ClaimRow
claims = record {
  imported = imported;
  unseen = unseen;
  none_needed = λ k (edge : Edge plan 1 k). absurd (omega (arith, edge.1));
  nothing_left = tt;
  inside = omega arith;
  outside = λ h. absurd (omega (arith, h));
}

abbrev some_of : List Interface → List (Option Interface)
some_of fs = map (λ f. Some f) fs

pub publishes : PublishRow
publishes = record {
  published = λ modules kept c subject none. ((refl, record { subject = subject; imports = ap some_of none }), refl);
  listed = λ modules kept c. (0, omega arith, refl);
  without_memory = λ modules kept c subject none. ((refl, record { subject = subject; imports = ap some_of none }), refl, refl);
  not_yours = λ modules kept c. (not_by_one, refl, refl);
  unclaimed = λ modules kept c after h. not_by_one h.0.0;
}

fits : (a b : Module) (g : Interface) (c : Checked) → c.«module» ≡ a → c.imports ≡ g ∷ [] → IsOfSeen (a ∷ b ∷ []) plan (entry 1 1 b [] g ∷ []) 0 c
fits a b g c subject imports = record { subject = ap (λ (m : Module). Some m) (sym subject); imports = ap some_of imports }

other : (a b : Module) (g h : Interface) (c : Checked) → c.imports ≡ h ∷ [] → g ≢ h → ¬ (IsOfSeen (a ∷ b ∷ []) plan (entry 1 1 b [] g ∷ []) 0 c)
other a b g h c is ne of = let e : Some h ∷ [] ≡ Some g ∷ [] = sym (ap some_of is) ∙ of.imports in let same : g ≡ h = cc e in ne same

not_seen : (a b : Module) (g : Interface) (c : Checked) → c.imports ≡ g ∷ [] → ¬ (IsOfSeen (a ∷ b ∷ []) plan [] 0 c)
not_seen a b g c is of = let e : Some g ∷ [] ≡ None ∷ [] = sym (ap some_of is) ∙ of.imports in absurd (cc e)

pub seen : SeenRow
seen = record { fits = fits; other = other; unseen = not_seen }
