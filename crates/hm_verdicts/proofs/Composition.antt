-- What a settled table says of each module is the module's verdict in the set.
use Rattle.std.proofs.Common.{◌≡◌, ◌↔◌, ℕ, ◌<◌, Bool, true, List, [], ◌∷◌, map, length, inl, inr, ◌⊎◌, ⊎_elim, refl, sym, ap, ◌∙◌, subst}
use Rattle.hm_types.specs.Interfaces.{Exports as Interface}
use Rattle.hm_types.specs.StandardPrelude.{prelude_interface}
use Rattle.hm_typing.specs.Assignments.{Module as TypingModule, Assignment, outer, IsPrincipal}
use Rattle.hm_typing.specs.Names.{Identifier, global, IsOneOf}
use Rattle.hm_typing.specs.Verdicts.{InClosure, itself, imported, IsImportedBy, IsFaulty, AreTypeFaults, Faulty as faulty_list, IsVerdict as IsListVerdict, IsLawful}
use Rattle.hm_typing.proofs.Closure.{composed}
use Rattle.hm_typing.proofs.ModuleSets.{closure_trans, imported_rank, outer_closed}
use Rattle.hm_typing.proofs.Ordering.{layout}
use Rattle.hm_typing.proofs.SetVerdicts.{not_both}
use Rattle.hm_typing.proofs.Unifying.{unification}
use Rattle.hm_syntax.specs.Names.{Identifier as Name}
use Rattle.hm_syntax.specs.Trees.{Declaration}
use Rattle.hm_names.specs.ModuleCores.{ModuleCore}
use Rattle.hm_names.specs.Cores.{IsCore, assumptions, syntax_of, imported_values}
use Rattle.hm_names.specs.Faults.Phases.{AreFaults, IsWellFormed}
use Rattle.hm_names.specs.Untyped.{Begins, by_clause, by_pattern, by_number, IsTold, here, behind, AreToldAs, AreUntyped}
use Rattle.hm_names.specs.declared.faults.Fault.{Fault}
use Rattle.hm_names.proofs.Elaboration.{assumes_closed}
use Rattle.hm_names.proofs.TopVariables.{distinct_names_of_core}
use Rattle.hm_verdicts.specs.Readings.{Reading, variables, prelude_variables, prelude_table}
use Rattle.hm_verdicts.specs.Sets.{ModuleSet, module_at, imports_of, IsLawfulSet}
use Rattle.hm_verdicts.specs.Skeletons.{skeleton, with_prelude}
use Rattle.hm_verdicts.specs.Verdicts.{IsAccepted, Accepted, IsGoodUnder, IsGoodIn, HasInterface, IsIllFormedIn, IsUntypedIn, IsFaultyIn, Status, Published, Failed, Skipped, IsVerdictIn, ArePublished, IsSettledAt, IsSettled}
use Rattle.hm_verdicts.proofs.Alike.{alike, moved_faults}
use Rattle.hm_verdicts.proofs.Chosen.{reading, S, good_at, published_tells, prelude_given, interfaces_tell, alike_assumptions, principal_at}
use Rattle.hm_verdicts.proofs.Entries.{not_failed, not_skipped, published_at, published_skeleton, published_read, have_skeletons_of, bare_core, bare_is_core, Entry, good, faulty, left, entry, set_of, read_of, FailedFact, failed_fact, judged}
use Rattle.hm_verdicts.proofs.EquallyGeneral.{AssumeAlike, still_faulty}
use Rattle.hm_verdicts.proofs.ImportOrder.{by_imports, import_in}
use Rattle.hm_verdicts.proofs.LawfulReading.{lawful_reading, distinct_names, read_import}
use Rattle.hm_verdicts.proofs.Lists.{one_of_contained}
use Rattle.hm_verdicts.proofs.Moved.{with_interfaces, moved_syntax}
use Rattle.hm_verdicts.proofs.CanonicalSchemes.{declared_as}
use Rattle.hm_verdicts.proofs.FaultLists.{found_one, not_well_formed}
use Rattle.hm_verdicts.proofs.TwoReadings.{import_good, good_under_each}
use Rattle.hm_verdicts.proofs.OneSkeleton.{one_skeletons}
use Rattle.hm_verdicts.proofs.SkeletonOfInterface.{skeletons_twice}

-- Faults

module _ (c : ModuleCore) (gs : List Interface) where
  begins_there : (x : Identifier) (d : Declaration) (k : ℕ) (n : Name) → Begins c x d k n → Begins (with_interfaces gs c) x d k n
  begins_there x d k n (by_clause e) = by_clause e
  begins_there x d k n (by_pattern o e) = by_pattern o e
  begins_there x d k n (by_number e) = by_number e

  begins_back : (x : Identifier) (d : Declaration) (k : ℕ) (n : Name) → Begins (with_interfaces gs c) x d k n → Begins c x d k n
  begins_back x d k n (by_clause e) = by_clause e
  begins_back x d k n (by_pattern o e) = by_pattern o e
  begins_back x d k n (by_number e) = by_number e

  told_there : (x : Identifier) {ds : List Declaration} {n : Name} → IsTold c x ds n → IsTold (with_interfaces gs c) x ds n
  told_there x (here {d = d} {ds = ds} {n = n} b) = here (begins_there x d (length ds) n b)
  told_there x (behind {d = d} {ds = ds} {n = n} u t) = behind (λ o b. u o (begins_back x d (length ds) o b)) (told_there x t)

  told_back : (x : Identifier) {ds : List Declaration} {n : Name} → IsTold (with_interfaces gs c) x ds n → IsTold c x ds n
  told_back x (here {d = d} {ds = ds} {n = n} b) = here (begins_back x d (length ds) n b)
  told_back x (behind {d = d} {ds = ds} {n = n} u t) = behind (λ o b. u o (begins_there x d (length ds) o b)) (told_back x t)

  told_as : (units : List Identifier) (found : List Fault) → AreToldAs c units found → AreToldAs (with_interfaces gs c) units found
  told_as units found t = record {
    some = t.some;
    exact = λ f. (
      (λ k. let q = (t.exact f).0 k in (q.0, (q.1.0, (q.1.1.0, told_there q.0 q.1.1.1, q.1.1.2)))),
      (λ q. (t.exact f).1 (q.0, (q.1.0, (q.1.1.0, told_back q.0 q.1.1.1, q.1.1.2)))),
    );
    ordered = t.ordered;
  }

list_verdict : (c : ModuleCore) (units : List Identifier) (found : List Fault) → AreTypeFaults (assumptions c) (syntax_of c) units → AreToldAs c units found → IsListVerdict (assumptions c) (syntax_of c) (faulty_list units)
list_verdict c [] found a t = let f = found_one found t.some in let q = (t.exact f.0).0 f.1 in q.1.1.0
list_verdict c (x ∷ xs) found a t = a

module _ (p : ModuleSet) (law : IsLawfulSet p) (status : ℕ → Status) (settled : IsSettled p status) where
  abbrev R : Reading p
  R = reading p law status settled

  abbrev T : Assignment
  T = S p law status settled

  lawful : IsLawful R.set prelude_variables
  lawful = lawful_reading p law R

  -- a module of the set that is published
  abbrev IsThere : ℕ → Type 0
  IsThere i = IsAccepted p status i

  there_import : (i j : ℕ) → IsThere i → IsOneOf j (imports_of p i) → IsThere j
  there_import i j t o =
      let w = judged p law status settled i t.0 t.1.0 t.1.1 in
      let f = published_at status (imports_of p i) w.interfaces w.published j o in
      (import_in p law i j t.0 o, (f.0, f.1.0))

  there_below : {i j : ℕ} → InClosure R.set i j → IsThere i → IsThere j
  there_below itself t = t
  there_below (imported {i = i} {j = j} o c) t = there_below c (there_import i j t (read_import p law R i j o).1)

  -- the assignment is principal for published modules with all that they import
  principal_for : (M : ℕ → Type 0) → ((k : ℕ) → M k → IsThere k) → ((k j : ℕ) → M k → InClosure R.set k j → M j) → IsPrincipal R.set M prelude_variables prelude_table T
  principal_for M sub down = composed R.set M prelude_variables prelude_table lawful.rank T
      (λ i x m o. ⊎_elim inl (λ h. inr (h.0, down i h.0 m (imported h.1.1 h.1.2), imported_rank R.set prelude_variables lawful i h.0 h.1, h.2)) (lawful.known i x o))
      (prelude_given p law status settled)
      (λ i m. let t = sub i m in principal_at p law status settled i t.1.0 (good_at p law status settled i t.1.0 t.0 t.1.1))

  there_read : (i : ℕ) → IsThere i → R.read i ≡ true
  there_read i t = published_read p law status settled i t.0 t.1.0 t.1.1

  principal_closure : (i : ℕ) → IsThere i → IsPrincipal R.set (InClosure R.set i) prelude_variables prelude_table T
  principal_closure i t = principal_for (InClosure R.set i) (λ k q. there_below q t) (λ k j q c. closure_trans R.set q c)

  good_under : (i : ℕ) → IsThere i → IsGoodUnder p R i
  good_under i t = record { well_formed = λ k q. there_read k (there_below q t); assignment = T; valid = (principal_closure i t).valid }

  -- Published modules

  pub published_verdict : (i : ℕ) (f : Interface) → i < length p.modules → status i ≡ Published f → HasInterface p i f
  published_verdict i f l e = record {
    reading = R;
    good = good_under i (l, (f, e));
    names = published_skeleton p law status settled i l f e;
    assignment = T;
    principal = principal_closure i (l, (f, e));
    schemes = λ v o. let t = published_tells p law status settled i l f e v (one_of_contained f.values v o) in declared_as v.scheme (T (global v.entity)) t.canonical t.general;
  }

  -- Failed modules

  imports_there : (i : ℕ) → i < length p.modules → (fs : List Interface) → ArePublished status (imports_of p i) fs → (j : ℕ) → IsOneOf j (imports_of p i) → IsThere j
  imports_there i l fs h j o = let f = published_at status (imports_of p i) fs h j o in (import_in p law i j l o, (f.0, f.1.0))

  ill_formed : (i : ℕ) (found : List Fault) (fs : List Interface) → i < length p.modules → ArePublished status (imports_of p i) fs → AreFaults (module_at p i) (prelude_interface ∷ fs) found → IsIllFormedIn p i found
  ill_formed i found fs l h a = record {
    skeletons = map skeleton fs;
    have_skeletons = have_skeletons_of p law status settled i l fs h;
    faults = moved_faults (module_at p i) (prelude_interface ∷ fs) (with_prelude (map skeleton fs)) (alike (prelude_interface ∷ fs) (with_prelude (map skeleton fs)) (skeletons_twice (prelude_interface ∷ fs))) found a;
  }

  -- a module with type faults under the interfaces of its imports, which is read as t
  record UntypedAs (i : ℕ) (found : List Fault) (b : Bool) (t : TypingModule) : Type 0 where
    inside : i < length p.modules
    fs : List Interface
    published : ArePublished status (imports_of p i) fs
    core : ModuleCore
    is_core : IsCore (module_at p i) (prelude_interface ∷ fs) core
    untyped : AreUntyped core found
    read : b ≡ true
    bindings : t.bindings ≡ syntax_of (bare_core p law status settled fs core)
    scope : t.scope ≡ variables (imported_values (with_prelude (map skeleton fs)))

  abbrev UntypedAt : ℕ → List Fault → Type 0
  UntypedAt i found = UntypedAs i found (R.read i) (R.set i)

  abbrev IllFormedAt : ℕ → List Fault → Type 0
  IllFormedAt i found = (fs : List Interface) × (ArePublished status (imports_of p i) fs × AreFaults (module_at p i) (prelude_interface ∷ fs) found)

  failed_from : (i : ℕ) (found : List Fault) (d : Entry p law status settled i) → FailedFact p law status settled i found d → IllFormedAt i found ⊎ UntypedAs i found (read_of p law status settled i d) (set_of p law status settled i d)
  failed_from i found (good f l e j) k = absurd k
  failed_from i found (faulty other fs c l e h is u) k = inr (record { inside = l; fs = fs; published = h; core = c; is_core = is; untyped = subst (λ z. AreUntyped c z) k u; read = refl; bindings = refl; scope = refl })
  failed_from i found left k = inl k

  failed_at : (i : ℕ) (found : List Fault) → i < length p.modules → status i ≡ Failed found → IllFormedAt i found ⊎ UntypedAt i found
  failed_at i found l e = failed_from i found (entry p law status settled i) (failed_fact p law status settled i l found e)

  -- it has them in the set
  faulty_under : (i : ℕ) (found : List Fault) (u : UntypedAt i found) → IsFaulty R.set (λ k. R.read k ≡ true) prelude_variables prelude_table i u.untyped.units
  faulty_under i found u = record {
    imports_good = λ j o. good_under j (imports_there i u.inside u.fs u.published j (read_import p law R i j o).1);
    well_formed = u.read;
    assignment = T;
    principal = principal_for (IsImportedBy R.set i)
        (λ k q. there_below q.2 (imports_there i u.inside u.fs u.published q.0 (read_import p law R i q.0 q.1).1))
        (λ k j q c. (q.0, q.1, closure_trans R.set q.2 c));
    faults = subst (λ ds. IsListVerdict (outer (R.set i) T) ds (faulty_list u.untyped.units)) (sym same) (still_faulty (assumptions u.core) (outer (R.set i) T) (assumes_closed u.core) (outer_closed (R.set i) T) assumed (syntax_of u.core)
        (distinct_names_of_core (module_at p i) (prelude_interface ∷ u.fs) u.core u.is_core) u.untyped.units (list_verdict u.core u.untyped.units found u.untyped.faulty u.untyped.told));
  }
    where
      assumed : AssumeAlike (assumptions u.core) (outer (R.set i) T)
      assumed = alike_assumptions p law status settled i u.fs u.core u.is_core.interfaces (interfaces_tell p law status settled i u.inside u.fs u.published) (R.set i) u.scope

      same : (R.set i).bindings ≡ syntax_of u.core
      same = u.bindings ∙ sym (moved_syntax u.core (with_prelude (map skeleton u.fs)) (ap (map skeleton) u.is_core.interfaces ∙ skeletons_twice (prelude_interface ∷ u.fs)))

  untyped_in : (i : ℕ) (found : List Fault) → UntypedAt i found → IsUntypedIn p i found
  untyped_in i found u = record {
    reading = R;
    units = u.untyped.units;
    faulty = faulty_under i found u;
    skeletons = map skeleton u.fs;
    have_skeletons = have_skeletons_of p law status settled i u.inside u.fs u.published;
    core = bare_core p law status settled u.fs u.core;
    is_core = bare_is_core p law status settled i u.fs u.core u.is_core;
    told = told_as u.core (with_prelude (map skeleton u.fs)) u.untyped.units found u.untyped.told;
  }

  pub failed_verdict : (i : ℕ) (found : List Fault) → i < length p.modules → status i ≡ Failed found → IsFaultyIn p i found
  failed_verdict i found l e = at (failed_at i found l e)
    where
      at : IllFormedAt i found ⊎ UntypedAt i found → IsFaultyIn p i found
      at (inl a) = record { imports_good = λ j o. (R, good_under j (imports_there i l a.0 a.1.0 j o)); faults = inl (ill_formed i found a.0 l a.1.0 a.1.1) }
      at (inr u) = record { imports_good = λ j o. (R, good_under j (imports_there i l u.fs u.published j o)); faults = inr (untyped_in i found u) }

  -- Modules that aren't published are not good

  ill_formed_not_good : (i : ℕ) (found : List Fault) → i < length p.modules → IllFormedAt i found → (r : Reading p) → ¬ (IsGoodUnder p r i)
  ill_formed_not_good i found l a r g =
      let t = r.each i (g.well_formed i itself) in
      let s = ill_formed i found a.0 l a.1.0 a.1.1 in
      let e : t.skeletons ≡ s.skeletons = one_skeletons p t.have_skeletons s.have_skeletons in
      not_well_formed (module_at p i) (with_prelude s.skeletons) found s.faults (subst (λ ks. IsWellFormed (module_at p i) (with_prelude ks)) e t.is_core.well_formed)

  untyped_not_good : (i : ℕ) (found : List Fault) → UntypedAt i found → (r : Reading p) → ¬ (IsGoodUnder p r i)
  untyped_not_good i found u r g =
      not_both unification layout R.set prelude_variables lawful (λ k. R.read k ≡ true) prelude_table i (distinct_names p law R i) u.untyped.units (good_under_each p law r R i g u.read) (faulty_under i found u)

  pub not_good : (i : ℕ) → i < length p.modules → ((f : Interface) → ¬ (status i ≡ Published f)) → ¬ (IsGoodIn p i)
  not_good = by_imports p law (λ i. ((f : Interface) → ¬ (status i ≡ Published f)) → ¬ (IsGoodIn p i)) (λ i l below n g. step i l below n g.0 g.1 (status i) refl (settled i l))
    where
      step : (i : ℕ) → i < length p.modules → ((j : ℕ) → IsOneOf j (imports_of p i) → ((f : Interface) → ¬ (status j ≡ Published f)) → ¬ (IsGoodIn p j)) → ((f : Interface) → ¬ (status i ≡ Published f)) →
          (r : Reading p) → IsGoodUnder p r i → (s : Status) → status i ≡ s → IsSettledAt p status i s → ⊥
      step i l below n r g (Published f) e h = n f e
      step i l below n r g (Failed found) e h = ⊎_elim (λ a. ill_formed_not_good i found l a r g) (λ u. untyped_not_good i found u r g) (failed_at i found l e)
      step i l below n r g Skipped e h = below h.0 h.1.0 h.1.1 (r, import_good p law r i h.0 g h.1.0)

  -- Each status is the verdict in the set
  pub settled_verdict : (i : ℕ) → i < length p.modules → IsVerdictIn p i (status i)
  settled_verdict i l = at (status i) refl (settled i l)
    where
      at : (s : Status) → status i ≡ s → IsSettledAt p status i s → IsVerdictIn p i s
      at (Published f) e h = published_verdict i f l e
      at (Failed found) e h = failed_verdict i found l e
      at Skipped e h = (h.0, (h.1.0, not_good h.0 (import_in p law i h.0 l h.1.0) h.1.1))

  -- Accepted modules

  pub accepted_together : Accepted p status
  accepted_together = record {
    reading = R;
    assignment = T;
    read = λ i a. there_read i a;
    principal = principal_for (λ i. IsAccepted p status i) (λ k m. m) (λ k j m q. there_below q m);
    schemes = λ i f l e v o. let t = published_tells p law status settled i l f e v (one_of_contained f.values v o) in declared_as v.scheme (T (global v.entity)) t.canonical t.general;
  }

  pub accepted_good : (i : ℕ) → i < length p.modules → IsAccepted p status i ↔ IsGoodIn p i
  accepted_good i l = ((λ a. (R, good_under i a)), (λ g. at (status i) refl g))
    where
      at : (s : Status) → status i ≡ s → IsGoodIn p i → IsAccepted p status i
      at (Published f) e g = (l, (f, e))
      at (Failed found) e g = absurd (not_good i l (λ f h. not_failed f found (sym e ∙ h)) g)
      at Skipped e g = absurd (not_good i l (λ f h. not_skipped f (sym e ∙ h)) g)
