-- A module of a lawful set has one verdict.
use Rattle.std.proofs.Common.{◌≡◌, ℕ, ◌==◌, cond, true, List, [], ◌∷◌, map, Contains, ◌↔◌, inl, inr, ⊎_elim, refl, sym, ap, ap₂, ◌∙◌, subst}
use Rattle.hm_types.specs.declared.Entity.{Entity}
use Rattle.hm_types.specs.declared.entries.ValueEntry.{ValueEntry}
use Rattle.hm_types.specs.Interfaces.{Exports as Interface}
use Rattle.hm_types.specs.Schemes.{TypeScheme}
use Rattle.hm_typing.specs.Assignments.{outer, IsPrincipal}
use Rattle.hm_typing.specs.Names.{Identifier, global, IsOneOf}
use Rattle.hm_typing.specs.Syntax.{names}
use Rattle.hm_typing.specs.Verdicts.{itself, IsImportedBy, IsFaulty, Faulty as faulty_list, IsVerdict as IsListVerdict}
use Rattle.hm_typing.proofs.Ordering.{layout}
use Rattle.hm_typing.proofs.SetVerdicts.{not_both, faulty_where}
use Rattle.hm_typing.proofs.Unifying.{unification}
use Rattle.hm_names.specs.ModuleCores.{ModuleCore}
use Rattle.hm_names.specs.Cores.{IsCore}
use Rattle.hm_names.specs.Faults.Phases.{AreFaults, HasFault, IsWellFormed, Phase, Importing, Declaring, Exporting, Naming, Counting, phase_number, fault}
use Rattle.hm_names.specs.Types.{declared_scheme}
use Rattle.hm_names.specs.Untyped.{IsTold, AreToldAs}
use Rattle.hm_names.specs.declared.faults.Fault.{Fault}
use Rattle.hm_names.specs.declared.faults.Kind.TheVariants.{Untyped}
use Rattle.hm_names.proofs.OneCore.{one_core}
use Rattle.hm_syntax.specs.Names.{Identifier as Name}
use Rattle.hm_verdicts.specs.Readings.{Reading, prelude_variables, prelude_table}
use Rattle.hm_verdicts.specs.Sets.{ModuleSet, module_at, IsLawfulSet}
use Rattle.hm_verdicts.specs.Skeletons.{skeleton, without_scheme, with_prelude}
use Rattle.hm_verdicts.specs.Verdicts.{IsGoodUnder, IsGoodIn, IsSkippedIn, HasInterface, IsIllFormedIn, IsUntypedIn, IsFaultyIn, Status, Published, Failed, Skipped, IsVerdictIn}
use Rattle.hm_verdicts.proofs.CanonicalSchemes.{one_canonical}
use Rattle.hm_verdicts.proofs.FaultLists.{found_one, not_well_formed, same_faults}
use Rattle.hm_verdicts.proofs.LawfulReading.{lawful_reading, distinct_names, value_known}
use Rattle.hm_verdicts.proofs.Lists.{contained, one_of_map}
use Rattle.hm_verdicts.proofs.OneSkeleton.{one_skeleton, one_skeletons}
use Rattle.hm_verdicts.proofs.TwoReadings.{import_good, closure_there, good_under_each, closure_valid, imports_principal}
use Rattle.std.proofs.lemmas.Bool.{cases_order}

-- Values with equal names, entities and schemes
same_values : (h k : Entity → TypeScheme) (xs ys : List ValueEntry) → map without_scheme xs ≡ map without_scheme ys → ((v : ValueEntry) → IsOneOf v xs → v.scheme ≡ h v.entity) → ((v : ValueEntry) → IsOneOf v ys → v.scheme ≡ k v.entity) →
    ((v : ValueEntry) → IsOneOf v xs → h v.entity ≡ k v.entity) → xs ≡ ys
same_values h k [] [] e a b c = refl
same_values h k [] (y ∷ ys) e a b c = absurd (empty_not e)
  where
    is_empty : List ValueEntry → Type 0
    is_empty [] = Unit {0}
    is_empty (z ∷ zs) = ⊥

    empty_not : {z : ValueEntry} {zs : List ValueEntry} → [] ≡ z ∷ zs → ⊥
    empty_not q = subst is_empty q tt
same_values h k (x ∷ xs) [] e a b c = absurd (empty_not (sym e))
  where
    is_empty : List ValueEntry → Type 0
    is_empty [] = Unit {0}
    is_empty (z ∷ zs) = ⊥

    empty_not : {z : ValueEntry} {zs : List ValueEntry} → [] ≡ z ∷ zs → ⊥
    empty_not q = subst is_empty q tt
same_values h k (x ∷ xs) (y ∷ ys) e a b c = ap₂ (λ z zs. z ∷ zs) (same_value (ap (first x) e)) (same_values h k xs ys (ap rest e) (λ v o. a v (inr o)) (λ v o. b v (inr o)) (λ v o. c v (inr o)))
  where
    first : ValueEntry → List ValueEntry → ValueEntry
    first d [] = d
    first d (z ∷ zs) = z

    rest : List ValueEntry → List ValueEntry
    rest [] = []
    rest (z ∷ zs) = zs

    same_value : without_scheme x ≡ without_scheme y → x ≡ y
    same_value q =
        let s : x.scheme ≡ y.scheme = a x (inl refl) ∙ (c x (inl refl) ∙ (ap (λ z. k z.entity) q ∙ sym (b y (inl refl)))) in
        ap (λ z. record { name = z.name; entity = z.entity; scheme = x.scheme }) q ∙ ap (λ z. record { name = y.name; entity = y.entity; scheme = z }) s

-- The phase of the faults

phase_inj : (p q : Phase) → phase_number p ≡ phase_number q → p ≡ q
phase_inj p q e = sym (back p) ∙ (ap of e ∙ back q)
  where
    of : ℕ → Phase
    of n = cond (n == 1) Importing (cond (n == 2) Declaring (cond (n == 3) Exporting (cond (n == 4) Naming Counting)))

    back : (r : Phase) → of (phase_number r) ≡ r
    back Importing = refl
    back Declaring = refl
    back Exporting = refl
    back Naming = refl
    back Counting = refl

one_phase : (m : _) (fs : List Interface) (found other : List Fault) → (a : AreFaults m fs found) → (b : AreFaults m fs other) → a.phase ≡ b.phase
one_phase m fs found other a b = elim (cases_order (phase_number a.phase) (phase_number b.phase)) [
  | inl same ↦ phase_inj a.phase b.phase same
  | inr (inl less) ↦ let f = found_one found a.some in absurd (b.first a.phase less f.0 ((a.exact f.0).0 f.1))
  | inr (inr more) ↦ let f = found_one other b.some in absurd (a.first b.phase more f.0 ((b.exact f.0).0 f.1))
]

pub one_list : (m : _) (fs : List Interface) (found other : List Fault) → AreFaults m fs found → AreFaults m fs other → found ≡ other
one_list m fs found other a b = same_faults (HasFault m fs a.phase) found other a.ordered b.ordered a.exact (subst (λ q. (f : Fault) → Contains other f ↔ HasFault m fs q f) (sym (one_phase m fs found other a b)) b.exact)

-- Faults told of the same units
pub one_telling : (c : ModuleCore) (xs ys : List Identifier) (found other : List Fault) → ((x : Identifier) → IsOneOf x xs → IsOneOf x ys) → ((x : Identifier) → IsOneOf x ys → IsOneOf x xs) → AreToldAs c xs found → AreToldAs c ys other → found ≡ other
one_telling c xs ys found other there back a b = same_faults
    (λ f. (x : Identifier) × ((n : Name) × (IsOneOf x xs × IsTold c x c.decls n × (f ≡ fault Untyped n)))) found other a.ordered b.ordered a.exact
    (λ f. (
      (λ k. let q = (b.exact f).0 k in (q.0, (q.1.0, (back q.0 q.1.1.0, q.1.1.1, q.1.1.2)))),
      (λ q. (b.exact f).1 (q.0, (q.1.0, (there q.0 q.1.1.0, q.1.1.1, q.1.1.2)))),
    ))

module _ (p : ModuleSet) (law : IsLawfulSet p) where
  -- Interfaces

  reads : (i : ℕ) (f : Interface) (a : HasInterface p i f) → a.reading.read i ≡ true
  reads i f a = a.good.well_formed i itself

  same_scheme : (i : ℕ) (f g : Interface) (a : HasInterface p i f) (b : HasInterface p i g) (v : ValueEntry) → IsOneOf v f.values → declared_scheme (a.assignment (global v.entity)) ≡ declared_scheme (b.assignment (global v.entity))
  same_scheme i f g a b v o = ⊎_elim
      (λ q. ap declared_scheme (a.principal.valid.given (global v.entity) q ∙ sym (b.principal.valid.given (global v.entity) q)))
      (λ q.
      let e = reads i f a in
      let k = reads i g b in
      let c = closure_there p law a.reading b.reading q.1.0 e k in
      let n : IsOneOf (global v.entity) (names (b.reading.set q.0).bindings) = subst (λ t. IsOneOf (global v.entity) (names t.bindings))
      (Rattle.hm_verdicts.proofs.LawfulReading.one_reading p law a.reading b.reading q.0 (a.good.well_formed q.0 q.1.0) (b.good.well_formed q.0 c)) q.1.1 in
      one_canonical (a.assignment (global v.entity)) (b.assignment (global v.entity))
      (b.principal.most a.assignment (closure_valid p law a.reading b.reading i e k a.assignment a.principal.valid) q.0 (global v.entity) c n)
      (a.principal.most b.assignment (closure_valid p law b.reading a.reading i k e b.assignment b.principal.valid) q.0 (global v.entity) q.1.0 q.1.1))
      (value_known p law a.reading a.names (reads i f a) (without_scheme v) (one_of_map without_scheme v f.values o))

  one_interface : (i : ℕ) (f g : Interface) → HasInterface p i f → HasInterface p i g → f ≡ g
  one_interface i f g a b =
      let s : skeleton f ≡ skeleton g = one_skeleton p a.names b.names in
      let vs : f.values ≡ g.values = same_values (λ e. declared_scheme (a.assignment (global e))) (λ e. declared_scheme (b.assignment (global e))) f.values g.values (ap (λ k. k.values) s)
      (λ v o. a.schemes v (contained f.values v o)) (λ v o. b.schemes v (contained g.values v o)) (same_scheme i f g a b) in
      ap (λ k. record { name = k.name; types = k.types; synonyms = k.synonyms; constructors = k.constructors; values = f.values }) s ∙
      ap (λ z. record { name = g.name; types = g.types; synonyms = g.synonyms; constructors = g.constructors; values = z }) vs

  -- Faults

  ill_not_good : (i : ℕ) (found : List Fault) → IsIllFormedIn p i found → (r : Reading p) → ¬ (IsGoodUnder p r i)
  ill_not_good i found a r g =
      let t = r.each i (g.well_formed i itself) in
      not_well_formed (module_at p i) (with_prelude a.skeletons) found a.faults (subst (λ ks. IsWellFormed (module_at p i) (with_prelude ks)) (one_skeletons p t.have_skeletons a.have_skeletons) t.is_core.well_formed)

  untyped_not_good : (i : ℕ) (found : List Fault) → IsUntypedIn p i found → (r : Reading p) → ¬ (IsGoodUnder p r i)
  untyped_not_good i found u r g =
      not_both unification layout u.reading.set prelude_variables (lawful_reading p law u.reading) (λ k. u.reading.read k ≡ true) prelude_table i (distinct_names p law u.reading i) u.units (good_under_each p law r u.reading i g u.faulty.well_formed) u.faulty

  not_good : (i : ℕ) (found : List Fault) → IsFaultyIn p i found → ¬ (IsGoodIn p i)
  not_good i found a g = ⊎_elim (λ q. ill_not_good i found q g.0 g.1) (λ q. untyped_not_good i found q g.0 g.1) a.faults

  ill_or_untyped : (i : ℕ) (found other : List Fault) → IsIllFormedIn p i found → ¬ (IsUntypedIn p i other)
  ill_or_untyped i found other a u =
      not_well_formed (module_at p i) (with_prelude a.skeletons) found a.faults (subst (λ ks. IsWellFormed (module_at p i) (with_prelude ks)) (one_skeletons p u.have_skeletons a.have_skeletons) u.is_core.well_formed)

  both_ill : (i : ℕ) (found other : List Fault) → IsIllFormedIn p i found → IsIllFormedIn p i other → found ≡ other
  both_ill i found other a b = one_list (module_at p i) (with_prelude b.skeletons) found other (subst (λ ks. AreFaults (module_at p i) (with_prelude ks) found) (one_skeletons p a.have_skeletons b.have_skeletons) a.faults) b.faults

  -- the units of one are those of the other
  units_there : (xs ys : List Identifier) (A : _) (ds : _) → IsListVerdict A ds (faulty_list xs) → IsListVerdict A ds (faulty_list ys) → (x : Identifier) → IsOneOf x xs → IsOneOf x ys
  units_there [] ys A ds a b x o = absurd o
  units_there (z ∷ zs) [] A ds a b x o = absurd b
  units_there (z ∷ zs) (y ∷ ys) A ds a b x o = (b x).1 ((a x).0 o)

  imports_good_there : (i : ℕ) (r s : Reading p) → r.read i ≡ true → s.read i ≡ true → ((j : ℕ) → IsOneOf j (r.set i).imports → IsGoodUnder p r j) → (j : ℕ) → IsOneOf j (s.set i).imports → IsGoodUnder p s j
  imports_good_there i r s e f good j o =
      let q = (Rattle.hm_verdicts.proofs.LawfulReading.read_import p law s i j o).1 in
      good_under_each p law r s j (good j (subst (λ js. IsOneOf j js) (sym (Rattle.hm_verdicts.proofs.LawfulReading.imports_read p law r i e)) q)) (s.whole i j f q)

  both_untyped : (i : ℕ) (found other : List Fault) → IsUntypedIn p i found → IsUntypedIn p i other → found ≡ other
  both_untyped i found other a b =
      let r = a.reading in
      let s = b.reading in
      let e = a.faulty.well_formed in
      let k = b.faulty.well_formed in
      let P : IsPrincipal r.set (IsImportedBy r.set i) prelude_variables prelude_table b.faulty.assignment = imports_principal p law s r i k e b.faulty.assignment b.faulty.principal in
      let moved : IsFaulty r.set (λ n. r.read n ≡ true) prelude_variables prelude_table i b.units = record {
        imports_good = imports_good_there i s r k e b.faulty.imports_good;
        well_formed = e;
        assignment = b.faulty.assignment;
        principal = P;
        faults = subst (λ t. IsListVerdict (outer t b.faulty.assignment) t.bindings (faulty_list b.units)) (Rattle.hm_verdicts.proofs.LawfulReading.one_reading p law s r i k e) b.faulty.faults;
      } in
      let v : IsListVerdict (outer (r.set i) a.faulty.assignment) (r.set i).bindings (faulty_list b.units) =
      ((faulty_where layout r.set prelude_variables (lawful_reading p law r) (λ n. r.read n ≡ true) prelude_table i (distinct_names p law r i) a.faulty.assignment a.faulty.principal b.units).0 moved).2 in
      let ks : a.skeletons ≡ b.skeletons = one_skeletons p a.have_skeletons b.have_skeletons in
      let c : a.core ≡ b.core = one_core (module_at p i) (with_prelude b.skeletons) a.core b.core (subst (λ z. IsCore (module_at p i) (with_prelude z) a.core) ks a.is_core) b.is_core in
      one_telling b.core a.units b.units found other (units_there a.units b.units _ (r.set i).bindings a.faulty.faults v) (units_there b.units a.units _ (r.set i).bindings v a.faulty.faults) (subst (λ z. AreToldAs z a.units found) c a.told) b.told

  one_faults : (i : ℕ) (found other : List Fault) → IsFaultyIn p i found → IsFaultyIn p i other → found ≡ other
  one_faults i found other a b = ⊎_elim
      (λ q. ⊎_elim (λ h. both_ill i found other q h) (λ h. absurd (ill_or_untyped i found other q h)) b.faults)
      (λ q. ⊎_elim (λ h. absurd (ill_or_untyped i other found h q)) (λ h. both_untyped i found other q h) b.faults)
      a.faults

  skipped_not_good : (i : ℕ) → IsSkippedIn p i → ¬ (IsGoodIn p i)
  skipped_not_good i s g = s.1.1 (g.0, import_good p law g.0 i s.0 g.1 s.1.0)

  -- A module has one verdict
  pub one_verdict : (i : ℕ) (s t : Status) → IsVerdictIn p i s → IsVerdictIn p i t → s ≡ t
  one_verdict i (Published f) (Published g) a b = ap Published (one_interface i f g a b)
  one_verdict i (Published f) (Failed found) a b = absurd (not_good i found b (a.reading, a.good))
  one_verdict i (Published f) Skipped a b = absurd (skipped_not_good i b (a.reading, a.good))
  one_verdict i (Failed found) (Published g) a b = absurd (not_good i found a (b.reading, b.good))
  one_verdict i (Failed found) (Failed other) a b = ap Failed (one_faults i found other a b)
  one_verdict i (Failed found) Skipped a b = absurd (b.1.1 (a.imports_good b.0 b.1.0))
  one_verdict i Skipped (Published g) a b = absurd (skipped_not_good i a (b.reading, b.good))
  one_verdict i Skipped (Failed found) a b = absurd (a.1.1 (b.imports_good a.0 a.1.0))
  one_verdict i Skipped Skipped a b = refl
