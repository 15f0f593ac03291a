-- The names of imports that aren't published.
use Rattle.std.proofs.Common.{◌≡◌, ◌≢◌, ℕ, suc, ◌<◌, false, List, [], ◌∷◌, ◌++◌, length, get_or, inl, inr, ⊎_elim, refl, sym, ◌∙◌, subst, arith, bytes_eq}
use Rattle.std.specs.List.{IsDistinct, AllByRecursion}
use Rattle.std.specs.List.Sorted.{IsPermutation, IsSortedBy}
use Rattle.std.proofs.lemmas.Bool.{cases_order}
use Rattle.std.proofs.lemmas.List.{length-map, get_or_default}
use Rattle.std.proofs.lemmas.List.Sorted.{Contains-permutation, IsPermutation-sym}
use Rattle.std.proofs.lemmas.Map.Keys.{IsDistinct-cons}
use Rattle.hm_graph.specs.Imports.{IsImportList}
use Rattle.hm_types.specs.Interfaces.{Exports as Interface}
use Rattle.hm_typing.specs.Names.{IsOneOf}
use Rattle.hm_verdicts.specs.Reports.{AreBlamed, name_of_module}
use Rattle.hm_verdicts.specs.Sets.{ModuleSet, imports_of, outlines_of, IsLawfulSet}
use Rattle.hm_verdicts.specs.Verdicts.{Status, Published, Failed, Skipped}
use Rattle.hm_verdicts.proofs.ImportOrder.{import_in}
use Rattle.hm_verdicts.proofs.LawfulReading.{outline_at}
use Rattle.hm_verdicts.proofs.Lists.{one_of_contained, contained, one_of_left, one_of_right, one_of_either}
use Rattle.hm_run_sources.specs.Names.{name_below}
use Rattle.hm_build_reports.specs.ReportBlocks.{blamed, all_blamed}
use Rattle.hm_build_reports.proofs.Strict.{strict, unlike}

abbrev NotPublished : Status → Type 0
NotPublished s = (f : Interface) → ¬ (s ≡ Published f)

blamed_is : (s : Status) (x y : List ℕ) → IsOneOf y (blamed s x) → NotPublished s × (y ≡ x)
blamed_is (Published f) x y o = absurd o
blamed_is (Failed found) x y o = ((λ f e. absurd (cc)), ⊎_elim (λ e. e) (λ none. absurd none) o)
blamed_is Skipped x y o = ((λ f e. absurd (cc)), ⊎_elim (λ e. e) (λ none. absurd none) o)

is_blamed : (s : Status) (x : List ℕ) → NotPublished s → IsOneOf x (blamed s x)
is_blamed (Published f) x n = absurd (n f refl)
is_blamed (Failed found) x n = inl refl
is_blamed Skipped x n = inl refl

module _ (p : ModuleSet) (status : ℕ → Status) where
  -- x is the name of a module of the row that isn't published
  abbrev IsUnpublished : List ℕ → List ℕ → Type 0
  IsUnpublished js x = (j : ℕ) × (IsOneOf j js × (NotPublished (status j) × (x ≡ name_of_module p j)))

  there : (js : List ℕ) (x : List ℕ) → IsOneOf x (all_blamed p.modules status js) → IsUnpublished js x
  there [] x o = absurd o
  there (j ∷ js) x o = ⊎_elim
      (λ h. let b = blamed_is (status j) (name_of_module p j) x h in (j, (inl refl, b)))
      (λ h. let q = there js x h in (q.0, (inr q.1.0, q.1.1)))
      (one_of_either x (blamed (status j) (name_of_module p j)) (all_blamed p.modules status js) o)

  back : (js : List ℕ) (x : List ℕ) → IsUnpublished js x → IsOneOf x (all_blamed p.modules status js)
  back [] x q = absurd q.1.0
  back (j ∷ js) x q = ⊎_elim
      (λ e. one_of_left x (blamed (status j) (name_of_module p j)) (all_blamed p.modules status js)
      (subst (λ k. IsOneOf x (blamed (status k) (name_of_module p k))) e (subst (λ y. IsOneOf y (blamed (status q.0) (name_of_module p q.0))) (sym q.1.1.1) (is_blamed (status q.0) (name_of_module p q.0) q.1.1.0))))
      (λ o. one_of_right x (blamed (status j) (name_of_module p j)) (all_blamed p.modules status js) (back js x (q.0, (o, (q.1.1.0, q.1.1.1)))))
      q.1.0

-- no number stands twice
abbrev pub IsOnce : List ℕ → Type 0
IsOnce [] = Unit {0}
IsOnce (j ∷ js) = ((k : ℕ) → IsOneOf k js → k ≢ j) × IsOnce js

pub once_of : (js : List ℕ) → ((a b : ℕ) → a < b → b < length js → get_or js a 0 ≢ get_or js b 0) → IsOnce js
once_of [] h = tt
once_of (j ∷ js) h = (
  (λ k o e. let c = contained js k o in h 0 (suc c.0) (omega arith) (let l = c.1 in omega (arith, l)) (sym e ∙ (sym c.2 ∙ get_or_default js c.0 k 0 c.1))),
  once_of js (λ a b l m. h (suc a) (suc b) (omega (arith, l)) (omega (arith, m))),
)

every : (P : List ℕ → Type 0) (xs : List (List ℕ)) → ((y : List ℕ) → IsOneOf y xs → P y) → AllByRecursion P xs
every P [] h = tt
every P (x ∷ xs) h = (h x (inl refl), every P xs (λ y o. h y (inr o)))

joined : (s : Status) (x : List ℕ) (rest : List (List ℕ)) → AllByRecursion (λ y. bytes_eq x y ≡ false) rest → IsDistinct bytes_eq rest → IsDistinct bytes_eq (blamed s x ++ rest)
joined (Published f) x rest a d = d
joined (Failed found) x rest a d = IsDistinct-cons bytes_eq x rest a d
joined Skipped x rest a d = IsDistinct-cons bytes_eq x rest a d

-- names of modules of a lawful set are apart
pub names_apart : (p : ModuleSet) → IsLawfulSet p → (i j : ℕ) → i < length p.modules → j < length p.modules → i ≢ j → name_of_module p i ≢ name_of_module p j
names_apart p law i j a b n e = elim (cases_order i j) [
  | inl h ↦ n h
  | inr (inl l) ↦ law.lawful.distinct j (subst (λ k. j < k) (sym (length-map p.modules _)) b) (inr (i, l, outline_at p.modules i ∙ (e ∙ sym (outline_at p.modules j))))
  | inr (inr l) ↦ law.lawful.distinct i (subst (λ k. i < k) (sym (length-map p.modules _)) a) (inr (j, l, outline_at p.modules j ∙ (sym e ∙ sym (outline_at p.modules i))))
]

module _ (p : ModuleSet) (law : IsLawfulSet p) (status : ℕ → Status) where
  distinct : (js : List ℕ) → IsOnce js → ((k : ℕ) → IsOneOf k js → k < length p.modules) → IsDistinct bytes_eq (all_blamed p.modules status js)
  unfolding IsDistinct
  distinct [] once inside = tt
  distinct (j ∷ js) once inside = joined (status j) (name_of_module p j) (all_blamed p.modules status js)
      (every (λ y. bytes_eq (name_of_module p j) y ≡ false) (all_blamed p.modules status js) (λ y o.
      let q = there p status js y o in
      unlike (name_of_module p j) y (λ e. names_apart p law q.0 j (inside q.0 (inr q.1.0)) (inside j (inl refl)) (once.0 q.0 q.1.0) (sym q.1.1.1 ∙ sym e))))
      (distinct js once.1 (λ k o. inside k (inr o)))

  -- the names of the imports that aren't published, in order
  pub are_blamed : (i : ℕ) → i < length p.modules → (names : List (List ℕ)) → IsPermutation (all_blamed p.modules status (imports_of p i)) names → IsSortedBy name_below names → AreBlamed p status i names
  are_blamed i l names same sorted =
      let row = imports_of p i in
      let list : IsImportList (outlines_of p.modules) i row = law.planned.each i (subst (λ n. i < n) (sym (length-map p.modules _)) l) in
      let all = all_blamed p.modules status row in
      record {
        members = λ x. (
          (λ c. there p status row x (one_of_contained all x (Contains-permutation names all x (IsPermutation-sym all names same) c))),
          (λ q. Contains-permutation all names x same (contained all x (back p status row x q))),
        );
        ordered = strict all names (distinct row (once_of row list.once) (λ k o. import_in p law i k l o)) same sorted;
      }
