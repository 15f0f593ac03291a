-- Selectors, and what their groups have.
use Rattle.std.proofs.Common.{◌≡◌, ℕ, suc, Bool, true, false, cond, ◌&&◌, List, [], ◌∷◌, ◌++◌, length, Option, Some, None, inl, inr, ⊎_elim, refl, sym, ap, ap₂, ◌∙◌, subst, Bor, option_map, Contains, Decides, bytes_eq, IsTrue, Vec, arith, not, nat_eq}
use Rattle.std.specs.Prelude.{◌↔◌}
use Rattle.std.specs.Option.{option_eq}
use Rattle.std.specs.Map.{lookup}
use Rattle.std.specs.declared.alloc.Global.{Global}
use Rattle.std.proofs.lemmas.Bool.{cases_Bool}
use Rattle.std.proofs.lemmas.Bool.Decides.{Decides-and, nat_tests}
use Rattle.std.proofs.lemmas.Slice.Eq.{bytes_eq-Decides}
use Rattle.std.proofs.lemmas.List.Elements.{Contains-append_left, Contains-append_right, Contains-append_cases}
use Rattle.indexmap.specs.IndexMap.{get_by}
use Rattle.hm_scope_export_items.specs.declared.export_groups.Selector.{Selector}
use Rattle.hm_names.specs.Bindings.{Pair, Adds}
use Rattle.hm_scope_export_items.specs.ExportGroups.{same_selector, Groups, grouped, group_of}

same_part : (a b : Option (Bor (List ℕ))) → Decides (option_eq (λ x y. bytes_eq x.now y.now) a b) (option_map (λ q. q.now) a ≡ option_map (λ q. q.now) b)
same_part None None = (λ _. refl, λ _. refl)
same_part None (Some y) = (λ e. let f : false ≡ true = e in cc, λ e. cc)
same_part (Some x) None = (λ e. let f : false ≡ true = e in cc, λ e. cc)
same_part (Some x) (Some y) = (λ e. ap Some ((bytes_eq-Decides x.now y.now).0 e), λ e. (bytes_eq-Decides x.now y.now).1 (cc))

-- two selectors are of one thing
pub record IsSameSelector (j k : Selector) : Type 0 where
  pub module_is : j.«module».now ≡ k.«module».now
  pub owner_is : option_map (λ t. t.now) j.owner ≡ option_map (λ t. t.now) k.owner
  pub part_is : option_map (λ t. t.now) j.part ≡ option_map (λ t. t.now) k.part

pub same_selector_decides : (j k : Selector) → Decides (same_selector j k) (IsSameSelector j k)
same_selector_decides j k =
    let parts = Decides-and _ _ (bytes_eq-Decides j.«module».now k.«module».now) (Decides-and _ _ (same_part j.owner k.owner) (same_part j.part k.part)) in
    (λ e. let p = parts.0 e in record { module_is = p.0; owner_is = p.1.0; part_is = p.1.1 }, λ s. parts.1 (s.module_is, (s.owner_is, s.part_is)))

like : (a b c : Option (Bor (List ℕ))) → option_map (λ q. q.now) a ≡ option_map (λ q. q.now) b → option_eq (λ x y. bytes_eq x.now y.now) b c ≡ option_eq (λ x y. bytes_eq x.now y.now) a c
like None None c e = refl
like None (Some y) c e = cc
like (Some x) None c e = cc
like (Some x) (Some y) None e = refl
like (Some x) (Some y) (Some z) e = let f : x.now ≡ y.now = cc in ap (λ t. bytes_eq t z.now) (sym f)

same_test : (j k : Selector) → IsSameSelector j k → (x : Selector) → same_selector k x ≡ same_selector j x
same_test j k s x = ap₂ (λ a b. a && b) (ap (λ t. bytes_eq t x.«module».now) (sym s.module_is)) (ap₂ (λ a b. a && b) (like j.owner k.owner x.owner s.owner_is) (like j.part k.part x.part s.part_is))

pub same_group : (groups : Groups) (j k : Selector) → same_selector j k ≡ true → group_of groups k ≡ group_of groups j
same_group groups j k e = ap grouped (found groups.entries)
  where
    found : {X : Type 0} (es : List (Selector × X)) → lookup (same_selector k) es ≡ lookup (same_selector j) es
    found [] = refl
    found (x ∷ es) = ap₂ (λ b o. cond b (Some x.1) o) (same_test j k ((same_selector_decides j k).0 e) x.0) (found es)

pub group_added : {Y : Type 0} (old new group found : List Y) → new ≡ old ++ group → group ≡ found → Adds old new (Contains found)
group_added old new group found is same p = (
  (λ h. let c : Contains (old ++ found) p = subst (λ l. Contains l p) (is ∙ ap (λ l. old ++ l) same) h in Contains-append_cases old found p c),
  (λ h. subst (λ l. Contains l p) (sym (is ∙ ap (λ l. old ++ l) same)) (⊎_elim (λ o. Contains-append_left old found p o) (λ n. Contains-append_right old found p n) h)),
)

no_element : {Y : Type 0} (p : Y) → ¬ Contains [] p
no_element p (k, h, e) = omega (arith, h)

not_zero : (n : ℕ) → nat_eq (suc n) 0 ≡ false
not_zero n = grind (arith, nat_tests)

pub group_found : {Y : Type 0} (group found : List Y) (r : Bool) (n : ℕ) → r ≡ nat_eq n 0 → length group ≡ n → group ≡ found → IsTrue (not r) ↔ ((p : Y) × Contains found p)
group_found group found r n is long same = rw (is, ← long, ← same) (elements group)
  where
    elements : {Y : Type 0} (l : List Y) → IsTrue (not (nat_eq (length l) 0)) ↔ ((p : Y) × Contains l p)
    elements [] = (λ h. let f : false ≡ true = h in cc, λ (p, h). absurd (no_element p h))
    elements (x ∷ l) = (λ h. (x, (0, omega arith, refl)), λ h. let f : nat_eq (length (x ∷ l)) 0 ≡ false = not_zero (length l) in ap not f)

pub first_of_group : (old mid new : Groups) (s k : Selector) (v : Vec Pair Global) (b : Pair) → mid ≡ old → None ≡ get_by (same_selector s) old → v.items ≡ b ∷ []
    → get_by (same_selector k) new ≡ cond (same_selector s k) (Some v) (get_by (same_selector k) mid) → group_of new k ≡ cond (same_selector s k) (group_of old k ++ b ∷ []) (group_of old k)
first_of_group old mid new s k v b kept none one is = elim (cases_Bool (same_selector s k)) [
  | inl same ↦
      let nothing : group_of old k ≡ [] = same_group old s k same ∙ ap grouped (sym none) in
      ap grouped (is ∙ ap (λ t. cond t (Some v) (get_by (same_selector k) mid)) same) ∙ one ∙ ap (λ l. l ++ b ∷ []) (sym nothing) ∙ ap (λ t. cond t (group_of old k ++ b ∷ []) (group_of old k)) (sym same)
  | inr apart ↦
      ap grouped (is ∙ ap (λ t. cond t (Some v) (get_by (same_selector k) mid)) apart ∙ ap (λ (g : Groups). get_by (same_selector k) g) kept) ∙ ap (λ t. cond t (group_of old k ++ b ∷ []) (group_of old k)) (sym apart)
]
