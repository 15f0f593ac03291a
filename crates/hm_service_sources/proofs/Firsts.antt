-- The first module of each name, and what an import of a name means.
use Rattle.std.proofs.Common.{◌≡◌, ◌≢◌, ℕ, ◌+◌, ◌<◌, true, false, List, [], length, get_or, Option, Some, None, ◌⊎◌, ◌↔◌, inl, inr, refl, ap, sym, ◌∙◌, arith, bytes_eq, eqb, not, map}
use Rattle.std.specs.Map.{update}
use Rattle.std.proofs.lemmas.Map.{update_same, update_other}
use Rattle.std.proofs.lemmas.Bool.{cases_lt, cases_order, cases_Bool, both_ways}
use Rattle.std.proofs.lemmas.Bool.Decides.{Decides-eqb}
use Rattle.std.proofs.lemmas.List.{get_or-map}
use Rattle.std.proofs.lemmas.Slice.Eq.{bytes_eq-Decides}
use Rattle.hm_graph.proofs.Numberings.{same_name}
use Rattle.hm_graph.specs.Imports.{IsTaken, Modules, imports_at, name_at, prelude}
use Rattle.hm_graph.specs.Numbering.{Numbers, number_of}
use Rattle.hm_graph.specs.Outline.{outline}
use Rattle.hm_run_sources.specs.declared.located.Located.{Located}
use Rattle.hm_service_sources.specs.LeftOut.{outlines_of}
use Rattle.hm_service_sources.specs.Steps.{AreFirsts}

-- the names as the code reads them
pub name_is : (located : List Located) (n : ℕ) (d : Located) → n < length located → name_at (outlines_of located) n ≡ (get_or located n d).header.name.text
name_is located n d below = ap (λ o. o.name) (get_or-map (λ (l : Located). outline l.header) located n d (record { name = []; imports = [] }) below)

pub imports_are : (located : List Located) (m : ℕ) (d : Located) → m < length located → imports_at (outlines_of located) m ≡ map (λ i. i.name.text) (get_or located m d).header.imports
imports_are located m d below = ap (λ o. o.imports) (get_or-map (λ (l : Located). outline l.header) located m d (record { name = []; imports = [] }) below)

-- a name that the table has already
pub firsts_old : (modules : Modules) (n k : ℕ) (numbers : Numbers) → number_of numbers (name_at modules n) ≡ Some k → AreFirsts modules n numbers → AreFirsts modules (n + 1) numbers
firsts_old modules n k numbers found f = record {
  some = λ name j at. let s = f.some name j at in (omega (arith, s.0), s.1);
  none = λ name missing j below same. elim (cases_lt j n) [
    | inl less ↦ f.none name missing j less same
    | inr past ↦
        let last : j ≡ n = omega arith in
        let is : name_at modules n ≡ name = rw last at same in
        let clash : Some k ≡ None = sym found ∙ (ap (λ x. number_of numbers x) is ∙ missing) in
        cc
  ];
}

-- a new name
firsts_more : (modules : Modules) (n : ℕ) (numbers new : Numbers) → AreFirsts modules n numbers → number_of numbers (name_at modules n) ≡ None → number_of new (name_at modules n) ≡ Some n → ((name : List ℕ) → name_at modules n ≢ name → number_of new name ≡ number_of numbers name) → AreFirsts modules (n + 1) new
firsts_more modules n numbers new f absent here others = record {
  some = λ name k found. elim (same_name (name_at modules n) name) [
    | inl same ↦
        let at_n : Some n ≡ Some k = sym here ∙ (ap (λ x. number_of new x) same ∙ found) in
        let is : n ≡ k = cc in
        (omega (arith, is), (rw (← is) same, λ j less equal. f.none (name_at modules n) absent j (omega (arith, less, is)) (equal ∙ sym same)))
    | inr apart ↦ let s = f.some name k (sym (others name apart) ∙ found) in (omega (arith, s.0), s.1)
  ];
  none = λ name missing k below same. elim (same_name (name_at modules n) name) [
    | inl is ↦
        let at_n : Some n ≡ None = sym here ∙ (ap (λ x. number_of new x) is ∙ missing) in
        cc
    | inr apart ↦ elim (cases_lt k n) [
      | inl less ↦ f.none name (sym (others name apart) ∙ missing) k less same
      | inr past ↦ let last : k ≡ n = omega arith in apart (rw last at same)
    ]
  ];
}

pub firsts_insert : (modules : Modules) (n : ℕ) (name : List ℕ) (numbers new : Numbers) → name_at modules n ≡ name → AreFirsts modules n numbers → number_of numbers name ≡ None → ((q : List ℕ) → number_of new q ≡ update bytes_eq (number_of numbers) name (Some n) q) → AreFirsts modules (n + 1) new
firsts_insert modules n name numbers new is f absent updated =
    firsts_more modules n numbers new f (rw is absent)
    (rw is (updated name ∙ update_same bytes_eq (number_of numbers) name (Some n) name ((bytes_eq-Decides name name).1 refl)))
    (λ q apart.
    let differ : bytes_eq name q ≡ false = elim (cases_Bool (bytes_eq name q)) [ inl same ↦ absurd (apart (is ∙ (bytes_eq-Decides name q).0 same)) | inr no_match ↦ no_match ] in
    updated q ∙ update_other bytes_eq (number_of numbers) name (Some n) q differ)

module _ (modules : Modules) (n : ℕ) (numbers : Numbers) (f : AreFirsts modules n numbers) (name : List ℕ) where
  -- the module that the table has is the first of its name, so its name isn't taken
  pub found_first : (k : ℕ) → name ≢ prelude → number_of numbers name ≡ Some k → (k < n) × ((name_at modules k ≡ name) × ¬ (IsTaken modules k))
  found_first k other found =
      let s = f.some name k found in
      (s.0, (s.1.0, λ taken. elim taken [ inl same ↦ other (sym s.1.0 ∙ same) | inr (j, less, same) ↦ s.1.1 j less (same ∙ s.1.0) ]))

  pub none_taken : number_of numbers name ≡ None → (k : ℕ) → k < n → name_at modules k ≡ name → IsTaken modules k
  none_taken absent k below same = absurd (f.none name absent k below same)

  pub found_not_missing : (k : ℕ) → number_of numbers name ≡ Some k → (false ≡ true) ↔ ((name ≢ prelude) × ((j : ℕ) → j < n → name_at modules j ≢ name))
  found_not_missing k found = (λ no_way. absurd (both_ways false refl no_way), λ both. let s = f.some name k found in absurd (both.1 k s.0 s.1.0))

  pub absent_missing : name ≢ prelude → number_of numbers name ≡ None → (true ≡ true) ↔ ((name ≢ prelude) × ((j : ℕ) → j < n → name_at modules j ≢ name))
  absent_missing other absent = (λ yes. (other, f.none name absent), λ both. refl)

  -- the module with this name is taken exactly if the table has another one
  pub taken_by_other : (number k : ℕ) → number < n → name_at modules number ≡ name → name ≢ prelude → number_of numbers name ≡ Some k → (k ≢ number) ↔ IsTaken modules number
  taken_by_other number k below is other found =
      let s = f.some name k found in (
        λ differ. elim (cases_order k number) [
          | inl same ↦ absurd (differ same)
          | inr (inl less) ↦ inr (k, less, s.1.0 ∙ sym is)
          | inr (inr more) ↦ absurd (s.1.1 number more is)
        ],
        λ taken same. elim taken [ inl of_prelude ↦ other (sym is ∙ of_prelude) | inr (j, less, equal) ↦ s.1.1 j (omega (arith, less, same)) (equal ∙ is) ],
      )

  pub not_absent : (number : ℕ) → number < n → name_at modules number ≡ name → number_of numbers name ≡ None → ⊥
  not_absent number below is absent = f.none name absent number below is

pub differs : (a b : ℕ) → (not (eqb a b) ≡ true) ↔ (a ≢ b)
differs a b = elim (cases_Bool (eqb a b)) [
  | inl same ↦ (λ h. absurd (both_ways false refl (rw same at h)), λ apart. absurd (apart ((Decides-eqb a b).0 same)))
  | inr no_match ↦ (λ h equal. both_ways (eqb a b) no_match ((Decides-eqb a b).1 equal), λ apart. rw no_match refl)
]
