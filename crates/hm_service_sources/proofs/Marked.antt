-- Marks of numbers, and numbers without a mark.
use Rattle.std.proofs.Common.{◌≡◌, ℕ, ◌+◌, ◌<◌, ◌≤◌, Bool, true, false, List, [], ◌∷◌, ◌++◌, length, get_or, Contains, ◌⊎◌, ◌↔◌, inl, inr, refl, sym, ◌∙◌, subst, arith, length-append}
use Rattle.std.specs.List.Sorted.{IsStrictlyIncreasing}
use Rattle.std.proofs.lemmas.Bool.{cases_Bool, cases_eq, cases_lt, both_ways}
use Rattle.std.proofs.lemmas.List.{get_or_append_left, get_or_push, get_or-map, length-map}
use Rattle.std.proofs.lemmas.List.Elements.{Contains-append_left}
use Rattle.hm_graph_components.proofs.Members.{Contains-nil, Contains-push_cases, Contains-push_new}
use Rattle.hm_graph_components.proofs.Rows.{IsStrictlyIncreasing-push}
use Rattle.hm_graph_components.specs.Marks.{IsMarked}
use Rattle.hm_graph.specs.Imports.{Modules}
use Rattle.hm_run_sources.specs.declared.located.Located.{Located}
use Rattle.hm_service_sources.specs.LeftOut.{IsInTheWay, IsLeftOut, source_at}
use Rattle.hm_service_sources.specs.Steps.{AreMarksBelow, AreWayMarks}

-- the numbers below i without a mark
pub record AreUnmarkedBelow (marks : List Bool) (i : ℕ) (numbers : List ℕ) : Type 0 where
  pub ascending : IsStrictlyIncreasing numbers
  pub members : (k : ℕ) → Contains numbers k ↔ ((k < i) × ¬ (IsMarked marks k))

pub unmarked_begin : (marks : List Bool) → AreUnmarkedBelow marks 0 []
unmarked_begin marks = record {
  ascending = λ k below. absurd (omega (arith, below));
  members = λ k. (λ c. absurd (Contains-nil k c), λ h. absurd (omega (arith, h.0)));
}

pub unmarked_next : (marks : List Bool) (i : ℕ) (numbers : List ℕ) → get_or marks i false ≡ false → AreUnmarkedBelow marks i numbers → AreUnmarkedBelow marks (i + 1) (numbers ++ i ∷ [])
unmarked_next marks i numbers clear so_far = record {
  ascending = IsStrictlyIncreasing-push numbers i so_far.ascending (λ x there. ((so_far.members x).0 there).0);
  members = λ k. (
    λ c. elim (Contains-push_cases numbers i k c) [
      | inl before ↦ let h = (so_far.members k).0 before in let below = h.0 in (omega (arith, below), h.1)
      | inr same ↦ (omega (arith, same), λ mark. both_ways (get_or marks i false) clear (rw same at mark))
    ],
    λ h. elim (cases_eq k i) [
      | inl same ↦ Contains-push_new numbers i k same
      | inr apart ↦ let below = h.0 in Contains-append_left numbers (i ∷ []) k ((so_far.members k).1 (omega (arith, below, apart), h.1))
    ],
  );
}

pub marked_next : (marks : List Bool) (i : ℕ) (numbers : List ℕ) → IsMarked marks i → AreUnmarkedBelow marks i numbers → AreUnmarkedBelow marks (i + 1) numbers
marked_next marks i numbers marked so_far = record {
  ascending = so_far.ascending;
  members = λ k. (
    λ c. let h = (so_far.members k).0 c in let below = h.0 in (omega (arith, below), h.1),
    λ h. elim (cases_eq k i) [
      | inl same ↦ absurd (h.1 (rw same marked))
      | inr apart ↦ let below = h.0 in (so_far.members k).1 (omega (arith, below, apart), h.1)
    ],
  );
}

-- one more mark
pub way_begin : (modules : Modules) → AreWayMarks modules 0 []
way_begin modules = record { as_many = refl; each = λ m below. absurd (omega (arith, below)) }

pub way_more : (modules : Modules) (n : ℕ) (marks : List Bool) (mark : Bool) → AreWayMarks modules n marks → (mark ≡ true) ↔ IsInTheWay modules n → AreWayMarks modules (n + 1) (marks ++ mark ∷ [])
way_more modules n marks mark so_far here = record {
  as_many = omega (arith, so_far.as_many, length-append marks (mark ∷ []));
  each = λ m below. elim (cases_lt m n) [
    | inl less ↦ rw (get_or_append_left marks (mark ∷ []) false m (omega (arith, less, so_far.as_many))) (so_far.each m less)
    | inr past ↦ let last : m ≡ n = omega arith in rw (get_or_push marks mark false m (omega (arith, last, so_far.as_many)), last) here
  ];
}

-- the mark of one more module at its source
pub marks_begin : (located : List Located) (ways : List Bool) (sources : ℕ) (marks : List Bool) → length marks ≡ sources → ((s : ℕ) → ¬ (IsMarked marks s)) → AreMarksBelow located ways sources 0 marks
marks_begin located ways sources marks size none = record {
  as_many = size;
  each = λ s. (λ mark. absurd (none s mark), λ h. let below = h.1.0 in absurd (omega (arith, below)));
}

pub marks_more : (located : List Located) (ways : List Bool) (sources n : ℕ) (old new : List Bool) (at : ℕ) (mark : Bool) → AreMarksBelow located ways sources n old → source_at located n ≡ at → get_or ways n false ≡ mark → length new ≡ length old → ((k : ℕ) → IsMarked new k ↔ (IsMarked old k ⊎ ((k ≡ at) × (mark ≡ true)))) → AreMarksBelow located ways sources (n + 1) new
marks_more located ways sources n old new at mark so_far place way size marks = record {
  as_many = size ∙ so_far.as_many;
  each = λ s. (
    λ here. elim ((marks s).0 here) [
      | inl before ↦ let h = (so_far.each s).0 before in let below = h.1.0 in (h.0, (omega (arith, below), h.1.1))
      | inr both ↦ (n, (omega arith, (place ∙ sym both.0, way ∙ both.1)))
    ],
    λ h. elim (cases_eq h.0 n) [
      | inl same ↦ (marks s).1 (inr (sym h.1.1.0 ∙ (subst (λ m. source_at located m ≡ at) (sym same) place), sym way ∙ subst (λ m. IsMarked ways m) same h.1.1.1))
      | inr apart ↦ let below = h.1.0 in (marks s).1 (inl ((so_far.each s).1 (h.0, (omega (arith, below, apart), h.1.1))))
    ],
  );
}

pub source_is : (located : List Located) (m : ℕ) (d : Located) → m < length located → source_at located m ≡ (get_or located m d).source
source_is located m d below = get_or-map (λ (l : Located). l.source) located m d 0 below

pub unmarked_end : (marks : List Bool) (i : ℕ) (numbers : List ℕ) → length marks ≤ i → i ≤ length marks → AreUnmarkedBelow marks i numbers → (k : ℕ) → Contains numbers k ↔ ((k < length marks) × ¬ (IsMarked marks k))
unmarked_end marks i numbers low high so_far k = (
  λ c. let h = (so_far.members k).0 c in let below = h.0 in (omega (arith, below, high), h.1),
  λ h. let below = h.0 in (so_far.members k).1 (omega (arith, below, low), h.1),
)

pub same_members : (located : List Located) (sources : ℕ) (marks : List Bool) (numbers : List ℕ) → length marks ≡ sources → ((s : ℕ) → IsMarked marks s ↔ IsLeftOut located s) → ((k : ℕ) → Contains numbers k ↔ ((k < length marks) × ¬ (IsMarked marks k))) → (s : ℕ) → Contains numbers s ↔ ((s < sources) × ¬ (IsLeftOut located s))
same_members located sources marks numbers size are members s = (
  λ c. let h = (members s).0 c in let below = h.0 in (omega (arith, below, size), λ out. h.1 ((are s).1 out)),
  λ h. let below = h.0 in (members s).1 (omega (arith, below, size), λ mark. h.1 ((are s).0 mark)),
)
