-- The report of the worked set.
use Rattle.std.proofs.Common.{◌≡◌, ℕ, zero, suc, ◌+◌, ◌<◌, List, [], ◌∷◌, ◌++◌, map, Contains, inl, inr, ⊎_elim, refl, sym, ap, ap₂, ◌∙◌, subst, arith, codes}
use Rattle.std.specs.Fmt.{decimal}
use Rattle.std.specs.List.{flat_map}
use Rattle.std.specs.List.Sorted.{IsStrictlySortedBy}
use Rattle.std.proofs.lemmas.Fmt.{decimal_digit}
use Rattle.hm_types.specs.Interfaces.{Exports as Interface, AreOrdered}
use Rattle.hm_names.proofs.Members.{none_in, cases, first, rest}
use Rattle.hm_verdicts.specs.Reports.{AreBlamed, Block, IsBlockOf, IsReported, fault_line, name_of_module}
use Rattle.hm_verdicts.specs.Verdicts.{Status, Published, Failed, Skipped, IsSettled, IsSettledAt}
use Rattle.hm_verdicts.specs.Worked.{three_modules, three_texts}
use Rattle.hm_verdicts.proofs.Composition.{settled_verdict}
use Rattle.hm_verdicts.proofs.Entries.{not_failed}
use Rattle.hm_verdicts.proofs.OneReport.{one_block_text}
use Rattle.hm_verdicts.specs.WorkedVerdicts.{fault_Z, three_statuses}
use Rattle.hm_verdicts.proofs.WorkedModules.{good_A, faulty_B}
use Rattle.hm_verdicts.proofs.WorkedPlan.{three, three_lawful}

abbrev status : ℕ → Status
status = three_statuses

-- A and B have been judged by no interfaces, and C's import B isn't published
pub settled : IsSettled three_modules status
settled = three (λ i. IsSettledAt three_modules status i (status i))
    (record { interfaces = []; published = tt; verdict = good_A })
    (record { interfaces = []; published = tt; verdict = faulty_B })
    (1, (inl refl, λ f e. not_failed f (fault_Z ∷ []) e))

-- Blocks

abbrev block_A : Block
block_A = record { name = codes "A"; text = codes "module A\n  val x = A.x :: Char\n" }

abbrev block_B : Block
block_B = record { name = codes "B"; text = codes "faulty B\n  2:9 not-imported Z\n" }

abbrev block_C : Block
block_C = record { name = codes "C"; text = codes "skipped C\n  by B\n" }

pub digit : (n : ℕ) → n < 10 → decimal n ≡ (48 + n) ∷ []
digit n l = decimal_digit n l

pub fault_text : codes "  2:9 not-imported Z\n" ≡ fault_line fault_Z
fault_text = ap₂ (λ x y. codes "  " ++ x ++ codes ":" ++ y ++ codes " " ++ codes "not-imported" ++ codes " " ++ codes "Z" ++ codes "\n") (sym (digit 2 (omega arith))) (sym (digit 9 (omega arith)))

text_B : block_B.text ≡ codes "faulty " ++ name_of_module three_modules 1 ++ codes "\n" ++ flat_map fault_line (fault_Z ∷ [])
text_B = ap (λ x. codes "faulty B\n" ++ flat_map (λ y. y) (x ∷ [])) fault_text

blamed : AreBlamed three_modules status 2 (codes "B" ∷ [])
unfolding IsStrictlySortedBy
blamed = record {
  members = λ x. (
    (λ c. elim (cases (codes "B") [] x c) [ inl e ↦ (1, (inl refl, ((λ f q. not_failed f (fault_Z ∷ []) q), e))) | inr o ↦ absurd (none_in x o) ]),
    (λ h. subst (λ y. Contains (codes "B" ∷ []) y) (sym (at h)) (first (codes "B") [])),
  );
  ordered = (tt, tt);
}
  where
    at : {x : List ℕ} → (j : ℕ) × (Rattle.hm_typing.specs.Names.IsOneOf j (1 ∷ []) × (((f : Interface) → ¬ (status j ≡ Published f)) × (x ≡ name_of_module three_modules j))) → x ≡ codes "B"
    at {x} h = ⊎_elim (λ e. h.1.1.1 ∙ ap (name_of_module three_modules) e) (λ z. absurd z) h.1.0

is_block_A : IsBlockOf three_modules status 0 block_A
is_block_A = record { inside = omega arith; name = refl; text = refl }

is_block_B : IsBlockOf three_modules status 1 block_B
is_block_B = record { inside = omega arith; name = refl; text = text_B }

is_block_C : IsBlockOf three_modules status 2 block_C
is_block_C = record { inside = omega arith; name = refl; text = (codes "B" ∷ [], (blamed, refl)) }

-- a module has one block
one_block : (i : ℕ) (a b : Block) → IsBlockOf three_modules status i a → IsBlockOf three_modules status i b → a ≡ b
one_block i a b p q = ap₂ (λ x y. record { name = x; text = y }) (p.name ∙ sym q.name) (one_block_text three_modules three_lawful status status (λ j l. refl) i p.inside a.text b.text (status i) p.text q.text)

abbrev blocks : List Block
blocks = block_A ∷ block_B ∷ block_C ∷ []

blocks_there : (b : Block) → Contains blocks b → (i : ℕ) × IsBlockOf three_modules status i b
blocks_there b c = elim (cases block_A (block_B ∷ block_C ∷ []) b c) [
  | inl e ↦ (0, subst (λ z. IsBlockOf three_modules status 0 z) (sym e) is_block_A)
  | inr d ↦ elim (cases block_B (block_C ∷ []) b d) [
    | inl e ↦ (1, subst (λ z. IsBlockOf three_modules status 1 z) (sym e) is_block_B)
    | inr k ↦ elim (cases block_C [] b k) [ inl e ↦ (2, subst (λ z. IsBlockOf three_modules status 2 z) (sym e) is_block_C) | inr o ↦ absurd (none_in b o) ]
  ]
]

blocks_back : (b : Block) (i : ℕ) → IsBlockOf three_modules status i b → Contains blocks b
blocks_back b i h = three (λ k. IsBlockOf three_modules status k b → Contains blocks b)
    (λ p. subst (λ z. Contains blocks z) (one_block 0 block_A b is_block_A p) (first block_A (block_B ∷ block_C ∷ [])))
    (λ p. subst (λ z. Contains blocks z) (one_block 1 block_B b is_block_B p) (rest block_A (block_B ∷ block_C ∷ []) block_B (first block_B (block_C ∷ []))))
    (λ p. subst (λ z. Contains blocks z) (one_block 2 block_C b is_block_C p) (rest block_A (block_B ∷ block_C ∷ []) block_C (rest block_B (block_C ∷ []) block_C (first block_C [])))) i h.inside h

ordered : AreOrdered (map (λ b. b.name) blocks)
unfolding IsStrictlySortedBy
ordered = ((refl, (refl, tt)), ((refl, tt), (tt, tt)))

abbrev pub count_of : List ℕ → List ℕ → List ℕ
count_of x y = x ++ codes " modules: " ++ y ++ codes " good, " ++ y ++ codes " faulty, " ++ y ++ codes " skipped\n"

pub three_reported : IsReported three_modules three_texts
three_reported = record {
  verdicts = status;
  are_verdicts = settled_verdict three_modules three_lawful status settled;
  report = record {
    blocks = blocks;
    each = λ b. (blocks_there b, λ q. blocks_back b q.0 q.1);
    ordered = ordered;
    whole = ap₂ (λ x y. flat_map (λ b. b.text) blocks ++ count_of x y) (sym (digit 3 (omega arith))) (sym (digit 1 (omega arith)));
  };
}
