-- Worked sets.
use Rattle.std.proofs.Common.{ℕ, ◌<◌, ◌++◌, List, [], refl, sym, ap, arith, codes}
use Rattle.std.specs.List.Sorted.{IsStrictlySortedBy}
use Rattle.std.proofs.lemmas.Fmt.{decimal_digit}
use Rattle.hm_graph_components.specs.Closure.{Closure, one, more}
use Rattle.hm_graph.specs.Imports.{Imports}
use Rattle.hm_verdicts.specs.Reports.{IsReported}
use Rattle.hm_verdicts.specs.Sets.{IsLawfulSet}
use Rattle.hm_verdicts.specs.Verdicts.{Skipped}
use Rattle.hm_verdicts.specs.Worked.{no_modules}

nothing_below : (i : ℕ) → i < 0 → ⊥
nothing_below i l = absurd (omega (arith, l))

-- the set without modules is lawful
pub empty_lawful : IsLawfulSet no_modules
empty_lawful = record {
  lawful = record { few = λ h. nothing_below 4096 h; distinct = λ m l. absurd (nothing_below m l); found = λ m i l. absurd (nothing_below m l); acyclic = never };
  planned = record { len = refl; each = λ m l. absurd (nothing_below m l) };
}
  where
    never : (m : ℕ) → Closure (Imports []) m m → ⊥
    never m (one r) = nothing_below m r.0
    never m (more c r) = nothing_below m r.0

abbrev line : List ℕ → List ℕ
line x = x ++ codes " modules: " ++ x ++ codes " good, " ++ x ++ codes " faulty, " ++ x ++ codes " skipped\n"

-- and has this text
pub empty_text : IsReported no_modules (codes "0 modules: 0 good, 0 faulty, 0 skipped\n")
unfolding IsStrictlySortedBy
empty_text = record {
  verdicts = λ i. Skipped;
  are_verdicts = λ i l. absurd (nothing_below i l);
  report = record {
    blocks = [];
    each = λ b. ((λ c. absurd (nothing_below c.0 c.1)), (λ q. absurd (nothing_below q.0 q.1.inside)));
    ordered = tt;
    whole = ap line (sym (decimal_digit 0 (omega arith)));
  };
}
