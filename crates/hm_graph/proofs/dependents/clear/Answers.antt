use Rattle.std.proofs.Common.{false, length, inl, inr, sym, ◌∙◌, arith}
use Rattle.std.proofs.lemmas.Bool.{cases_eq, cases_lt, false≢true}
use Rattle.std.proofs.lemmas.List.{get_or_past, get_or-set_same, get_or-set_other, length-set}
use Rattle.hm_graph.proofs.dependents.clear.Goals as goal

pub loop-place-preserved : goal.loop-place-preserved
loop-place-preserved c =
    let marks = c.loop-place.marks in
    let place = c.loop-place.place in record {
      len = length-set marks place false ∙ c.loop-place.invariant.len;
      clear = λ k lt. elim (cases_eq k place) [
        | inl same ↦ rw same (get_or-set_same marks place false false (omega (arith, c.loop-place-test.true, c.loop-place.invariant.len)))
        | inr other ↦ get_or-set_other marks place k false false other ∙ c.loop-place.invariant.clear k (omega (arith, lt, other))
      ];
    }

pub returns-clause-clear : goal.returns-clause-clear
returns-clause-clear c k mark =
    elim (cases_lt k (length c.loop-place.marks)) [
      | inl less ↦ false≢true (sym (c.loop-place.invariant.clear k (omega (arith, less, c.loop-place.invariant.len, c.loop-place-test.false))) ∙ mark)
      | inr past ↦ false≢true (sym (get_or_past c.loop-place.marks k false past) ∙ mark)
    ]
