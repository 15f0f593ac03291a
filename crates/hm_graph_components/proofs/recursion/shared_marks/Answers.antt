use Rattle.std.proofs.Common.{◌≡◌, inl, inr, ◌∙◌, sym, subst, ◌<◌, [], length, get_or, Contains, arith}
use Rattle.std.specs.Vec.{with_items}
use Rattle.std.proofs.lemmas.List.{length-map, get_or_default, with_items_is}
use Rattle.hm_graph_components.specs.Digraph.{lists}
use Rattle.hm_graph_components.specs.Marks.{PlacesGroup}
use Rattle.hm_graph_components.proofs.Rows.{row_at}
use Rattle.hm_graph_components.proofs.Cycles.{SharesBelow, shared_of, of_shared, shares_old, shares_new, shares_cases}
use Rattle.hm_graph_components.proofs.recursion.shared_marks.Goals as goal
use Rattle.hm_graph_components.proofs.recursion.shared_marks.Goals.{then-len-gt1, else-len-gt1}

pub place-requires : goal.place-requires
place-requires c = λ k d inside.
    let below : c.loop-number.number < length c.in_ok-groups.groups.items = omega (arith, c.loop-number-test.true, c.len-number-end.ensures, c.in_ok-groups.groups.ok.0) in
    let row = row_at c.in_ok-groups.groups.items c.loop-number.number c.index-then-len-gt1.result.now below c.index-then-len-gt1.ensures in
    let member = get_or c.deref.result.now k d in
    let there : Contains c.deref.result.now member = (k, inside, get_or_default c.deref.result.now k member d inside) in
    let next = c.in_ok-groups.ensures.each c.loop-number.number (omega (arith, below, length-map c.in_ok-groups.groups.items (λ r. r.items))) in
    let m = (next.group_of.members member).0 (subst (λ xs. Contains xs member) (c.deref.ensures.value ∙ sym row) there) in
    omega (arith, m.0, length-map c.args.rows.now (λ r. r.items), c.deref_mut.ensures.len, c.loop-number.marks.ok.0, c.loop-number.invariant.0)

pub loop-number-preserved : goal.loop-number-preserved
loop-number-preserved c =
    let groups = lists c.in_ok-groups.groups.items in
    let below : c.loop-number.number < length c.in_ok-groups.groups.items = omega (arith, c.loop-number-test.true, c.len-number-end.ensures, c.in_ok-groups.groups.ok.0) in
    let row = row_at c.in_ok-groups.groups.items c.loop-number.number c.index.result.now below c.index.ensures in
    let size : c.len.result ≡ length (get_or (lists c.in_ok-groups.groups.items) c.loop-number.number []) = rw row (c.len.ensures ∙ c.index.result.now.ok.0) in
    elim c.if-len-gt1.branch [
      | then-len-gt1 w ↦
          let places : PlacesGroup w.deref.result.now c.loop-number.marks.items w.place.new.placed = rw w.deref_mut.ensures.value at w.place.ensures in
          let long : length w.place.new.placed ≡ c.loop-number.marks.len = places.nodes ∙ sym c.loop-number.marks.ok.0 in
          let back : (with_items c.loop-number.marks w.place.new.placed).items ≡ w.place.new.placed = with_items_is c.loop-number.marks w.place.new.placed long in
          let same : w.deref.result.now ≡ get_or (lists c.in_ok-groups.groups.items) c.loop-number.number [] =
          w.deref.ensures.value ∙ sym (row_at c.in_ok-groups.groups.items c.loop-number.number w.index-then-len-gt1.result.now below w.index-then-len-gt1.ensures) in
          let large = rw size at w.if-len-gt1.true in
          rw (w.marks-is, back) (
            places.nodes ∙ c.loop-number.invariant.0,
            λ x. (
              (λ marked. elim ((places.marks x).0 marked) [
                | inl old ↦ shares_old groups c.loop-number.number x ((c.loop-number.invariant.1 x).0 old)
                | inr there ↦ shares_new groups c.loop-number.number x large (subst (λ xs. Contains xs x) same there)
              ]),
              (λ shares. (places.marks x).1 (elim (shares_cases groups c.loop-number.number x shares) [
                | inl old ↦ inl ((c.loop-number.invariant.1 x).1 old)
                | inr both ↦ inr (subst (λ xs. Contains xs x) (sym same) both.1)
              ])),
            ),
          )
      | else-len-gt1 w ↦
          rw w.marks-is (
            c.loop-number.invariant.0,
            λ x. (
              (λ marked. shares_old groups c.loop-number.number x ((c.loop-number.invariant.1 x).0 marked)),
              (λ shares. elim (shares_cases groups c.loop-number.number x shares) [
                | inl old ↦ (c.loop-number.invariant.1 x).1 old
                | inr both ↦ absurd (omega (arith, both.0, size, w.if-len-gt1.false))
              ]),
            ),
          )
    ]

pub returns-clause-shared : goal.returns-clause-shared
returns-clause-shared c = λ x.
    let groups = lists c.in_ok-groups.groups.items in
    let all : c.loop-number.number ≡ length (lists c.in_ok-groups.groups.items) =
    omega (arith, length-map c.in_ok-groups.groups.items (λ r. r.items), c.loop-number-test.false, c.loop-number.auto.number-end, c.len-number-end.ensures, c.in_ok-groups.groups.ok.0) in (
      (λ marked. shared_of (lists c.args.rows.now) groups x c.in_ok-groups.ensures (subst (λ n. SharesBelow groups n x) all ((c.loop-number.invariant.1 x).0 marked))),
      (λ shared. (c.loop-number.invariant.1 x).1 (subst (λ n. SharesBelow groups n x) (sym all) (of_shared (lists c.args.rows.now) groups x c.in_ok-groups.ensures shared))),
    )
