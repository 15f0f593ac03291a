use Rattle.std.proofs.Common.{◌≡◌, inl, inr, ◌∙◌, sym, subst, [], get_or, Contains, Decides, eqb, false}
use Rattle.std.proofs.lemmas.Bool.{both_ways}
use Rattle.std.proofs.lemmas.Bool.Decides.{Decides-eqb}
use Rattle.std.proofs.lemmas.List.Elements.{contains_decides, Decides-contains}
use Rattle.hm_graph_components.specs.Digraph.{lists}
use Rattle.hm_graph_components.proofs.Rows.{row_at}
use Rattle.hm_graph_components.proofs.Cycles.{cycle_of, of_cycle}
use Rattle.hm_graph_components.proofs.recursion.is_in_cycle.Goals as goal

pub returns-then-shared-number : goal.returns-then-shared-number
returns-then-shared-number c = (
  (λ _. cycle_of (lists c.args.rows.now) c.args.number (inl ((c.requires.shared c.args.number).0 c.if-shared-number.true))),
  (λ _. c.if-shared-number.true),
)

pub returns-else-shared-number : goal.returns-else-shared-number
returns-else-shared-number c =
    let row : c.deref.result.now ≡ get_or (lists c.args.rows.now) c.args.number [] =
    c.deref.ensures.value ∙ sym (row_at c.args.rows.now c.args.number c.index-rows-number.result c.requires.number c.index-rows-number.is) in
    let decides : Decides c.contains.result (Contains c.deref.result.now c.args.number) =
    Decides-contains c.deref.result.now c.args.number c.contains.result (contains_decides eqb Decides-eqb c.deref.result.now c.args.number c.contains.result c.contains.ensures.cases) in (
      (λ set. cycle_of (lists c.args.rows.now) c.args.number (inr (subst (λ xs. Contains xs c.args.number) row (decides.0 set)))),
      (λ reached. elim (of_cycle (lists c.args.rows.now) c.args.number reached) [
        | inl shared ↦ absurd (both_ways (get_or c.args.shared.now c.args.number false) c.if-shared-number.false ((c.requires.shared c.args.number).1 shared))
        | inr edge ↦ decides.1 (subst (λ xs. Contains xs c.args.number) (sym row) edge)
      ]),
    )
