use Rattle.std.proofs.Common.{◌≡◌, ◌∙◌, rules, List, ℕ, map, sym, ap, subst, Contains}
use Rattle.std.specs.Prelude.{◌↔◌}
use Rattle.std.specs.Cmp.Lexicographic.{slice_cmp, nat_list_cmp_total}
use Rattle.std.specs.Ordering.{nat_cmp, is_lt}
use Rattle.std.proofs.lemmas.List.{take_all}
use Rattle.std.proofs.lemmas.List.Sorted.{answers_always, ranks_by}
use Rattle.hm_types.specs.Interfaces.{AreOrdered}
use Rattle.hm_names.specs.Bindings.{Pair}
use Rattle.hm_names.specs.declared.cores.Exported.{Exported}
use Rattle.hm_scope_exports.specs.ExportedRows.{IsBound, exported_of}
use Rattle.hm_scope_exports.proofs.NamesOnce.{row_exact, row_ordered, names_of_row}
use Rattle.hm_scope_exports.proofs.exported.exported_in.Goals as goal

pub returns-clause-exact : goal.returns-clause-exact
returns-clause-exact c = λ x e.
    let all : c.loop-binding.items.items ≡ map exported_of c.sort_by.new.self.items = c.loop-binding.invariant ∙ ap (λ (l : List Pair). map exported_of l) (take_all c.loop-binding.binding-index c.deref-binding-items.result.now c.loop-binding-test.false ∙ c.deref-binding-items.ensures.value) in
    subst (λ (l : List Exported). Contains l (record { name = x; entity = e }) ↔ IsBound c.args.given.now c.args.space x e) (sym all)
    (row_exact c.args.space c.args.given.now c.in_ok-bindings.bindings.items c.sort_by.new.self.items c.in_ok-bindings.ensures c.in_ok-sort_by.ensures.permutation c.requires x e)

pub returns-clause-ordered : goal.returns-clause-ordered
returns-clause-ordered c =
    let all : c.loop-binding.items.items ≡ map exported_of c.sort_by.new.self.items = c.loop-binding.invariant ∙ ap (λ (l : List Pair). map exported_of l) (take_all c.loop-binding.binding-index c.deref-binding-items.result.now c.loop-binding-test.false ∙ c.deref-binding-items.ensures.value) in
    let names : map (λ (r : Exported). r.name) c.loop-binding.items.items ≡ map (λ (p : Pair). p.text) c.sort_by.new.self.items = ap (λ (l : List Exported). map (λ (r : Exported). r.name) l) all ∙ names_of_row c.sort_by.new.self.items in
    subst (λ (l : List (List ℕ)). AreOrdered l) (sym names)
    (row_ordered c.args.space c.args.given.now c.in_ok-bindings.bindings.items c.sort_by.new.self.items c.in_ok-bindings.ensures c.in_ok-sort_by.ensures.permutation
    (c.in_ok-sort_by.ensures.sorted (λ (x y : Pair). is_lt (slice_cmp nat_cmp x.text y.text)) (ranks_by nat_list_cmp_total (λ (x : Pair). x.text)) (answers_always _ _ _ (λ f a r g h. search rules))))
