use Rattle.std.proofs.Common.{◌∙◌, ◌++◌, ◌∷◌, [], List, ℕ, sym, ap, subst, take}
use Rattle.std.proofs.lemmas.List.{take_more, take_all}
use Rattle.hm_names.specs.Bindings.{Pair}
use Rattle.hm_scope_exports.specs.ExportedRows.{AreOnePerName}
use Rattle.hm_scope_exports.proofs.NamesOnce.{once_none}
use Rattle.hm_scope_exports.proofs.exported.of_namespace.Goals as goal

pub loop-binding-init : goal.loop-binding-init
loop-binding-init c = once_none c.args.space c.new-names.result c.new-out.result.items c.new-names.ensures c.new-out.ensures.items

pub loop-binding-preserved : goal.loop-binding-preserved
loop-binding-preserved c =
    let xs : List Pair = c.args.given.now in
    let x : Pair = c.binding-item.result in
    subst (λ (l : List Pair). AreOnePerName c.args.space l c.add_once.new.names c.add_once.new.out.items) (sym (take_more xs c.loop-binding.binding-index x c.loop-binding-test.true ∙ ap (λ (y : Pair). take c.loop-binding.binding-index xs ++ y ∷ []) (sym c.binding-item.is)))
    (c.in_ok-add_once.ensures _ c.loop-binding.invariant)

pub returns : goal.returns
returns c = subst (λ (n : List (List ℕ)). AreOnePerName c.args.space c.args.given.now n c.loop-binding.out.items) c.loop-binding.invariant.names_are
    (subst (λ (l : List Pair). AreOnePerName c.args.space l c.loop-binding.names c.loop-binding.out.items) (take_all c.loop-binding.binding-index c.args.given.now c.loop-binding-test.false) c.loop-binding.invariant)
