use Rattle.std.proofs.Common.{◌≡◌, true, false, sym, ap, ◌∙◌, Contains, subst, take, ⊎_elim, ◌++◌, ◌∷◌, [], ◌+◌, rules}
use Rattle.std.proofs.lemmas.List.{take_all, take_more}
use Rattle.std.proofs.lemmas.List.Elements.{Contains-push_cases}
use Rattle.hm_syntax.specs.declared.ast.Import.{Import}
use Rattle.hm_names.specs.Scope.{prelude_name}
use Rattle.hm_scope_imports.proofs.imports.names_prelude.Goals as goal

pub loop-import-preserved : goal.loop-import-preserved
loop-import-preserved c = λ i k e.
    let xs = c.args.imports.now in
    let x : Import = c.import-item.result in
    let more : take (c.loop-import.import-index + 1) xs ≡ take c.loop-import.import-index xs ++ x ∷ [] = take_more xs c.loop-import.import-index x c.loop-import-test.true ∙ ap (λ (y : Import). take c.loop-import.import-index xs ++ y ∷ []) (sym c.import-item.is) in
    let apart : x.name.text ≡ prelude_name → ⊥ = search rules in
    ⊎_elim (λ before. c.loop-import.invariant i before e) (λ last. apart (ap (λ (y : Import). y.name.text) last ∙ e)) (Contains-push_cases (take c.loop-import.import-index xs) x i (subst (λ l. Contains l i) more k))

pub returns : goal.returns
returns c = (λ t. let f : false ≡ true = t in cc, λ (i, (k, e)). absurd (c.loop-import.invariant i (subst (λ l. Contains l i) (sym (take_all c.loop-import.import-index c.args.imports.now c.loop-import-test.false)) k) e))
