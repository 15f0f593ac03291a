use Rattle.std.proofs.Common.{◌∷◌, List, map, sym, ◌∙◌, ap, subst}
use Rattle.std.specs.Arc.{arc_value}
use Rattle.hm_types.specs.Interfaces.{Exports as Interface}
use Rattle.hm_names.specs.Bindings.{Adds, IsScopeOf, Pair}
use Rattle.hm_scope_imports.specs.Apart.{AreNamedApart}
use Rattle.hm_scope_imports.specs.Selections.{IsImportedPair}
use Rattle.hm_scope_imports.proofs.SelectedPairs.{scope_is}
use Rattle.hm_scope_imports.proofs.imports.scope_of.Goals as goal

pub returns : goal.returns
returns c =
    let m = c.args.program.now in
    let fs : List Interface = c.args.prelude.now ∷ map arc_value c.args.imports.now in
    let mid : List Pair = c.add_declared.new.pairs.items in
    let pairs : List Pair = c.add_imports.new.pairs.items in
    let first = rw c.new-pairs.ensures.items at c.in_ok-add_declared.ensures in
    let lent = ap (λ l. map (λ f. f.now) l) c.deref.ensures.value ∙ c.in_ok-interfaces.ensures in
    let second = subst (λ (l : List Interface). Adds mid pairs (IsImportedPair m l)) lent c.in_ok-add_imports.ensures in
    subst (λ (l : List Pair). IsScopeOf m fs l) (sym c.in_ok-of.ensures) (scope_is m fs pairs mid first second)

pub add_imports-requires : goal.add_imports-requires
add_imports-requires c =
    let lent = ap (λ l. map (λ f. f.now) l) c.deref.ensures.value ∙ c.in_ok-interfaces.ensures in
    subst AreNamedApart (sym lent) c.requires
