use Rattle.std.proofs.Common.{ℕ, List, Contains, ◌∷◌, []}
use Rattle.hm_syntax.specs.Lists.{declarations}
use Rattle.hm_syntax.specs.Trees.{Declaration}
use Rattle.hm_names.specs.Variables.{bound_names, texts}
use Rattle.hm_names.proofs.AddedPairs.{for_more, for_all}
use Rattle.hm_scope_interface_entries.proofs.BoundNames.{bound_exact}
use Rattle.hm_scope_interface_entries.proofs.known_exports.bound_variables.Goals as goal

pub loop-decl-preserved : goal.loop-decl-preserved
loop-decl-preserved c = for_more (λ (d : Declaration) (x : List ℕ). Contains (texts (bound_names (declarations (d ∷ [])))) x) c.new-bound.result c.loop-decl.bound c.add_bound.new.out c.args.decls.now c.loop-decl.decl-index c.decl-item.result c.loop-decl-test.true c.decl-item.is c.loop-decl.invariant c.in_ok-add_bound.ensures

pub returns : goal.returns
returns c = λ x. bound_exact c.new-bound.result c.loop-decl.bound c.args.decls.now c.new-bound.ensures
    (for_all (λ (d : Declaration) (x : List ℕ). Contains (texts (bound_names (declarations (d ∷ [])))) x) c.new-bound.result c.loop-decl.bound c.args.decls.now c.loop-decl.decl-index c.loop-decl-test.false c.loop-decl.invariant) x
