use Rattle.std.proofs.Common.{◌≡◌, ◌↔◌, ℕ, length, Contains, subst}
use Rattle.hm_infer_dependencies.specs.References.{DeclarationRefers}
use Rattle.hm_infer_expressions.specs.Dependences.{IsReferred}
use Rattle.hm_infer_expressions.proofs.Referring.{nodes_told, nodes_within, node_within}
use Rattle.hm_infer_results.proofs.dependences.refers_to_typed.Goals as goal

pub are_typed-requires : goal.are_typed-requires
are_typed-requires c = nodes_within c.deref.result.now c.in_ok-found.found.items (IsReferred c.args.numbers.now c.args.decl.now) (length c.args.numbers.now) (length c.args.typed.now) c.deref.ensures.value c.requires.typed c.in_ok-found.ensures.found (λ k h. node_within c.args.numbers.now (λ y. DeclarationRefers y c.args.decl.now) k h)

pub returns-clause-told : goal.returns-clause-told
returns-clause-told c = nodes_told c.are_typed.result c.args.typed.now (Contains c.deref.result.now) (IsReferred c.args.numbers.now c.args.decl.now)
    (subst (λ xs. (k : ℕ) → Contains xs k ↔ IsReferred c.args.numbers.now c.args.decl.now k) (Rattle.std.proofs.Common.sym c.deref.ensures.value) c.in_ok-found.ensures.found) c.are_typed.ensures
