use Rattle.std.proofs.Common.{refl, length}
use Rattle.hm_infer_dependencies.specs.References.{DeclarationRefers}
use Rattle.hm_infer_dependencies.proofs.EdgeLists.{found_nodes}
use Rattle.hm_infer_dependencies.proofs.references.referred_nodes.Goals as goal

pub returns-clause-found : goal.returns-clause-found
returns-clause-found c = found_nodes c.args.numbers.now (λ y. DeclarationRefers y c.args.decl.now) c.args.shown.now _ c.new-found.result.items _ c.find_in_decl.new.found.items (length c.args.numbers.now) refl c.requires c.new-found.ensures.items refl c.in_ok-find_in_decl.ensures
