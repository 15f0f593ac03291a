use Rattle.std.proofs.Common.{◌≡◌, take}
use Rattle.hm_syntax.specs.Names.{Identifier}
use Rattle.hm_names.specs.Bindings.{Adds}
use Rattle.hm_scope_tables.specs.NameSets.{FullName}
use Rattle.hm_scope_imports.specs.Gathered.{bare, IsOwned}
use Rattle.hm_names.specs.declared.namespace.Namespace.TheVariants.{Constructors}
use Rattle.hm_names.proofs.AddedPairs.{ForEach}
use Rattle.hm_scope_imports.proofs.selections.gather_parts.Given as goal

abbrev pub invariant-loop-part : goal.invariant-loop-part
invariant-loop-part l = Adds l.fn.names l.names (ForEach (λ (c : Identifier) (n : FullName). IsOwned l.interface l.owner c.text × (n ≡ bare Constructors c.text)) (take l.part-index l.parts))
