use Rattle.std.proofs.Common.{◌≡◌, Contains}
use Rattle.hm_scope_tables.specs.NameSets.{FullName}
use Rattle.hm_scope_imports.specs.Gathered.{bare, type_name}
use Rattle.hm_names.specs.declared.namespace.Namespace.TheVariants.{Constructors}
use Rattle.hm_names.proofs.AddedPairs.{adds_where}
use Rattle.hm_scope_imports.proofs.selections.gather_constructor.Goals as goal

pub returns : goal.returns
returns c =
    let k = c.args.constructor.now in
    adds_where c.args.names.now c.insert.new.self (Contains c.args.opened.now (type_name k.owner)) (λ (n : FullName). n ≡ bare Constructors k.name)
    (rw (c.as_str-module.ensures, c.as_str.ensures) at (c.contains.ensures.0 c.if-not-contains.false)) (rw c.as_str-2.ensures at c.in_ok-insert.ensures)
