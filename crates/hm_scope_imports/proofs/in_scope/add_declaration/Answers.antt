use Rattle.std.proofs.Common.{ℕ, List, ◌∙◌, sym, ap, subst}
use Rattle.hm_syntax.specs.Trees.{Declaration, DataConstructor}
use Rattle.hm_syntax.specs.Views.OfExpressions.{declaration_of}
use Rattle.hm_names.specs.Bindings.{Adds, IsDeclaredPair}
use Rattle.hm_names.specs.Entities.{constructor_name}
use Rattle.hm_names.specs.declared.namespace.Namespace.TheVariants.{Constructors}
use Rattle.hm_names.proofs.DeclaredPairs.{OwnPair, data_adds, newtype_adds, synonym_adds, clause_adds, pattern_adds}
use Rattle.hm_scope_imports.proofs.in_scope.add_declaration.Goals as goal

pub returns-in_ok-add_constructors-in-DataType : goal.returns-in_ok-add_constructors-in-DataType
returns-in_ok-add_constructors-in-DataType c =
    let seen = ap declaration_of (sym c.in-DataType.is) ∙ c.decl.view_is in
    let m = c.args.module_name.now in
    subst (λ (d : Declaration). Adds c.args.pairs.now.items c.add_constructors.new.pairs.items (IsDeclaredPair m d)) seen
    (data_adds m c.args.pairs.now.items c.add_own.new.pairs.items c.add_constructors.new.pairs.items c.in-DataType.name c.in-DataType.params.items c.in-DataType.constrs.items c.in_ok-add_own-in-DataType.ensures (rw c.deref.ensures.value at c.in_ok-add_constructors-in-DataType.ensures))

pub returns-in_ok-add_own-in-Newtype-2 : goal.returns-in_ok-add_own-in-Newtype-2
returns-in_ok-add_own-in-Newtype-2 c =
    let seen = ap declaration_of (sym c.in-Newtype.is) ∙ c.decl.view_is in
    let m = c.args.module_name.now in
    subst (λ (d : Declaration). Adds c.args.pairs.now.items c.add_own-in-Newtype-2.new.pairs.items (IsDeclaredPair m d)) seen
    (newtype_adds m c.args.pairs.now.items c.add_own-in-Newtype.new.pairs.items c.add_own-in-Newtype-2.new.pairs.items c.in-Newtype.name c.in-Newtype.params.items c.in-Newtype.constr c.in_ok-add_own-in-Newtype.ensures
    (subst (λ (x : List ℕ). Adds c.add_own-in-Newtype.new.pairs.items c.add_own-in-Newtype-2.new.pairs.items (OwnPair m Constructors x)) (ap (λ (k : DataConstructor). (constructor_name k).text) c.constr.view_is) c.in_ok-add_own-in-Newtype-2.ensures))

pub returns-in_ok-add_own-in-Synonym : goal.returns-in_ok-add_own-in-Synonym
returns-in_ok-add_own-in-Synonym c =
    let seen = ap declaration_of (sym c.in-Synonym.is) ∙ c.decl.view_is in
    let m = c.args.module_name.now in
    subst (λ (d : Declaration). Adds c.args.pairs.now.items c.add_own-in-Synonym.new.pairs.items (IsDeclaredPair m d)) seen
    (synonym_adds m c.args.pairs.now.items c.add_own-in-Synonym.new.pairs.items c.in-Synonym.name _ _ c.in_ok-add_own-in-Synonym.ensures)

pub returns-in_ok-add_own-in-Clause : goal.returns-in_ok-add_own-in-Clause
returns-in_ok-add_own-in-Clause c =
    let seen = ap declaration_of (sym c.in-Clause.is) ∙ c.decl.view_is in
    let m = c.args.module_name.now in
    subst (λ (d : Declaration). Adds c.args.pairs.now.items c.add_own-in-Clause.new.pairs.items (IsDeclaredPair m d)) seen
    (clause_adds m c.args.pairs.now.items c.add_own-in-Clause.new.pairs.items c.in-Clause.name _ _ c.in_ok-add_own-in-Clause.ensures)

pub returns-in_ok-add_variables-in-Pattern : goal.returns-in_ok-add_variables-in-Pattern
returns-in_ok-add_variables-in-Pattern c =
    let seen = ap declaration_of (sym c.in-Pattern.is) ∙ c.decl.view_is in
    let m = c.args.module_name.now in
    subst (λ (d : Declaration). Adds c.args.pairs.now.items c.add_variables.new.pairs.items (IsDeclaredPair m d)) seen
    (pattern_adds m c.args.pairs.now.items c.add_variables.new.pairs.items _ _ c.in-Pattern.pat _ c.in_ok-add_variables-in-Pattern.ensures)
