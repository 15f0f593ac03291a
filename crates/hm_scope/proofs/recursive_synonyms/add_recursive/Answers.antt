use Rattle.std.proofs.Common.{◌∷◌, [], ap, sym, ◌∙◌, subst}
use Rattle.hm_syntax.specs.Trees.{Declaration}
use Rattle.hm_syntax.specs.Views.OfExpressions.{declaration_of}
use Rattle.hm_names.specs.Bindings.{Adds}
use Rattle.hm_scope.specs.Synonyms.{IsMarkedFault}
use Rattle.hm_scope.proofs.SynonymReferences.{fault_added, no_fault_added}
use Rattle.hm_scope.proofs.recursive_synonyms.add_recursive.Goals as goal

pub returns-in-DataType : goal.returns-in-DataType
returns-in-DataType c = λ once.
    let seen = ap declaration_of (sym c.in-DataType.is) ∙ c.decl.view_is in
    subst (λ (d : Declaration). Adds c.args.faults.now.items c.args.faults.now.items (IsMarkedFault c.args.names.now c.args.marks.now (d ∷ []))) seen (no_fault_added c.args.names.now c.args.marks.now c.args.faults.now.items _ (λ n ps u e. cc))

pub returns-in-Newtype : goal.returns-in-Newtype
returns-in-Newtype c = λ once.
    let seen = ap declaration_of (sym c.in-Newtype.is) ∙ c.decl.view_is in
    subst (λ (d : Declaration). Adds c.args.faults.now.items c.args.faults.now.items (IsMarkedFault c.args.names.now c.args.marks.now (d ∷ []))) seen (no_fault_added c.args.names.now c.args.marks.now c.args.faults.now.items _ (λ n ps u e. cc))

pub returns-in-Signature : goal.returns-in-Signature
returns-in-Signature c = λ once.
    let seen = ap declaration_of (sym c.in-Signature.is) ∙ c.decl.view_is in
    subst (λ (d : Declaration). Adds c.args.faults.now.items c.args.faults.now.items (IsMarkedFault c.args.names.now c.args.marks.now (d ∷ []))) seen (no_fault_added c.args.names.now c.args.marks.now c.args.faults.now.items _ (λ n ps u e. cc))

pub returns-in-Clause : goal.returns-in-Clause
returns-in-Clause c = λ once.
    let seen = ap declaration_of (sym c.in-Clause.is) ∙ c.decl.view_is in
    subst (λ (d : Declaration). Adds c.args.faults.now.items c.args.faults.now.items (IsMarkedFault c.args.names.now c.args.marks.now (d ∷ []))) seen (no_fault_added c.args.names.now c.args.marks.now c.args.faults.now.items _ (λ n ps u e. cc))

pub returns-in-Pattern : goal.returns-in-Pattern
returns-in-Pattern c = λ once.
    let seen = ap declaration_of (sym c.in-Pattern.is) ∙ c.decl.view_is in
    subst (λ (d : Declaration). Adds c.args.faults.now.items c.args.faults.now.items (IsMarkedFault c.args.names.now c.args.marks.now (d ∷ []))) seen (no_fault_added c.args.names.now c.args.marks.now c.args.faults.now.items _ (λ n ps u e. cc))

pub returns-in_ok-push-in-Synonym : goal.returns-in_ok-push-in-Synonym
returns-in_ok-push-in-Synonym c = λ once.
    let seen = ap declaration_of (sym c.in-Synonym.is) ∙ c.decl.view_is in
    subst (λ (d : Declaration). Adds c.args.faults.now.items c.push.new.self.items (IsMarkedFault c.args.names.now c.args.marks.now (d ∷ []))) seen
    (fault_added c.args.names.now c.args.marks.now c.args.faults.now.items c.push.new.self.items c.in-Synonym.name c.in-Synonym.params.items c.in-Synonym.ty c.in_ok-fault_at-in-Synonym.field-0
    ((c.is_marked.ensures once).0 c.if-not-is_marked.false) c.in_ok-fault_at-in-Synonym.ensures c.in_ok-push-in-Synonym.ensures.items)
