use Rattle.std.proofs.Common.{◌++◌, ◌∷◌, [], ap, sym, ◌∙◌, subst}
use Rattle.hm_syntax.specs.Trees.{Declaration}
use Rattle.hm_syntax.specs.Views.OfExpressions.{declaration_of}
use Rattle.hm_scope.specs.Synonyms.{AreOwnSynonyms}
use Rattle.hm_scope.proofs.SynonymReferences.{no_synonym}
use Rattle.hm_scope.proofs.declared_synonyms.add_declared.Goals as goal

pub returns-in_ok-add_synonym-in-Synonym : goal.returns-in_ok-add_synonym-in-Synonym
returns-in_ok-add_synonym-in-Synonym c = λ ds are.
    let seen = ap declaration_of (sym c.in-Synonym.is) ∙ c.decl.view_is in
    subst (λ (d : Declaration). AreOwnSynonyms (ds ++ d ∷ []) c.add_synonym.new.synonyms) seen (rw c.deref.ensures.value at (c.in_ok-add_synonym-in-Synonym.ensures ds are))

pub returns-in-DataType : goal.returns-in-DataType
returns-in-DataType c = λ ds are.
    let seen = ap declaration_of (sym c.in-DataType.is) ∙ c.decl.view_is in
    subst (λ (d : Declaration). AreOwnSynonyms (ds ++ d ∷ []) c.args.synonyms.now) seen (no_synonym ds _ c.args.synonyms.now (λ n ps u e. cc) are)

pub returns-in-Newtype : goal.returns-in-Newtype
returns-in-Newtype c = λ ds are.
    let seen = ap declaration_of (sym c.in-Newtype.is) ∙ c.decl.view_is in
    subst (λ (d : Declaration). AreOwnSynonyms (ds ++ d ∷ []) c.args.synonyms.now) seen (no_synonym ds _ c.args.synonyms.now (λ n ps u e. cc) are)

pub returns-in-Signature : goal.returns-in-Signature
returns-in-Signature c = λ ds are.
    let seen = ap declaration_of (sym c.in-Signature.is) ∙ c.decl.view_is in
    subst (λ (d : Declaration). AreOwnSynonyms (ds ++ d ∷ []) c.args.synonyms.now) seen (no_synonym ds _ c.args.synonyms.now (λ n ps u e. cc) are)

pub returns-in-Clause : goal.returns-in-Clause
returns-in-Clause c = λ ds are.
    let seen = ap declaration_of (sym c.in-Clause.is) ∙ c.decl.view_is in
    subst (λ (d : Declaration). AreOwnSynonyms (ds ++ d ∷ []) c.args.synonyms.now) seen (no_synonym ds _ c.args.synonyms.now (λ n ps u e. cc) are)

pub returns-in-Pattern : goal.returns-in-Pattern
returns-in-Pattern c = λ ds are.
    let seen = ap declaration_of (sym c.in-Pattern.is) ∙ c.decl.view_is in
    subst (λ (d : Declaration). AreOwnSynonyms (ds ++ d ∷ []) c.args.synonyms.now) seen (no_synonym ds _ c.args.synonyms.now (λ n ps u e. cc) are)
