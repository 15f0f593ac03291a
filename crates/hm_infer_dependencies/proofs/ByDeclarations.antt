-- What a group asks of a list's bindings is what it asks of its declarations.
use Rattle.std.proofs.Common.{◌≡◌, Bool, true, false, cond, Option, Some, None, refl, sym, subst, ◌↔◌}
use Rattle.hm_typing.specs.Names.{Identifier}
use Rattle.hm_typing.specs.Schemes.{Monotype}
use Rattle.hm_typing.specs.Assumptions.{Assumptions}
use Rattle.hm_typing.specs.Syntax as typed
use Rattle.hm_typing.specs.SecondForm.{DeriveClauses}
use Rattle.hm_syntax.specs.Trees.{data_declaration, newtype_declaration, synonym_declaration, signature, clause, pattern_binding, Declarations, no_declarations, more_declarations}
use Rattle.hm_names.specs.Syntax.{Known, patterns_of, right_sides_of, where_of, bindings_of, is_continued, signature_of, add_clause, bound_by}
use Rattle.hm_names_keys.specs.Variables.{variable_of, identifier}
use Rattle.hm_infer_dependencies.specs.Checked.{BeginsUnsigned, GroupUnder, DeclarationsHave}
use Rattle.hm_infer_dependencies.proofs.Mentioned.{BeginsWithClauses, begins}

module _ (g : Identifier → Bool) (C : Assumptions) (τ : Identifier → Monotype) where
  abbrev One : typed.Patterns → typed.RightSides → typed.Bindings → Identifier → Type 0
  One ps gs ws x = DeriveClauses C (typed.clause ps gs ws typed.no_clause) (τ x)

  clause_has : (b : Bool) (n : Identifier) (o : Option Monotype) (ps : typed.Patterns) (gs : typed.RightSides) (ws : typed.Bindings) (rest : typed.Bindings) → (b ≡ true → BeginsWithClauses rest) →
      GroupUnder g C τ (cond b (add_clause (λ cs. typed.clause ps gs ws cs) rest) (bound_by n o (typed.clause ps gs ws typed.no_clause) rest))
      ↔ (((x : Identifier) → BeginsUnsigned x (cond b (add_clause (λ cs. typed.clause ps gs ws cs) rest) (bound_by n o (typed.clause ps gs ws typed.no_clause) rest)) → g x ≡ true → One ps gs ws x) × GroupUnder g C τ rest)
  clause_has true n o ps gs ws typed.no_binding f = absurd (f refl)
  clause_has true n o ps gs ws (typed.unsigned z cs ds) f = (
    (λ h. ((λ x e q. subst (λ y. One ps gs ws y) (sym e) ((h.0 (subst (λ y. g y ≡ true) e q)).0, tt)), ((λ q. (h.0 q).1), h.1))),
    (λ h. ((λ q. ((h.0 z refl q).0, h.1.0 q)), h.1.1)),
  )
  clause_has true n o ps gs ws (typed.signed z s cs ds) f = ((λ h. ((λ x e q. absurd e), h)), (λ h. h.1))
  clause_has true n o ps gs ws (typed.matched z p cs ds) f = absurd (f refl)
  clause_has false n None ps gs ws rest f = (
    (λ h. ((λ x e q. subst (λ y. One ps gs ws y) (sym e) (h.0 (subst (λ y. g y ≡ true) e q))), h.1)),
    (λ h. ((λ q. h.0 n refl q), h.1)),
  )
  clause_has false n (Some s) ps gs ws rest f = ((λ h. ((λ x e q. absurd e), h)), (λ h. h.1))

  pub by_declarations : (k : Known) (all ds : Declarations) → GroupUnder g C τ (bindings_of k all ds) ↔ DeclarationsHave g C τ k all ds
  by_declarations k all no_declarations = ((λ h. h), (λ h. h))
  by_declarations k all (more_declarations (data_declaration n ps cs) ds) = by_declarations k all ds
  by_declarations k all (more_declarations (newtype_declaration n ps c) ds) = by_declarations k all ds
  by_declarations k all (more_declarations (synonym_declaration n ps t) ds) = by_declarations k all ds
  by_declarations k all (more_declarations (signature ns t) ds) = by_declarations k all ds
  by_declarations k all (more_declarations (clause n ps r) ds) =
      let f = clause_has (is_continued n.text ps ds) (identifier (variable_of n)) (signature_of n.text all) (patterns_of k ps) (right_sides_of k r) (where_of k r) (bindings_of k all ds) (begins k all ds n.text ps) in
      let i = by_declarations k all ds in (
        (λ h. ((f.0 h).0, i.0 (f.0 h).1)),
        (λ h. f.1 (h.0, i.1 h.1)),
      )
  by_declarations k all (more_declarations (pattern_binding l c p r) ds) = let i = by_declarations k all ds in ((λ h. (h.0, i.0 h.1)), (λ h. (h.0, i.1 h.1)))
