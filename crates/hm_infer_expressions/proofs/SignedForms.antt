-- Clauses of variables that have signatures, checked against the declared types.
use Rattle.std.proofs.Common.{◌≡◌, ℕ, ◌+◌, List, Some, None, Ok, Err, sym, subst}
use Rattle.hm_types.specs.Types.{put}
use Rattle.hm_types.specs.Monotypes.{Mono, rigid}
use Rattle.hm_syntax.specs.Names.{Identifier}
use Rattle.hm_syntax.specs.Trees as tree
use Rattle.hm_syntax.specs.Trees.{RightSide, Declaration, clause, data_declaration, newtype_declaration, synonym_declaration, signature, pattern_binding, Declarations}
use Rattle.hm_syntax.specs.Lists.{patterns}
use Rattle.hm_typing.specs.Schemes.{Monotype}
use Rattle.hm_typing.specs.Assumptions.{Assumptions, assumptions_put, FreeIn}
use Rattle.hm_typing.specs.Problems.{FactsBelow}
use Rattle.hm_typing.specs.Programs.{monotype_of}
use Rattle.hm_typing.specs.Syntax as typed
use Rattle.hm_typing.specs.SecondForm.{DeriveClauses}
use Rattle.hm_typing.proofs.Put.{DeriveClauses-put}
use Rattle.hm_unify.specs.Levels.{IsOuter}
use Rattle.hm_unify.specs.Solving.{Solving}
use Rattle.hm_unify.specs.declared.faults.UnifyFault.{UnifyFault}
use Rattle.hm_unify.specs.declared.faults.UnifyFault.TheVariants.{Clash, Memory}
use Rattle.hm_names.specs.Syntax.{Known, patterns_of, right_sides_of, signature_of, where_of}
use Rattle.hm_infer_context.specs.Problems.{number, problem, bound, Refuses, given_more}
use Rattle.hm_infer_context.specs.Environments.{Assumed, AreAssumed, assumptions}
use Rattle.hm_infer_generalisation.specs.Escapes.{TellsEscape}
use Rattle.hm_infer_expressions.specs.SignedLists.{AtDeclared, SignedClauseHas}
use Rattle.hm_infer_generalisation.proofs.DeclaredTypes.{declared_below}
use Rattle.hm_infer_context.proofs.FoundNames.{assumed_below}
use Rattle.hm_infer_context.proofs.Outcomes.{SolvedBy, solved_same, solved_nothing, pass_on}
use Rattle.hm_infer_expressions.proofs.OuterVariables.{free_is_outer, outer_inside}
use Rattle.hm_infer_expressions.proofs.Rigid.{AtInstances, AtRigidFrom, rigid_solved, rigid_escapes, rigid_refused}
use Rattle.hm_infer_expressions.proofs.Sides.{ChecksClause}
use Rattle.hm_infer_expressions.proofs.SignedNames.{IsOther}
use Rattle.hm_infer_expressions.proofs.TypedForms.{IsTaken}

-- one clause has a type under A
abbrev pub ClauseHas : Known → List tree.Pattern → RightSide → Assumptions → Monotype → Type 0
ClauseHas known ps q A t = DeriveClauses A (typed.clause (patterns_of known (patterns ps)) (right_sides_of known q) (where_of known q) typed.no_clause) t

ClauseHas-put : (known : Known) (ps : List tree.Pattern) (q : RightSide) (r : ℕ → Monotype) (A : Assumptions) (t : Monotype) → ClauseHas known ps q A t → ClauseHas known ps q (assumptions_put r A) (put r t)
ClauseHas-put known ps q r A t h = DeriveClauses-put (typed.clause (patterns_of known (patterns ps)) (right_sides_of known q) (where_of known q) typed.no_clause) r A t h

abbrev pub SignedAsks : Known → Declarations → Declaration → List Assumed → (ℕ → Monotype) → Type 0
SignedAsks known all d es r = SignedClauseHas known all (assumptions_put r (assumptions es)) d

-- nothing is asked of other declarations, nor of a clause of a variable that has no signature

pub other_asked : (known : Known) (all : Declarations) (d : Declaration) (es : List Assumed) (s : Solving) → IsOther d → FactsBelow (bound s) (problem s) → SolvedBy (SignedAsks known all d es) s s
other_asked known all (data_declaration n ps cs) es s o b = solved_nothing s b
other_asked known all (newtype_declaration n ps c) es s o b = solved_nothing s b
other_asked known all (synonym_declaration n ps t) es s o b = solved_nothing s b
other_asked known all (signature ns t) es s o b = solved_nothing s b
other_asked known all (clause n ps q) es s o b = absurd o
other_asked known all (pattern_binding l c p q) es s o b = solved_nothing s b

module _ (known : Known) (all : Declarations) (n : Identifier) (ps : List tree.Pattern) (q : RightSide) (es : List Assumed) (s : Solving) where
  pub unsigned_asked : signature_of n.text all ≡ None → FactsBelow (bound s) (problem s) → SolvedBy (SignedAsks known all (clause n (patterns ps) q) es) s s
  unsigned_asked e b =
      solved_same {P = λ r. Unit {0}} {Q = SignedAsks known all (clause n (patterns ps) q) es} s s
      (λ r p. subst (λ o. AtDeclared o (λ t. ClauseHas known ps q (assumptions_put r (assumptions es)) t)) (sym e) tt) (λ r p. tt) (solved_nothing s b)

  module _ (body own : Mono) (count first : ℕ) (s1 : Solving) (is : signature_of n.text all ≡ Some (monotype_of body)) (assumed : AreAssumed s.given es) (taken : IsTaken s s1 count first body own) where
    abbrev AtEach : (ℕ → Monotype) → Type 0
    AtEach = AtInstances (ClauseHas known ps q) (ClauseHas-put known ps q) (monotype_of body) (assumptions es)

    abbrev AtRigid : (ℕ → Monotype) → Type 0
    AtRigid = AtRigidFrom (ClauseHas known ps q) (ClauseHas-put known ps q) s.given (monotype_of body) (assumptions es)

    to_rigid : (r : ℕ → Monotype) → ChecksClause known ps q own es r → AtRigid r
    to_rigid r d = subst (λ u. ClauseHas known ps q (assumptions_put r (assumptions es)) (put r u)) taken.shape (d, tt)

    from_rigid : (r : ℕ → Monotype) → AtRigid r → ChecksClause known ps q own es r
    from_rigid r d = (subst (λ u. ClauseHas known ps q (assumptions_put r (assumptions es)) (put r u)) (sym taken.shape) d).0

    to_asked : (r : ℕ → Monotype) → AtEach r → SignedAsks known all (clause n (patterns ps) q) es r
    to_asked r d = subst (λ o. AtDeclared o (λ t. ClauseHas known ps q (assumptions_put r (assumptions es)) t)) (sym is) d

    from_asked : (r : ℕ → Monotype) → SignedAsks known all (clause n (patterns ps) q) es r → AtEach r
    from_asked r d = subst (λ o. AtDeclared o (λ t. ClauseHas known ps q (assumptions_put r (assumptions es)) t)) is d

    inner : (s2 : Solving) → SolvedBy (ChecksClause known ps q own es) s1 s2 → SolvedBy AtRigid (given_more s count) s2
    inner s2 a = solved_same {P = ChecksClause known ps q own es} {Q = AtRigid} (given_more s count) s2 to_rigid from_rigid (subst (λ z. SolvedBy (ChecksClause known ps q own es) z s2) taken.next a)

    refused : (e : UnifyFault) → Refuses AtEach s e → Refuses (SignedAsks known all (clause n (patterns ps) q) es) s e
    refused e r = pass_on {P = SignedAsks known all (clause n (patterns ps) q) es} {Q = AtEach} s s e (λ v u p. (v, u, from_asked v p)) r

    -- the clause has the declared type at each instance
    pub clause_signed : {X : Type 0} (s2 : Solving) (y : X) → SolvedBy (ChecksClause known ps q own es) s1 s2 → TellsEscape {X = X} first count s2 (Ok y) → SolvedBy (SignedAsks known all (clause n (patterns ps) q) es) s s2
    clause_signed s2 y a k =
        solved_same {P = AtEach} {Q = SignedAsks known all (clause n (patterns ps) q) es} s s2 to_asked from_asked
        (rigid_solved (ClauseHas known ps q) (ClauseHas-put known ps q) (monotype_of body) (assumptions es) s s2 count taken.below (assumed_below s.given es assumed) (declared_below count body taken.given) (inner s2 a) k.0
        (λ i h f. k.1.1 i h (subst (λ z. IsOuter s2.equations z (rigid (z + i))) (sym taken.from) (free_is_outer s2.equations k.0.map k.1.0 (assumptions es) s.given (assumed_below s.given es assumed) (rigid (s.given + i)) f))))

    pub clause_refused : (e : UnifyFault) → Refuses (ChecksClause known ps q own es) s1 e → Refuses (SignedAsks known all (clause n (patterns ps) q) es) s e
    clause_refused e r =
        refused e
        (rigid_refused (ClauseHas known ps q) (ClauseHas-put known ps q) (monotype_of body) (assumptions es) s count e taken.below (assumed_below s.given es assumed)
        (pass_on {P = AtRigid} {Q = ChecksClause known ps q own es} (given_more s count) (given_more s count) e (λ v u p. (v, u, from_rigid v p)) (subst (λ z. Refuses (ChecksClause known ps q own es) z e) taken.next r)))

    pub clause_escapes : (s2 : Solving) (e : UnifyFault) → SolvedBy (ChecksClause known ps q own es) s1 s2 → TellsEscape {X = Unit {0}} first count s2 (Err e) → Refuses (SignedAsks known all (clause n (patterns ps) q) es) s e
    clause_escapes s2 Clash a k =
        let o = outer_inside s2.equations k.0.map k.1.0 s.given (rigid (s.given + k.1.1.0)) (subst (λ z. IsOuter s2.equations z (rigid (z + k.1.1.0))) taken.from k.1.1.1.1) in
        refused Clash
        (rigid_escapes (ClauseHas known ps q) (ClauseHas-put known ps q) (monotype_of body) (assumptions es) s s2 count taken.below (assumed_below s.given es assumed) (inner s2 a) k.0 k.1.1.0 k.1.1.1.0 o.0 o.1.0 o.1.1)
    clause_escapes s2 Memory a k = tt
