-- The clauses of a list whose variables have signatures, one after the other.
use Rattle.std.proofs.Common.{◌≡◌, ℕ, zero, suc, ◌+◌, ◌<◌, ◌≤◌, List, [], ◌∷◌, ◌++◌, length, take, get_or, inl, inr, ⊎_elim, refl, sym, ap, ◌∙◌, subst, arith}
use Rattle.std.proofs.lemmas.List.{take_more, take_all}
use Rattle.hm_syntax.specs.Trees.{Declaration, Declarations}
use Rattle.hm_typing.specs.Names.{IsOneOf}
use Rattle.hm_typing.specs.Schemes.{Monotype}
use Rattle.hm_typing.specs.Assumptions.{assumptions_put}
use Rattle.hm_typing.specs.Problems.{FactsBelow, IsLocal}
use Rattle.hm_typing.proofs.SchemeLaws.{assumptions_put-agree}
use Rattle.hm_unify.specs.Solving.{Solving}
use Rattle.hm_unify.specs.declared.faults.UnifyFault.{UnifyFault}
use Rattle.hm_names.specs.Syntax.{Known}
use Rattle.hm_infer_context.specs.Problems.{problem, bound, Refuses}
use Rattle.hm_infer_context.specs.Environments.{Assumed, AreAssumed, assumptions}
use Rattle.hm_infer_expressions.specs.SignedLists.{SignedClauseHas, SignedClausesHave}
use Rattle.hm_infer_dependencies.proofs.MemberLists.{one_pushed}
use Rattle.hm_infer_context.proofs.FoundNames.{assumed_below}
use Rattle.hm_infer_context.proofs.Outcomes.{SolvedBy, solved_same, solved_nothing, solved_both, pass_on, carries_second}
use Rattle.hm_infer_expressions.proofs.SignedForms.{SignedAsks}

abbrev pub SignedAll : Known → Declarations → List Declaration → List Assumed → (ℕ → Monotype) → Type 0
SignedAll known all ds es r = SignedClausesHave known all (assumptions_put r (assumptions es)) ds

pub signed_nothing : (known : Known) (all : Declarations) (ds : List Declaration) (es : List Assumed) (s : Solving) → FactsBelow (bound s) (problem s) → SolvedBy (SignedAll known all (take 0 ds) es) s s
signed_nothing known all ds es s b = solved_same {P = λ r. Unit {0}} {Q = SignedAll known all (take 0 ds) es} s s (λ r p d o. absurd o) (λ r p. tt) (solved_nothing s b)

one_taken : (xs : List Declaration) (i : ℕ) (x : Declaration) → IsOneOf x (take i xs) → IsOneOf x xs
one_taken xs zero x o = absurd o
one_taken [] (suc i) x o = absurd o
one_taken (y ∷ xs) (suc i) x (inl h) = inl h
one_taken (y ∷ xs) (suc i) x (inr h) = inr (one_taken xs i x h)

one_at : (xs : List Declaration) (i : ℕ) (x : Declaration) → i < length xs → IsOneOf (get_or xs i x) xs
one_at [] i x l = absurd (omega arith)
one_at (y ∷ xs) zero x l = inl refl
one_at (y ∷ xs) (suc i) x l = inr (one_at xs i x (omega arith))

module _ (known : Known) (all : Declarations) (ds : List Declaration) (j : ℕ) (d : Declaration) (es : List Assumed) (s s1 : Solving) (low : j < length ds) (is : d ≡ get_or ds j d) (assumed : AreAssumed s.given es) (solved : SolvedBy (SignedAll known all (take j ds) es) s s1) where
  more : take (j + 1) ds ≡ take j ds ++ d ∷ []
  more = take_more ds j d low ∙ ap (λ z. take j ds ++ z ∷ []) (sym is)

  one_local : IsLocal (bound s) (SignedAsks known all d es)
  one_local r q f p = subst (λ C. SignedClauseHas known all C d) (assumptions_put-agree r q (assumptions es) (λ y z. sym (f y (assumed_below s.given es assumed y z)))) p

  to : (r : ℕ → Monotype) → SignedAll known all (take j ds) es r × SignedAsks known all d es r → SignedAll known all (take (j + 1) ds) es r
  to r p x o = ⊎_elim (λ h. p.0 x h) (λ h. subst (λ z. SignedAsks known all z es r) (sym h) p.1) ((one_pushed x d (take j ds)).0 (subst (IsOneOf x) more o))

  from : (r : ℕ → Monotype) → SignedAll known all (take (j + 1) ds) es r → SignedAll known all (take j ds) es r × SignedAsks known all d es r
  from r p = ((λ x o. p x (subst (IsOneOf x) (sym more) ((one_pushed x d (take j ds)).1 (inl o)))), p d (subst (IsOneOf d) (sym more) ((one_pushed d d (take j ds)).1 (inr refl))))

  pub signed_step : (s2 : Solving) → SolvedBy (SignedAsks known all d es) s1 s2 → SolvedBy (SignedAll known all (take (j + 1) ds) es) s s2
  signed_step s2 a = solved_same {P = λ r. SignedAll known all (take j ds) es r × SignedAsks known all d es r} {Q = SignedAll known all (take (j + 1) ds) es} s s2 to from (solved_both s s1 s2 one_local solved a)

  pub signed_refused : (e : UnifyFault) → Refuses (SignedAsks known all d es) s1 e → Refuses (SignedAll known all ds es) s e
  signed_refused e n =
      pass_on {P = SignedAll known all ds es} {Q = SignedAsks known all d es} s s1 e
      (λ r u p. carries_second {P = SignedAll known all (take j ds) es} {Q = SignedAsks known all d es} s s1 one_local solved r u ((λ x o. p x (one_taken ds j x o)), p d (subst (λ z. IsOneOf z ds) (sym is) (one_at ds j d low)))) n

pub signed_done : (known : Known) (all : Declarations) (ds : List Declaration) (j : ℕ) (es : List Assumed) (s s1 : Solving) → length ds ≤ j → SolvedBy (SignedAll known all (take j ds) es) s s1 → SolvedBy (SignedAll known all ds es) s s1
signed_done known all ds j es s s1 l a = subst (λ z. SolvedBy (SignedAll known all z es) s s1) (take_all j ds l) a
