-- The declarations of a group are checked.
use Rattle.std.proofs.Common.{◌≡◌, ℕ, zero, suc, ◌+◌, ◌-◌, ◌<◌, ◌≤◌, List, [], ◌∷◌, ◌++◌, take, length, get_or, Some, None, Result, Ok, Err, OnOk, inl, inr, ⊎_elim, refl, sym, ap, ◌∙◌, subst, arith}
use Rattle.std.specs.List.{slice_get}
use Rattle.std.proofs.lemmas.List.{take_more, take_all, get_or_default}
use Rattle.std.proofs.lemmas.Option.{slice_get_within, slice_get-get_or}
use Rattle.hm_types.specs.Types.{Var, put}
use Rattle.hm_types.specs.Monotypes.{var}
use Rattle.hm_typing.specs.Names.{Identifier, IsOneOf}
use Rattle.hm_typing.specs.Schemes.{Monotype}
use Rattle.hm_typing.specs.Assumptions.{assumptions_put}
use Rattle.hm_typing.specs.Patterns.{Matches}
use Rattle.hm_typing.specs.Syntax as typed
use Rattle.hm_typing.specs.SecondForm.{DeriveClauses}
use Rattle.hm_typing.specs.Problems.{FactsBelow, IsBelow, IsLocal}
use Rattle.hm_typing.proofs.Infer.{local}
use Rattle.hm_typing.proofs.Solve.{put-below}
use Rattle.hm_typing.proofs.Local.{Matches-agree}
use Rattle.hm_syntax.specs.Trees as tree
use Rattle.hm_syntax.specs.Trees.{Declaration, data_declaration, newtype_declaration, synonym_declaration, signature, clause, pattern_binding, RightSide, right_side}
use Rattle.hm_syntax.specs.Lists.{patterns}
use Rattle.hm_syntax.specs.Names.{Identifier as Name}
use Rattle.hm_names.specs.Syntax.{Known, pattern_of, patterns_of, right_sides_of, where_of}
use Rattle.hm_infer_dependencies.specs.declared.members.Member.{Member}
use Rattle.hm_infer_dependencies.proofs.MemberLists.{one_pushed}
use Rattle.hm_unify.specs.Solving.{Solving}
use Rattle.hm_unify.specs.declared.faults.UnifyFault.{UnifyFault}
use Rattle.hm_infer_context.specs.Problems.{problem, bound, Answers, Refuses}
use Rattle.hm_infer_context.specs.Environments.{Assumed, assumptions, AreAssumed}
use Rattle.hm_infer_context.specs.Patterns.{put_each}
use Rattle.hm_infer_expressions.specs.GroupQuestions.{type_at, AreGivenTypes, HaveTypesOf, StandBefore, MemberHas, MembersHave, AreMembers, HaveTypesOfAll}
use Rattle.hm_infer_context.proofs.Outcomes.{SolvedBy, solved_nothing, solved_same, solved_both, carries_second, pass_on}
use Rattle.hm_infer_expressions.proofs.Derived.{answers_reworded}
use Rattle.hm_infer_context.proofs.FoundNames.{assumed_below}
use Rattle.hm_infer_expressions.proofs.Sides.{ChecksClause}
use Rattle.hm_infer_expressions.proofs.NodeTypes.{AsksBinding}

absurd_none : {X Y : Type 0} {a : X} → None ≡ Some a → Y
absurd_none h = cc

some_one : {X : Type 0} {a b : X} → Some a ≡ Some b → a ≡ b
some_one h = cc

-- what a declaration asks at its node
abbrev pub AsksMember : Known → List ℕ → ℕ → (Identifier → Monotype) → Declaration → List Assumed → (ℕ → Monotype) → Type 0
AsksMember k types own τ d es r = MemberHas k (assumptions_put r (assumptions es)) (put_each r τ) (put r (type_at types own)) d

type_below : (s : Solving) (types : List ℕ) (j : ℕ) → AreGivenTypes s.given types → j < length types → IsBelow (bound s) (type_at types j)
type_below s types j g l a i = let h = g j l in subst (λ z. z < bound s) (sym i) (omega arith)

clause_local : (k : Known) (ps : typed.Patterns) (q : RightSide) (types : List ℕ) (own : ℕ) (es : List Assumed) (s : Solving) → AreAssumed s.given es → AreGivenTypes s.given types → own < length types →
    IsLocal (bound s) (λ r. DeriveClauses (assumptions_put r (assumptions es)) (typed.clause ps (right_sides_of k q) (where_of k q) typed.no_clause) (put r (type_at types own)))
clause_local k ps q types own es s a g l = local (λ C v. DeriveClauses C (typed.clause ps (right_sides_of k q) (where_of k q) typed.no_clause) v) (assumptions es) (type_at types own) (bound s) (assumed_below s.given es a) (type_below s types own g l)

pub member_local : (k : Known) (types : List ℕ) (own : ℕ) (τ : Identifier → Monotype) (d : Declaration) (es : List Assumed) (s : Solving) → AreAssumed s.given es → AreGivenTypes s.given types → own < length types → StandBefore k own d → HaveTypesOf k τ types own d → IsLocal (bound s) (AsksMember k types own τ d es)
member_local k types own τ (data_declaration n ps cs) es s a g l b h r q f p = tt
member_local k types own τ (newtype_declaration n ps c) es s a g l b h r q f p = tt
member_local k types own τ (synonym_declaration n ps t) es s a g l b h r q f p = tt
member_local k types own τ (signature ns t) es s a g l b h r q f p = tt
member_local k types own τ (clause n ps w) es s a g l b h r q f p = clause_local k (patterns_of k ps) w types own es s a g l r q f p
member_local k types own τ (pattern_binding x y p w) es s a g l b h r q f d = (
  subst (Matches (put_each q τ) (pattern_of k p)) (put-below (bound s) r q (type_at types own) f (type_below s types own g l)) (Matches-agree (pattern_of k p) (put_each r τ) (put_each q τ) (put r (type_at types own)) agree d.0),
  clause_local k typed.no_pattern w types own es s a g l r q f d.1,
)
  where
    place_of : (z : Identifier) (zs : List Identifier) → IsOneOf z zs → (i : ℕ) × (slice_get zs i ≡ Some z)
    place_of z [] o = absurd o
    place_of z (u ∷ zs) (inl e) = (0, ap Some (sym e))
    place_of z (u ∷ zs) (inr o) = let i = place_of z zs o in (suc i.0, i.1)

    agree : (z : Identifier) → IsOneOf z (typed.pattern_names (pattern_of k p)) → put r (τ z) ≡ put q (τ z)
    agree z o =
        let i = place_of z (typed.pattern_names (pattern_of k p)) o in
        let m = slice_get_within (typed.pattern_names (pattern_of k p)) i.0 z i.1 in
        let e = h i.0 z i.1 in
        let j = own - length (typed.pattern_names (pattern_of k p)) + i.0 in
        ap (put r) e ∙ (put-below (bound s) r q (type_at types j) f (type_below s types j g (omega (arith, l, b, m))) ∙ sym (ap (put q) e))

-- a clause
pub clause_member : {X : Type 0} (k : Known) (n : Name) (ps : List tree.Pattern) (q : RightSide) (types : List ℕ) (own : ℕ) (τ : Identifier → Monotype) (es : List Assumed) (s s' : Solving) (outcome : Result X UnifyFault) → Answers (ChecksClause k ps q (Var (var (get_or types own 0))) es) s s' outcome → Answers (AsksMember k types own τ (clause n (patterns ps) q) es) s s' outcome
clause_member k n ps q types own τ es s s' outcome a = answers_reworded (ChecksClause k ps q (Var (var (get_or types own 0))) es) (AsksMember k types own τ (clause n (patterns ps) q) es) s s' outcome (λ r p. (p, tt)) (λ r p. p.0) a

-- a pattern binding
pub pattern_member : {X : Type 0} (k : Known) (l c : ℕ) (p : tree.Pattern) (q : RightSide) (types : List ℕ) (own : ℕ) (τ : Identifier → Monotype) (es : List Assumed) (s s1 s2 : Solving) (outcome : Result X UnifyFault) → AreAssumed s.given es → AreGivenTypes s.given types → own < length types →
    SolvedBy (AsksBinding (pattern_of k p) types own τ) s s1 → Answers (ChecksClause k [] q (Var (var (get_or types own 0))) es) s1 s2 outcome → Answers (AsksMember k types own τ (pattern_binding l c p q) es) s s2 outcome
pattern_member k l c p q types own τ es s s1 s2 (Ok x) a g h m o =
    solved_same {P = λ r. AsksBinding (pattern_of k p) types own τ r × ChecksClause k [] q (Var (var (get_or types own 0))) es r} {Q = AsksMember k types own τ (pattern_binding l c p q) es} s s2 (λ r z. (z.0, (z.1, tt))) (λ r z. (z.0, z.1.0))
    (solved_both s s1 s2 (λ r t f d. (clause_local k typed.no_pattern q types own es s a g h r t f (d, tt)).0) m o)
pattern_member k l c p q types own τ es s s1 s2 (Err e) a g h m o =
    pass_on {P = AsksMember k types own τ (pattern_binding l c p q) es} {Q = ChecksClause k [] q (Var (var (get_or types own 0))) es} s s1 e
    (λ r u z. carries_second {P = AsksBinding (pattern_of k p) types own τ} {Q = ChecksClause k [] q (Var (var (get_or types own 0))) es} s s1 (λ r t f d. (clause_local k typed.no_pattern q types own es s a g h r t f (d, tt)).0) m r u (z.0, z.1.0)) o

pub pattern_unmatched : (k : Known) (l c : ℕ) (p : tree.Pattern) (q : RightSide) (types : List ℕ) (own : ℕ) (τ : Identifier → Monotype) (es : List Assumed) (s : Solving) (e : UnifyFault) → Refuses (AsksBinding (pattern_of k p) types own τ) s e → Refuses (AsksMember k types own τ (pattern_binding l c p q) es) s e
pattern_unmatched k l c p q types own τ es s e n = pass_on {P = AsksMember k types own τ (pattern_binding l c p q) es} {Q = AsksBinding (pattern_of k p) types own τ} s s e (λ r u z. (r, u, z.0)) n

-- the members, one after the other

pub members_none : (k : Known) (decls : List Declaration) (types : List ℕ) (τ : Identifier → Monotype) (ms : List Member) (es : List Assumed) (s : Solving) → FactsBelow (bound s) (problem s) → SolvedBy (MembersHave k decls types τ (take 0 ms) (assumptions es)) s s
members_none k decls types τ ms es s b = solved_same {P = λ r. Unit {0}} {Q = MembersHave k decls types τ (take 0 ms) (assumptions es)} s s (λ r p m o. absurd o) (λ r p. tt) (solved_nothing s b)

module _ (k : Known) (decls : List Declaration) (types : List ℕ) (τ : Identifier → Monotype) (ms : List Member) (j : ℕ) (m : Member) (d : Declaration) (es : List Assumed) (s s1 : Solving) (low : j < length ms) (is : m ≡ get_or ms j m) (here : slice_get decls m.place ≡ Some d) (assumed : AreAssumed s.given es) (given : AreGivenTypes s.given types)
    (are : AreMembers k decls (length types) ms) (typed_all : HaveTypesOfAll k decls τ types ms) (solved : SolvedBy (MembersHave k decls types τ (take j ms) (assumptions es)) s s1) where
  more : take (j + 1) ms ≡ take j ms ++ m ∷ []
  more = take_more ms j m low ∙ ap (λ z. take j ms ++ z ∷ []) (sym is)

  member : IsOneOf m ms
  member = subst (λ z. IsOneOf z ms) (sym is) (in_place ms j low)
    where
      in_place : (xs : List Member) (i : ℕ) → i < length xs → IsOneOf (get_or xs i m) xs
      in_place [] i l = absurd (omega arith)
      in_place (x ∷ xs) zero l = inl refl
      in_place (x ∷ xs) (suc i) l = inr (in_place xs i (omega arith))

  one_local : IsLocal (bound s) (AsksMember k types m.node τ d es)
  one_local = let a = are m member in member_local k types m.node τ d es s assumed given a.1.0 (a.1.1 d here) (typed_all m member d here)

  to : (r : ℕ → Monotype) → MembersHave k decls types τ (take j ms) (assumptions es) r × AsksMember k types m.node τ d es r → MembersHave k decls types τ (take (j + 1) ms) (assumptions es) r
  to r p n o b e = ⊎_elim (λ h. p.0 n h b e) (λ h. at h) ((one_pushed n m (take j ms)).0 (subst (IsOneOf n) more o))
    where
      at : n ≡ m → MemberHas k (assumptions_put r (assumptions es)) (put_each r τ) (put r (type_at types n.node)) b
      at h =
          let same : d ≡ b = some_one (sym here ∙ (ap (λ z. slice_get decls z.place) (sym h) ∙ e)) in
          subst (λ z. MemberHas k (assumptions_put r (assumptions es)) (put_each r τ) (put r (type_at types z.node)) b) (sym h) (subst (λ z. MemberHas k (assumptions_put r (assumptions es)) (put_each r τ) (put r (type_at types m.node)) z) same p.1)

  from : (r : ℕ → Monotype) → MembersHave k decls types τ (take (j + 1) ms) (assumptions es) r → MembersHave k decls types τ (take j ms) (assumptions es) r × AsksMember k types m.node τ d es r
  from r p = ((λ n o b e. p n (subst (IsOneOf n) (sym more) ((one_pushed n m (take j ms)).1 (inl o))) b e), p m (subst (IsOneOf m) (sym more) ((one_pushed m m (take j ms)).1 (inr refl))) d here)

  pub members_more : (s2 : Solving) → SolvedBy (AsksMember k types m.node τ d es) s1 s2 → SolvedBy (MembersHave k decls types τ (take (j + 1) ms) (assumptions es)) s s2
  members_more s2 a = solved_same {P = λ r. MembersHave k decls types τ (take j ms) (assumptions es) r × AsksMember k types m.node τ d es r} {Q = MembersHave k decls types τ (take (j + 1) ms) (assumptions es)} s s2 to from (solved_both s s1 s2 one_local solved a)

  pub members_refused : (e : UnifyFault) → Refuses (AsksMember k types m.node τ d es) s1 e → Refuses (MembersHave k decls types τ ms (assumptions es)) s e
  members_refused e n =
      pass_on {P = MembersHave k decls types τ ms (assumptions es)} {Q = AsksMember k types m.node τ d es} s s1 e
      (λ r u p. carries_second {P = MembersHave k decls types τ (take j ms) (assumptions es)} {Q = AsksMember k types m.node τ d es} s s1 one_local solved r u ((λ n o b h. p n (taken ms j n o) b h), p m member d here)) n
    where
      taken : (xs : List Member) (i : ℕ) (n : Member) → IsOneOf n (take i xs) → IsOneOf n xs
      taken xs zero n o = absurd o
      taken [] (suc i) n o = absurd o
      taken (x ∷ xs) (suc i) n (inl h) = inl h
      taken (x ∷ xs) (suc i) n (inr h) = inr (taken xs i n h)

pub members_all : (k : Known) (decls : List Declaration) (types : List ℕ) (τ : Identifier → Monotype) (ms : List Member) (j : ℕ) (es : List Assumed) (s s1 : Solving) → length ms ≤ j → SolvedBy (MembersHave k decls types τ (take j ms) (assumptions es)) s s1 → SolvedBy (MembersHave k decls types τ ms (assumptions es)) s s1
members_all k decls types τ ms j es s s1 l a = subst (λ z. SolvedBy (MembersHave k decls types τ z (assumptions es)) s s1) (take_all j ms l) a

-- a member by its place

pub same_member : (ms : List Member) (j : ℕ) (d : Member) → j < length ms → get_or ms j d ≡ get_or ms j (get_or ms j d)
same_member ms j d l = get_or_default ms j d (get_or ms j d) l

pub is_member : (ms : List Member) (j : ℕ) (d : Member) → j < length ms → IsOneOf (get_or ms j d) ms
is_member [] j d l = absurd (omega arith)
is_member (x ∷ ms) zero d l = inl refl
is_member (x ∷ ms) (suc j) d l = inr (is_member ms j d (omega arith))

pub declaration_at : (decls : List Declaration) (i : ℕ) (d : Declaration) → i < length decls → d ≡ get_or decls i d → slice_get decls i ≡ Some d
declaration_at decls i d l e = slice_get-get_or decls i d l ∙ ap Some (sym e)

-- numbers only grow

pub answers_grow : {X : Type 0} (P : (ℕ → Monotype) → Type 0) (s s' : Solving) (outcome : Result X UnifyFault) → Answers P s s' outcome → OnOk outcome (s.given ≤ s'.given)
answers_grow P s s' (Ok x) a = let g = a.grows in omega arith
answers_grow P s s' (Err e) a = tt

pub later_grow : {X : Type 0} (s s1 s2 : Solving) (outcome : Result X UnifyFault) → s.given ≤ s1.given → OnOk outcome (s1.given ≤ s2.given) → OnOk outcome (s.given ≤ s2.given)
later_grow s s1 s2 (Ok x) l m = omega arith
later_grow s s1 s2 (Err e) l m = tt
