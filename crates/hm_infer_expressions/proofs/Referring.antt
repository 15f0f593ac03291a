-- Marks of nodes, and members that refer to typed nodes.
use Rattle.std.proofs.Common.{◌≡◌, ℕ, zero, suc, ◌+◌, ◌<◌, ◌≤◌, List, [], ◌∷◌, ◌++◌, take, set, length, get_or, All, Bool, true, false, Option, Some, Vec, Global, inl, inr, ⊎_elim, ◌↔◌, Contains, refl, sym, ap, ◌∙◌, subst, arith, get_or-set_same, get_or-set_other}
use Rattle.std.specs.List.{slice_get}
use Rattle.std.proofs.lemmas.List.{take_more, take_all}
use native.Mathlib.Decide.{ℕ_discrete}
use Rattle.hm_typing.specs.Names.{IsOneOf}
use Rattle.hm_syntax.specs.Trees.{Declaration}
use Rattle.hm_names_keys.specs.Variables.{Variable}
use Rattle.hm_infer_dependencies.specs.Walks.{IsNodeWith}
use Rattle.hm_infer_dependencies.specs.declared.members.Member.{Member}
use Rattle.hm_infer_dependencies.proofs.MemberLists.{one_pushed}
use Rattle.hm_infer_expressions.specs.Dependences.{IsMarked, IsReferred, TellsMembers, TellsNodes}
use Rattle.hm_graph_components.specs.Digraph.{lists}
use Rattle.hm_infer_dependencies.specs.GroupMembers.{AreMembersOf}
use Rattle.hm_names.specs.Syntax.{Known}
use Rattle.hm_infer_expressions.specs.Stages.{IsListFound}

-- Marks

pub mark_step : (ns : List ℕ) (value : Bool) (i : ℕ) (t0 t t1 : List Bool) → i < length ns → get_or ns i 0 < length t → t1 ≡ set t (get_or ns i 0) value → IsMarked (take i ns) value t0 t → IsMarked (take (i + 1) ns) value t0 t1
mark_step ns value i t0 t t1 l b e h k = at (ℕ_discrete k (get_or ns i 0))
  where
    more : take (i + 1) ns ≡ take i ns ++ get_or ns i 0 ∷ []
    more = take_more ns i 0 l

    at : Dec (k ≡ get_or ns i 0) → (IsOneOf k (take (i + 1) ns) → get_or t1 k false ≡ value) × (¬ (IsOneOf k (take (i + 1) ns)) → get_or t1 k false ≡ get_or t0 k false)
    at (yes s) = (
      (λ o. ap (λ z. get_or z k false) e ∙ (ap (λ z. get_or (set t (get_or ns i 0) value) z false) s ∙ get_or-set_same t (get_or ns i 0) value false b)),
      (λ n. absurd (n (subst (IsOneOf k) (sym more) ((one_pushed k (get_or ns i 0) (take i ns)).1 (inr s))))),
    )
    at (no m) = (
      (λ o. ap (λ z. get_or z k false) e ∙ (get_or-set_other t (get_or ns i 0) k value false m ∙ (h k).0 (⊎_elim (λ p. p) (λ p. absurd (m p)) ((one_pushed k (get_or ns i 0) (take i ns)).0 (subst (IsOneOf k) more o))))),
      (λ n. ap (λ z. get_or z k false) e ∙ (get_or-set_other t (get_or ns i 0) k value false m ∙ (h k).1 (λ o. n (subst (IsOneOf k) (sym more) ((one_pushed k (get_or ns i 0) (take i ns)).1 (inl o)))))),
    )

-- Nodes that are typed

pub nodes_told : (b : Bool) (typed : List Bool) (P Q : ℕ → Type 0) → ((k : ℕ) → P k ↔ Q k) → TellsNodes b typed P → TellsNodes b typed Q
nodes_told true typed P Q f t = λ k q. t k ((f k).1 q)
nodes_told false typed P Q f t = (t.0, ((f t.0).0 t.1.0, t.1.1))

pub nodes_within : (xs ys : List ℕ) (P : ℕ → Type 0) (n m : ℕ) → xs ≡ ys → m ≡ n → ((k : ℕ) → Contains ys k ↔ P k) → ((k : ℕ) → P k → k < n) → All (λ j. j < m) xs
nodes_within xs ys P n m e s f g i d l = subst (λ z. get_or xs i d < z) (sym s) (g (get_or xs i d) ((f (get_or xs i d)).0 (subst (λ z. Contains z (get_or xs i d)) e (here xs i d l))))
  where
    here : (zs : List ℕ) (i d : ℕ) → i < length zs → Contains zs (get_or zs i d)
    here [] i d l = absurd (omega arith)
    here (z ∷ zs) zero d l = (0, l, refl)
    here (z ∷ zs) (suc i) d l = let h = here zs i d (omega arith) in (suc h.0, (let q = h.1 in omega arith), h.2)

pub node_within : (nodes : List (Option Variable)) (P : Variable → Type 0) (k : ℕ) → IsNodeWith nodes P k → k < length nodes
node_within nodes P k h = Rattle.std.proofs.lemmas.Option.slice_get_within nodes k (Some h.variable) h.node

-- Members

pub members_start : (nodes : List (Option Variable)) (typed : List Bool) (decls : List Declaration) (ms : List Member) → TellsMembers true nodes typed decls (take 0 ms)
members_start nodes typed decls ms m o d e = absurd o

one_at : (ms : List Member) (i : ℕ) (m : Member) → i < length ms → m ≡ get_or ms i m → IsOneOf m ms
one_at [] i m l e = absurd (omega arith)
one_at (x ∷ ms) zero m l e = inl e
one_at (x ∷ ms) (suc i) m l e = inr (one_at ms i m (omega arith) e)

pub member_of : (ms : List Member) (i : ℕ) (m : Member) → i < length ms → m ≡ get_or ms i m → IsOneOf m ms
member_of ms i m l e = one_at ms i m l e

some_one : {X : Type 0} {a b : X} → Some a ≡ Some b → a ≡ b
some_one h = cc

pub get_at : {X : Type 0} (xs : List X) (i : ℕ) (x : X) → i < length xs → x ≡ get_or xs i x → slice_get xs i ≡ Some x
get_at [] i x l e = absurd (omega arith)
get_at (y ∷ xs) zero x l e = ap Some (sym e)
get_at (y ∷ xs) (suc i) x l e = get_at xs i x (omega arith) e

pub members_step : (nodes : List (Option Variable)) (typed : List Bool) (decls : List Declaration) (ms : List Member) (i : ℕ) (m : Member) (d : Declaration) (b : Bool) → i < length ms → m ≡ get_or ms i m → m.place < length decls → d ≡ get_or decls m.place d → TellsNodes b typed (IsReferred nodes d) → b ≡ true →
    TellsMembers true nodes typed decls (take i ms) → TellsMembers true nodes typed decls (take (i + 1) ms)
members_step nodes typed decls ms i m d b l e p q t bt h n o d1 f = ⊎_elim (λ r. h n r d1 f) (λ r. here r) ((one_pushed n m (take i ms)).0 (subst (IsOneOf n) (take_more ms i m l ∙ ap (λ z. take i ms ++ z ∷ []) (sym e)) o))
  where
    here : n ≡ m → TellsNodes true typed (IsReferred nodes d1)
    here r =
        let same : d ≡ d1 = some_one (sym (get_at decls m.place d p q) ∙ (ap (λ (z : Member). slice_get decls z.place) (sym r) ∙ f)) in
        subst (λ z. TellsNodes true typed (IsReferred nodes z)) same (subst (λ z. TellsNodes z typed (IsReferred nodes d)) bt t)

pub members_refuse : (nodes : List (Option Variable)) (typed : List Bool) (decls : List Declaration) (ms : List Member) (i : ℕ) (m : Member) (d : Declaration) (b : Bool) → i < length ms → m ≡ get_or ms i m → m.place < length decls → d ≡ get_or decls m.place d → TellsNodes b typed (IsReferred nodes d) → b ≡ false →
    TellsMembers false nodes typed decls ms
members_refuse nodes typed decls ms i m d b l e p q t bf = (m, (one_at ms i m l e, (d, (get_at decls m.place d p q, subst (λ z. TellsNodes z typed (IsReferred nodes d)) bf t))))

pub members_all : (nodes : List (Option Variable)) (typed : List Bool) (decls : List Declaration) (ms : List Member) (i : ℕ) → length ms ≤ i → TellsMembers true nodes typed decls (take i ms) → TellsMembers true nodes typed decls ms
members_all nodes typed decls ms i l h = subst (TellsMembers true nodes typed decls) (take_all i ms l) h

-- The members of a group are declarations of the list

pub members_at : (rs qs : List (Vec ℕ Global)) (group : List ℕ) (ms ns : List Member) → rs ≡ qs → ns ≡ ms → AreMembersOf (lists rs) group ms → AreMembersOf (lists qs) group ns
members_at rs qs group ms ns e f a = subst (λ z. AreMembersOf (lists z) group ns) e (subst (AreMembersOf (lists rs) group) (sym f) a)

pub member_places : (k : Known) (decls : List Declaration) (nodes : List (Option Variable)) (rows : List (List ℕ)) (group : List ℕ) (ms : List Member) → IsListFound k decls nodes rows → AreMembersOf rows group ms → (m : Member) → IsOneOf m ms → m.place < length decls
member_places k decls nodes rows group ms found are m o = ((found.rows_are.each m.node m.place).0 ((are m).0 o).1).0
