-- The numbers of the nodes of a list, in a table.
use Rattle.std.proofs.Common.{◌≡◌, ℕ, zero, suc, ◌+◌, ◌<◌, ◌≤◌, min, true, cond, List, [], ◌∷◌, ◌++◌, length, take, drop, get_or, Option, Some, None, ◌⊎◌, ⊎_elim, inl, inr, subst, refl, ap, sym, ◌∙◌, option_map, arith}
use Rattle.std.specs.List.{slice_get}
use Rattle.std.proofs.lemmas.Bool.{both_ways, cases_lt}
use Rattle.std.proofs.lemmas.List.{length-append, take_all, take_min, take_more, drop_all, drop-append-le}
use Rattle.hm_names_keys.specs.Variables.{Variable}
use Rattle.hm_names_keys.specs.declared.lent_names.LentName.{LentName}
use Rattle.hm_names_keys.specs.Keys.{Table, number_of, same_variable, variable_of_key}
use Rattle.hm_names_keys.proofs.SameVariables.{same_variable-refl, differ}
use Rattle.hm_names_keys.proofs.Pushed.{get-push_old, get-push_new, get-push_cases, some_injective}
use Rattle.hm_infer_dependencies.specs.declared.numbers.Qualifiers.{Qualifiers}
use Rattle.hm_infer_dependencies.specs.Numberings.{nodes_of, few, IsNode, IsNumbering, MayHave}

pub nodes_of-push : (ks : List (Option LentName)) (k : Option LentName) → nodes_of (ks ++ k ∷ []) ≡ nodes_of ks ++ option_map variable_of_key k ∷ []
nodes_of-push [] k = refl
nodes_of-push (j ∷ ks) k = ap (λ r. option_map variable_of_key j ∷ r) (nodes_of-push ks k)

-- which variables are nodes

once_more : (nodes : List (Option Variable)) (x y : Variable) (j k : ℕ) → ((j k : ℕ) → slice_get nodes j ≡ Some (Some y) → slice_get nodes k ≡ Some (Some y) → j ≡ k) → ¬ (IsNode nodes x)
    → slice_get (nodes ++ Some x ∷ []) j ≡ Some (Some y) → slice_get (nodes ++ Some x ∷ []) k ≡ Some (Some y) → j ≡ k
once_more nodes x y j k so absent p q = ⊎_elim
    (λ a. ⊎_elim
    (λ b. so j k a b)
    (λ b. absurd (absent (j, a ∙ sym b.1)))
    (get-push_cases nodes (Some x) (Some y) k q))
    (λ a. ⊎_elim
    (λ b. absurd (absent (k, b ∙ sym a.1)))
    (λ b. a.0 ∙ sym b.0)
    (get-push_cases nodes (Some x) (Some y) k q))
    (get-push_cases nodes (Some x) (Some y) j p)

pub no_node : (x : Variable) → ¬ (IsNode [] x)
no_node x (k, e) = let h : None ≡ Some (Some x) = e in cc

pushed_node : (nodes : List (Option Variable)) (n : Option Variable) (y : Variable) → IsNode (nodes ++ n ∷ []) y → IsNode nodes y ⊎ (n ≡ Some y)
pushed_node nodes n y node = ⊎_elim (λ there. inl (node.0, there)) (λ last. inr (some_injective last.1)) (get-push_cases nodes n (Some y) node.0 node.1)

-- a variable among the first few more
pub few_more : (nodes : List (Option Variable)) (table : Table) (x : Variable) → IsNumbering nodes table → ¬ (IsNode nodes x) → length nodes < few → IsNumbering (nodes ++ Some x ∷ []) table
few_more nodes table x so absent short = record {
  some = λ y k e. get-push_old nodes (Some x) (Some y) k (so.some y k e);
  none = λ y e. subst (λ (ns : List (Option Variable)). ¬ (IsNode ns y)) (sym (drop_all few (nodes ++ Some x ∷ []) (omega (arith, length-append nodes (Some x ∷ []), short)))) (no_node y);
  once = λ y j k. once_more nodes x y j k (so.once y) absent;
}

-- another variable more
pub IsNumbering-more : (nodes : List (Option Variable)) (old new : Table) (x : Variable) → IsNumbering nodes old → ¬ (IsNode nodes x) → few ≤ length nodes → ((y : Variable) → number_of new y ≡ cond (same_variable x y) (Some (length nodes)) (number_of old y))
    → IsNumbering (nodes ++ Some x ∷ []) new
IsNumbering-more nodes old new x so absent many u = record {
  some = λ y k e. ⊎_elim
      (λ same.
      let at : Some (length nodes) ≡ Some k = sym (u y ∙ ap (λ b. cond b (Some (length nodes)) (number_of old y)) (subst (λ z. same_variable x z ≡ true) same (same_variable-refl x))) ∙ e in
      subst (λ j. slice_get (nodes ++ Some x ∷ []) j ≡ Some (Some y)) (some_injective at) (get-push_new nodes (Some x) ∙ ap (λ z. Some (Some z)) same))
      (λ apart. get-push_old nodes (Some x) (Some y) k (so.some y k (sym (u y ∙ ap (λ b. cond b (Some (length nodes)) (number_of old y)) apart) ∙ e)))
      (differ x y);
  none = λ y e node. ⊎_elim
      (λ same.
      let at : Some (length nodes) ≡ None = sym (u y ∙ ap (λ b. cond b (Some (length nodes)) (number_of old y)) (subst (λ z. same_variable x z ≡ true) same (same_variable-refl x))) ∙ e in
      cc)
      (λ apart. ⊎_elim
      (λ there. so.none y (sym (u y ∙ ap (λ b. cond b (Some (length nodes)) (number_of old y)) apart) ∙ e) there)
      (λ last. both_ways (same_variable x y) apart (subst (λ z. same_variable x z ≡ true) (some_injective last) (same_variable-refl x)))
      (pushed_node (drop few nodes) (Some x) y (subst (λ (ns : List (Option Variable)). IsNode ns y) (drop-append-le few nodes (Some x ∷ []) many) node)))
      (differ x y);
  once = λ y j k. once_more nodes x y j k (so.once y) absent;
}

-- one pattern binding more
pub IsNumbering-pattern : (nodes : List (Option Variable)) (table : Table) → IsNumbering nodes table → IsNumbering (nodes ++ None ∷ []) table
IsNumbering-pattern nodes table so = record {
  some = λ y k e. get-push_old nodes None (Some y) k (so.some y k e);
  none = λ y e node. elim (cases_lt (length nodes) few) [
    | inl short ↦ no_node y (subst (λ (ns : List (Option Variable)). IsNode ns y) (drop_all few (nodes ++ None ∷ []) (omega (arith, length-append nodes (None ∷ []), short))) node)
    | inr many ↦ ⊎_elim
        (so.none y e)
        (λ last. let h : None ≡ Some y = last in cc)
        (pushed_node (drop few nodes) None y (subst (λ (ns : List (Option Variable)). IsNode ns y) (drop-append-le few nodes (None ∷ []) many) node))
  ];
  once = λ y j k p q. so.once y j k (old y j p) (old y k q);
}
  where
    old : (y : Variable) (j : ℕ) → slice_get (nodes ++ None ∷ []) j ≡ Some (Some y) → slice_get nodes j ≡ Some (Some y)
    old y j p = ⊎_elim (λ there. there) (λ last. let h : None ≡ Some y = some_injective last.1 in cc) (get-push_cases nodes None (Some y) j p)

-- the first few are looked through

nodes_of-take : (ks : List (Option LentName)) (i : ℕ) (d : Option LentName) → i < length ks → d ≡ get_or ks i d → nodes_of (take (i + 1) ks) ≡ nodes_of (take i ks) ++ option_map variable_of_key d ∷ []
nodes_of-take ks i d inside is = ap nodes_of (take_more ks i d inside ∙ ap (λ z. take i ks ++ z ∷ []) (sym is)) ∙ nodes_of-push (take i ks) d

pub none_more : (ks : List (Option LentName)) (i : ℕ) (d : Option LentName) (x : Variable) → i < length ks → d ≡ get_or ks i d → ¬ (IsNode (nodes_of (take i ks)) x) → ¬ (option_map variable_of_key d ≡ Some x) → ¬ (IsNode (nodes_of (take (i + 1) ks)) x)
none_more ks i d x inside is before other node =
    ⊎_elim before other (pushed_node (nodes_of (take i ks)) (option_map variable_of_key d) x (subst (λ (ns : List (Option Variable)). IsNode ns x) (nodes_of-take ks i d inside is) node))

pub none_of_few : (ks : List (Option LentName)) (i count : ℕ) (x : Variable) → count ≡ min few (length ks) → i ≤ count → count ≤ i → ¬ (IsNode (nodes_of (take i ks)) x) → ¬ (IsNode (nodes_of (take few ks)) x)
none_of_few ks i count x e below above = let k : i ≡ count = omega (arith, below, above) in
    subst (λ (ys : List (Option LentName)). ¬ (IsNode (nodes_of ys) x)) (ap (λ n. take n ks) (k ∙ e) ∙ take_min few ks)

pub found_here : (ks : List (Option LentName)) (i : ℕ) (d : Option LentName) (x : Variable) → i < length ks → d ≡ get_or ks i d → option_map variable_of_key d ≡ Some x → slice_get (nodes_of ks) i ≡ Some (Some x)
found_here [] i d x inside is e = absurd (omega arith)
found_here (k ∷ ks) zero d x inside is e = ap Some (ap (option_map variable_of_key) (sym is) ∙ e)
found_here (k ∷ ks) (suc i) d x inside is e = found_here ks i d x (omega (arith, inside)) is e

split_node : (nodes : List (Option Variable)) (n : ℕ) (x : Variable) → IsNode nodes x → IsNode (take n nodes) x ⊎ IsNode (drop n nodes) x
split_node nodes zero x node = inr node
split_node [] (suc n) x node = inr node
split_node (y ∷ nodes) (suc n) x (zero, e) = inl (0, e)
split_node (y ∷ nodes) (suc n) x (suc k, e) = ⊎_elim (λ there. inl (suc there.0, there.1)) (λ after. inr after) (split_node nodes n x (k, e))

take_nodes : (ks : List (Option LentName)) (n : ℕ) → nodes_of (take n ks) ≡ take n (nodes_of ks)
take_nodes ks zero = refl
take_nodes [] (suc n) = refl
take_nodes (k ∷ ks) (suc n) = ap (λ r. option_map variable_of_key k ∷ r) (take_nodes ks n)

-- a variable that is neither among the first few nodes nor in the table is no node
pub no_other : (ks : List (Option LentName)) (table : Table) (x : Variable) → IsNumbering (nodes_of ks) table → ¬ (IsNode (nodes_of (take few ks)) x) → number_of table x ≡ None → ¬ (IsNode (nodes_of ks) x)
no_other ks table x so absent e node = ⊎_elim (λ there. absent (subst (λ (ns : List (Option Variable)). IsNode ns x) (sym (take_nodes ks few)) there)) (so.none x e) (split_node (nodes_of ks) few x node)

pub none_of_all : (ks : List (Option LentName)) (x : Variable) → length ks ≤ few → ¬ (IsNode (nodes_of (take few ks)) x) → ¬ (IsNode (nodes_of ks) x)
none_of_all ks x short = subst (λ (ys : List (Option LentName)). ¬ (IsNode (nodes_of ys) x)) (take_all few ks short)

-- the table as it was
pub IsNumbering-same : (nodes nodes' : List (Option Variable)) (old new : Table) → IsNumbering nodes old → nodes' ≡ nodes → ((x : Variable) → number_of new x ≡ number_of old x) → IsNumbering nodes' new
IsNumbering-same nodes nodes' old new so e u = subst (λ ns. IsNumbering ns new) (sym e) (record {
  some = λ x k h. so.some x k (sym (u x) ∙ h);
  none = λ x h. so.none x (sym (u x) ∙ h);
  once = so.once;
})

-- The qualifiers of nodes

abbrev pub AreQualified : List (Option Variable) → Qualifiers → Type 0
AreQualified nodes qualifiers = (x : Variable) → IsNode nodes x → MayHave qualifiers x.qualifier

pub more_qualified : (nodes : List (Option Variable)) (old new : Qualifiers) → AreQualified nodes old → ((q : Option (List ℕ)) → MayHave old q → MayHave new q) → AreQualified nodes new
more_qualified nodes old new a f y node = f y.qualifier (a y node)

pub pushed_qualified : (nodes : List (Option Variable)) (old new : Qualifiers) (x y : Variable) → AreQualified nodes old → ((q : Option (List ℕ)) → MayHave old q → MayHave new q) → y ≡ x → MayHave new y.qualifier → AreQualified (nodes ++ Some x ∷ []) new
pushed_qualified nodes old new x y a f e m z node = ⊎_elim
    (λ there. f z.qualifier (a z there))
    (λ last. subst (λ (v : Variable). MayHave new v.qualifier) (e ∙ some_injective last) m)
    (pushed_node nodes (Some x) z node)

pub pattern_qualified : (nodes : List (Option Variable)) (qualifiers : Qualifiers) → AreQualified nodes qualifiers → AreQualified (nodes ++ None ∷ []) qualifiers
pattern_qualified nodes qualifiers a z node = ⊎_elim (λ there. a z there) (λ last. let h : None ≡ Some z = last in cc) (pushed_node nodes None z node)
