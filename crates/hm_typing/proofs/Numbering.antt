-- Groups of numbered names are groups of the names.
use Rattle.std.proofs.Common.{◌≡◌, ℕ, List, [], ◌∷◌, ◌++◌, inl, inr, ◌⊎◌, ⊎_elim, ◌↔◌, refl, sym, ap, ◌∙◌, subst, subst₂, ◌<◌, map}
use Rattle.hm_typing.specs.Names.{Identifier, IsOneOf}
use Rattle.hm_typing.specs.Syntax.{Bindings}
use Rattle.hm_typing.specs.Units.{IsUnsigned, Reaches, SameUnit}
use Rattle.hm_typing.specs.Orders.{IsInSome, ComeInOrder, AreGroups, NumberedGroup, NumberedInOrder, AreNumberedGroups}
use Rattle.hm_typing.proofs.Judge.{Reaches-trans, Reaches-unsigned}

one_of_map : {X Y : Type 0} (f : X → Y) (x : X) (xs : List X) → IsOneOf x xs → IsOneOf (f x) (map f xs)
one_of_map f x [] o = o
one_of_map f x (y ∷ ys) (inl e) = inl (ap f e)
one_of_map f x (y ∷ ys) (inr o) = inr (one_of_map f x ys o)

map_one_of : {X Y : Type 0} (f : X → Y) (y : Y) (xs : List X) → IsOneOf y (map f xs) → (x : X) × IsOneOf x xs × (y ≡ f x)
map_one_of f y [] o = absurd o
map_one_of f y (x ∷ xs) (inl e) = (x, inl refl, e)
map_one_of f y (x ∷ xs) (inr o) = let h = map_one_of f y xs o in (h.0, inr h.1, h.2)

either_list : {X : Type 0} (x : X) (xs ys : List X) → IsOneOf x (xs ++ ys) → IsOneOf x xs ⊎ IsOneOf x ys
either_list x [] ys o = inr o
either_list x (z ∷ zs) ys (inl e) = inl (inl e)
either_list x (z ∷ zs) ys (inr o) = ⊎_elim (λ k. inl (inr k)) inr (either_list x zs ys o)

left_list : {X : Type 0} (x : X) (xs ys : List X) → IsOneOf x xs → IsOneOf x (xs ++ ys)
left_list x [] ys o = absurd o
left_list x (z ∷ zs) ys (inl e) = inl e
left_list x (z ∷ zs) ys (inr o) = inr (left_list x zs ys o)

right_list : {X : Type 0} (x : X) (xs ys : List X) → IsOneOf x ys → IsOneOf x (xs ++ ys)
right_list x [] ys o = o
right_list x (z ∷ zs) ys o = inr (right_list x zs ys o)

in_some : (x : Identifier) (g : List Identifier) (gs : List (List Identifier)) → IsOneOf g gs → IsOneOf x g → IsInSome x gs
in_some x g [] o p = absurd o
in_some x g (h ∷ hs) (inl e) p = inl (subst (IsOneOf x) e p)
in_some x g (h ∷ hs) (inr o) p = inr (in_some x g hs o p)

module _ (ds : Bindings) (name : ℕ → Identifier) (n : ℕ) (all_groups : List (List ℕ)) (r : AreNumberedGroups ds name n all_groups) where
  abbrev Together : ℕ → ℕ → Type 0
  Together i j = (i ≡ j) ⊎ (Reaches ds (name i) (name j) × Reaches ds (name j) (name i))

  together_sym : (i j : ℕ) → Together i j → Together j i
  together_sym i j (inl e) = inl (sym e)
  together_sym i j (inr p) = inr (p.1, p.0)

  together_trans : (i j k : ℕ) → Together i j → Together j k → Together i k
  together_trans i j k (inl e) t = subst (λ v. Together v k) (sym e) t
  together_trans i j k (inr p) (inl e) = subst (Together i) e (inr p)
  together_trans i j k (inr p) (inr q) = inr (Reaches-trans ds p.0 q.0, Reaches-trans ds q.1 p.1)

  together_unit : (i j : ℕ) → Together i j → SameUnit ds (name i) (name j)
  together_unit i j (inl e) = inl (ap name e)
  together_unit i j (inr p) = inr p

  unit_together : (i j : ℕ) → i < n → j < n → SameUnit ds (name i) (name j) → Together i j
  unit_together i j a b (inl e) = inl (r.one_number i j a b e)
  unit_together i j a b (inr p) = inr p

  -- a group is that of each of its members
  whole_group : (before g : List ℕ) → NumberedGroup ds name n before g → (x y : Identifier) → IsOneOf x (map name g) → IsOneOf y (map name g) ↔ (IsUnsigned y ds × SameUnit ds x y)
  whole_group before g k x y o = (
    (λ p.
        let j = map_one_of name y g p in
        let b = (k.members j.0).0 j.1 in
        (subst (λ v. IsUnsigned v ds) (sym j.2) (r.unsigned_names j.0 b.0), subst₂ (SameUnit ds) (sym i.2) (sym j.2) (together_unit i.0 j.0 (together_trans i.0 k.first j.0 (together_sym k.first i.0 a.1) b.1)))),
    (λ p.
        let j = r.named y p.0 in
        let s = unit_together i.0 j.0 a.0 j.1 (subst₂ (SameUnit ds) i.2 j.2 p.1) in
        subst (λ v. IsOneOf v (map name g)) (sym j.2) (one_of_map name j.0 g ((k.members j.0).1 (j.1, together_trans k.first i.0 j.0 a.1 s)))),
  )
    where
      i : (v : ℕ) × IsOneOf v g × (x ≡ name v)
      i = map_one_of name x g o

      a : (i.0 < n) × Together k.first i.0
      a = (k.members i.0).0 i.1

  -- the numbers before are those of the groups before, and whole units
  record SameBefore (before : List ℕ) (groups : List (List Identifier)) : Type 0 where
    there : (i : ℕ) → IsOneOf i before → IsInSome (name i) groups
    back : (x : Identifier) → IsInSome x groups → (i : ℕ) × IsOneOf i before × (x ≡ name i)
    below : (i : ℕ) → IsOneOf i before → i < n
    units : (i j : ℕ) → IsOneOf i before → j < n → Together i j → IsOneOf j before

  ordered : (gs : List (List ℕ)) (before : List ℕ) (groups : List (List Identifier)) → SameBefore before groups → NumberedInOrder ds name n before gs → ComeInOrder ds groups (map (map name) gs)
  ordered [] before groups s o = tt
  ordered (g ∷ gs) before groups s (k, o) = (
    (λ x p. (absent x (map_one_of name x g p), λ y q. after x y (map_one_of name x g p) q)),
    ordered gs (before ++ g) (map name g ∷ groups) (record {
      there = λ i p. ⊎_elim (λ q. inr (s.there i q)) (λ q. inl (one_of_map name i g q)) (either_list i before g p);
      back = λ x p. ⊎_elim (λ q. let h = map_one_of name x g q in (h.0, right_list h.0 before g h.1, h.2)) (λ q. let h = s.back x q in (h.0, left_list h.0 before g h.1, h.2)) p;
      below = λ i p. ⊎_elim (λ q. s.below i q) (λ q. ((k.members i).0 q).0) (either_list i before g p);
      units = λ i j p l t. ⊎_elim (λ q. left_list j before g (s.units i j q l t))
          (λ q. right_list j before g ((k.members j).1 (l, together_trans k.first i j ((k.members i).0 q).1 t))) (either_list i before g p);
    }) o,
  )
    where
      absent : (x : Identifier) → (i : ℕ) × IsOneOf i g × (x ≡ name i) → ¬ (IsInSome x groups)
      absent x i p =
          let h = s.back x p in
          let b = (k.members i.0).0 i.1 in
          let e = r.one_number i.0 h.0 b.0 (s.below h.0 h.1) (sym i.2 ∙ h.2) in
          k.absent (s.units h.0 k.first h.1 k.number (together_sym k.first h.0 (subst (Together k.first) e b.1)))

      after : (x y : Identifier) → (i : ℕ) × IsOneOf i g × (x ≡ name i) → Reaches ds x y → IsOneOf y (map name g) ⊎ IsInSome y groups
      after x y i q =
          let j = r.named y (Reaches-unsigned ds q) in
          let b = (k.members i.0).0 i.1 in
          let q' = subst₂ (Reaches ds) i.2 j.2 q in
          let p = ⊎_elim (λ e. subst (λ v. Reaches ds (name v) (name j.0)) (sym e) q') (λ t. Reaches-trans ds t.0 q') b.1 in
          ⊎_elim
          (λ m. inr (subst (λ v. IsInSome v groups) (sym j.2) (s.there j.0 m)))
          (λ m. inl (subst (λ v. IsOneOf v (map name g)) (sym j.2) (one_of_map name j.0 g ((k.members j.0).1 (j.1, inr (p, m))))))
          (k.after j.0 j.1 p)

  -- each group is one of those that come in order
  group_at : (gs : List (List ℕ)) (before : List ℕ) → NumberedInOrder ds name n before gs → (g : List ℕ) → IsOneOf g gs → (b : List ℕ) × NumberedGroup ds name n b g
  group_at [] before o g p = absurd p
  group_at (h ∷ hs) before o g (inl e) = (before, subst (NumberedGroup ds name n before) (sym e) o.0)
  group_at (h ∷ hs) before o g (inr p) = group_at hs (before ++ h) o.1 g p

  pub numbered : AreGroups ds (map (map name) all_groups)
  numbered = record {
    all = λ x u. let i = r.named x u in let g = r.all i.0 i.1 in in_some x (map name g.0) (map (map name) all_groups) (one_of_map (map name) g.0 all_groups g.1) (subst (λ v. IsOneOf v (map name g.0)) (sym i.2) (one_of_map name i.0 g.0 g.2));
    whole = λ g o x y p.
        let h = map_one_of (map name) g all_groups o in
        let k = group_at all_groups [] r.in_order h.0 h.1 in
        subst (λ v. IsOneOf y v ↔ (IsUnsigned y ds × SameUnit ds x y)) (sym h.2) (whole_group k.0 h.0 k.1 x y (subst (IsOneOf x) h.2 p));
    in_order = ordered all_groups [] [] (record { there = λ i o. absurd o; back = λ x o. absurd o; below = λ i o. absurd o; units = λ i j o l t. absurd o }) r.in_order;
  }
