-- Tables of the bindings of local variables.
use Rattle.std.proofs.Common.{◌≡◌, ℕ, zero, suc, ◌+◌, ◌-◌, ◌<◌, ◌≤◌, Bool, true, false, cond, List, [], ◌∷◌, ◌++◌, length, drop, map, reverse, get_or, Option, None, Some, option_map, slice_get, option_to_list, IsSome, ◌↔◌, inl, inr, refl, sym, ap, ap₂, ◌∙◌, subst, Bor, Vec, bytes_eq, arith, append_assoc, append-nil}
use Rattle.std.specs.declared.alloc.Global.{Global}
use Rattle.std.proofs.lemmas.Bool.{cases_Bool}
use Rattle.std.proofs.lemmas.List.{reverse-append, length-reverse}
use Rattle.std.proofs.lemmas.Slice.Eq.{bytes_eq-Decides}
use Rattle.std.proofs.Math.Seq.{drop-cons}
use Rattle.std.specs.HashMap.{get_by}
use Rattle.hm_syntax.specs.Names.{Identifier}
use Rattle.hm_names.specs.Texts.{same_text}
use Rattle.hm_names.proofs.Rows.{unrolled, past}
use Rattle.hm_uses.specs.Found.{first_named}
use Rattle.hm_uses_declarations.specs.Walking.{all_of, innermost}
use Rattle.hm_uses_declarations.specs.Bindings.{Table, listed, bindings_of, place_of, binding_at, bound_in, bound_around, last_of, IsTable}
use Rattle.hm_uses_declarations.specs.declared.locals.Binding.{Binding}

-- One text

same_bindings : (table : Table) (s x : Bor (List ℕ)) → bytes_eq s.now x.now ≡ true → get_by (λ k. bytes_eq x.now k.now) table ≡ get_by (λ k. bytes_eq s.now k.now) table
same_bindings table s x e = ap (λ (t : List ℕ). get_by (λ k. bytes_eq t k.now) table) (sym ((bytes_eq-Decides s.now x.now).0 e))

-- the first binding of a text is added
pub first_binding : (old mid new : Table) (s x : Bor (List ℕ)) (v : Vec Binding Global) (b : Binding) → mid ≡ old → None ≡ get_by (λ k. bytes_eq s.now k.now) old → v.items ≡ b ∷ []
    → get_by (λ k. bytes_eq x.now k.now) new ≡ cond (bytes_eq s.now x.now) (Some v) (get_by (λ k. bytes_eq x.now k.now) mid)
    → bindings_of new x ≡ cond (same_text s.now x.now) (bindings_of old x ++ b ∷ []) (bindings_of old x)
first_binding old mid new s x v b kept none one is = elim (cases_Bool (bytes_eq s.now x.now)) [
  | inl same ↦
      let nothing : bindings_of old x ≡ [] = ap listed (same_bindings old s x same ∙ sym none) in
      ap listed (is ∙ ap (λ t. cond t (Some v) (get_by (λ k. bytes_eq x.now k.now) mid)) same) ∙ (one ∙ (ap (λ l. l ++ b ∷ []) (sym nothing) ∙ ap (λ t. cond t (bindings_of old x ++ b ∷ []) (bindings_of old x)) (sym same)))
  | inr apart ↦
      ap listed (is ∙ (ap (λ t. cond t (Some v) (get_by (λ k. bytes_eq x.now k.now) mid)) apart ∙ ap (λ (t : Table). get_by (λ k. bytes_eq x.now k.now) t) kept)) ∙ ap (λ t. cond t (bindings_of old x ++ b ∷ []) (bindings_of old x)) (sym apart)
]

one_longer : (bs : List Binding) (b : Binding) → length (bs ++ b ∷ []) ≡ length bs + 1
one_longer [] b = refl
one_longer (c ∷ bs) b = let l = one_longer bs b in omega (arith, l)

no_end : (bs : List Binding) (b : Binding) → ¬ ([] ≡ bs ++ b ∷ [])
no_end [] b e = let f : [] ≡ b ∷ [] = e in cc
no_end (c ∷ bs) b e = let f : [] ≡ c ∷ (bs ++ b ∷ []) = e in cc

same_front : (cs bs : List Binding) (a b : Binding) → cs ++ a ∷ [] ≡ bs ++ b ∷ [] → cs ≡ bs
same_front [] [] a b e = refl
same_front [] (d ∷ bs) a b e =
    let f : a ∷ [] ≡ d ∷ (bs ++ b ∷ []) = e in
    let z : [] ≡ bs ++ b ∷ [] = cc in
    absurd (no_end bs b z)
same_front (c ∷ cs) [] a b e =
    let f : c ∷ (cs ++ a ∷ []) ≡ b ∷ [] = e in
    let z : cs ++ a ∷ [] ≡ [] = cc in
    absurd (no_end cs a (sym z))
same_front (c ∷ cs) (d ∷ bs) a b e =
    let f : c ∷ (cs ++ a ∷ []) ≡ d ∷ (bs ++ b ∷ []) = e in
    let tail : cs ++ a ∷ [] ≡ bs ++ b ∷ [] = cc in
    let head : c ≡ d = cc in
    ap₂ (λ h t. h ∷ t) head (same_front cs bs a b tail)

popped : (r : Option Binding) (v w bs : List Binding) (b : Binding) (n : ℕ) → v ≡ w ++ option_to_list r → IsSome r ↔ (0 < n) → n ≡ length v → v ≡ bs ++ b ∷ [] → w ≡ bs
popped (Some c) v w bs b n e some l is = same_front w bs c b (sym e ∙ is)
popped None v w bs b n e some l is =
    let more = one_longer bs b in
    let long : length v ≡ length (bs ++ b ∷ []) = ap length is in
    let here : 0 < n = omega (arith, more, long, l) in
    absurd (let f : false ≡ true = some.1 here in cc)

-- no binding of the text is removed
pub none_removed : (old new : Table) (s x : Bor (List ℕ)) (bs : List Binding) (b : Binding) → None ≡ get_by (λ k. bytes_eq s.now k.now) old → same_text s.now x.now ≡ true → bindings_of old x ≡ bs ++ b ∷ [] → bindings_of new x ≡ bs
none_removed old new s x bs b none same is = absurd (no_end bs b (sym (ap listed (same_bindings old s x same ∙ sym none)) ∙ is))

-- the last binding of the text is removed
pub last_removed : (old new : Table) (s x : Bor (List ℕ)) (v w : Vec Binding Global) (r : Option Binding) (bs : List Binding) (b : Binding) (n : ℕ) → Some v ≡ get_by (λ k. bytes_eq s.now k.now) old → v.items ≡ w.items ++ option_to_list r
    → IsSome r ↔ (0 < n) → n ≡ length v.items → get_by (λ k. bytes_eq x.now k.now) new ≡ cond (bytes_eq s.now x.now) (Some w) (get_by (λ k. bytes_eq x.now k.now) old)
    → same_text s.now x.now ≡ true → bindings_of old x ≡ bs ++ b ∷ [] → bindings_of new x ≡ bs
last_removed old new s x v w r bs b n some e variant l put same is =
    ap listed (put ∙ ap (λ t. cond t (Some w) (get_by (λ k. bytes_eq x.now k.now) old)) same)
    ∙ popped r v.items w.items bs b n e variant l (sym (ap listed (same_bindings old s x same ∙ sym some)) ∙ is)

-- Lists of binders

drop_back : {X : Type 0} (xs : List X) (behind place : ℕ) (x : X) → behind < length xs → place ≡ length xs - 1 - behind → x ≡ get_or xs place x → drop (length xs - (behind + 1)) xs ≡ x ∷ drop (length xs - behind) xs
drop_back xs behind place x l p e =
    let a : length xs - (behind + 1) ≡ place = omega (arith, l, p) in
    let b : place + 1 ≡ length xs - behind = omega (arith, l, p) in
    ap (λ i. drop i xs) a ∙ (unrolled xs place x (omega (arith, l, p)) e ∙ ap (λ i. x ∷ drop i xs) b)

one_more : (d : ℕ) (x : List ℕ) (n : Identifier) (ns : List Identifier) (start table new : List Binding) → table ≡ start ++ bound_in d x ns → new ≡ cond (same_text n.text x) (table ++ binding_at d n ∷ []) table → new ≡ start ++ bound_in d x (n ∷ ns)
one_more d x n ns start table new is put = elim (cases_Bool (same_text n.text x)) [
  | inl t ↦ put ∙ (ap (λ z. cond z (table ++ binding_at d n ∷ []) table) t ∙ (ap (λ l. l ++ binding_at d n ∷ []) is ∙ (append_assoc start (bound_in d x ns) (binding_at d n ∷ [])
      ∙ ap (λ z. start ++ (bound_in d x ns ++ cond z (binding_at d n ∷ []) [])) (sym t))))
  | inr f ↦ put ∙ (ap (λ z. cond z (table ++ binding_at d n ∷ []) table) f ∙ (is ∙ (ap (λ l. start ++ l) (sym (append-nil (bound_in d x ns)))
      ∙ ap (λ z. start ++ (bound_in d x ns ++ cond z (binding_at d n ∷ []) [])) (sym f))))
]

abbrev pub nows : List (Bor Identifier) → List Identifier
nows ns = map (λ n. n.now) ns

-- the step of the loop that adds bindings
pub added_more : (d : ℕ) (x : List ℕ) (ns : List (Bor Identifier)) (behind place : ℕ) (n : Bor Identifier) (start table new : List Binding) (text : List ℕ) (b : Binding) → behind < length ns → place ≡ length ns - 1 - behind → n ≡ get_or ns place n
    → text ≡ n.now.text → b ≡ binding_at d n.now → table ≡ start ++ bound_in d x (nows (drop (length ns - behind) ns)) → new ≡ cond (same_text text x) (table ++ b ∷ []) table
    → new ≡ start ++ bound_in d x (nows (drop (length ns - (behind + 1)) ns))
added_more d x ns behind place n start table new text b l p e t at is put =
    one_more d x n.now (nows (drop (length ns - behind) ns)) start table new is (put ∙ ap₂ (λ y c. cond (same_text y x) (table ++ c ∷ []) table) t at)
    ∙ ap (λ zs. start ++ bound_in d x (nows zs)) (sym (drop_back ns behind place n l p e))

-- the step of the loop that removes bindings
pub removed_more : (d : ℕ) (x : List ℕ) (ns : List (Bor Identifier)) (i : ℕ) (n : Bor Identifier) (start table new : List Binding) (text : List ℕ) → i < length ns → n ≡ get_or ns i n → text ≡ n.now.text
    → table ≡ start ++ bound_in d x (nows (drop i ns)) → (same_text text x ≡ false → new ≡ table) → ((bs : List Binding) (b : Binding) → same_text text x ≡ true → table ≡ bs ++ b ∷ [] → new ≡ bs)
    → new ≡ start ++ bound_in d x (nows (drop (i + 1) ns))
removed_more d x ns i n start table new text l e is table_is others last =
    let rest : List Binding = bound_in d x (nows (drop (i + 1) ns)) in
    let opened : table ≡ start ++ (rest ++ cond (same_text text x) (binding_at d n.now ∷ []) []) =
    table_is ∙ (ap (λ zs. start ++ bound_in d x (nows zs)) (unrolled ns i n l e) ∙ ap (λ y. start ++ (rest ++ cond (same_text y x) (binding_at d n.now ∷ []) [])) (sym is)) in
    elim (cases_Bool (same_text text x)) [
      | inl t ↦ last (start ++ rest) (binding_at d n.now) t (opened ∙ (ap (λ z. start ++ (rest ++ cond z (binding_at d n.now ∷ []) [])) t ∙ sym (append_assoc start rest (binding_at d n.now ∷ []))))
      | inr f ↦ others f ∙ (opened ∙ (ap (λ z. start ++ (rest ++ cond z (binding_at d n.now ∷ []) [])) f ∙ ap (λ l. start ++ l) (append-nil rest)))
    ]

-- its end
pub all_removed : (d : ℕ) (x : List ℕ) (ns : List (Bor Identifier)) (i : ℕ) (start table : List Binding) → length ns ≤ i → table ≡ start ++ bound_in d x (nows (drop i ns)) → table ≡ start
all_removed d x ns i start table l is = is ∙ (ap (λ zs. start ++ bound_in d x (nows zs)) (past ns i l) ∙ append-nil start)

-- one list more, or less
pub entered : (old new : Table) (groups all : List (List Identifier)) (g : List Identifier) (d : ℕ) → ((x : Bor (List ℕ)) → bindings_of new x ≡ bindings_of old x ++ bound_in d x.now g) → d ≡ length groups → all ≡ groups ++ g ∷ []
    → IsTable (reverse groups) old → IsTable (reverse all) new
entered old new groups all g d put is more known x =
    put x ∙ (ap₂ (λ l n. l ++ bound_in n x.now g) (known x) (is ∙ sym (length-reverse groups)) ∙ ap (λ gs. bound_around gs x.now) (sym (ap reverse more ∙ reverse-append groups (g ∷ []))))

pub left : (old new : Table) (groups all : List (List Identifier)) (g : List Identifier) → ((x : Bor (List ℕ)) (bs : List Binding) (d : ℕ) → bindings_of old x ≡ bs ++ bound_in d x.now g → bindings_of new x ≡ bs) → all ≡ groups ++ g ∷ []
    → IsTable (reverse all) old → IsTable (reverse groups) new
left old new groups all g gone more known x =
    gone x (bound_around (reverse groups) x.now) (length (reverse groups)) (known x ∙ ap (λ gs. bound_around gs x.now) (ap reverse more ∙ reverse-append groups (g ∷ [])))

-- What is looked up

abbrev or_else : {X : Type 0} → Option X → Option X → Option X
or_else (Some a) b = Some a
or_else None b = b

last_at : (bs : List Binding) (b : Binding) → slice_get (bs ++ b ∷ []) (length bs) ≡ Some b
last_at [] b = refl
last_at (c ∷ bs) b = last_at bs b

last_is : (bs : List Binding) (b : Binding) → last_of (bs ++ b ∷ []) ≡ Some b
last_is bs b =
    let l = one_longer bs b in
    let e : length (bs ++ b ∷ []) - 1 ≡ length bs = omega (arith, l) in
    ap (slice_get (bs ++ b ∷ [])) e ∙ last_at bs b

last_in : (d : ℕ) (x : List ℕ) (g : List Identifier) (bs : List Binding) → last_of (bs ++ bound_in d x g) ≡ or_else (option_map (binding_at d) (first_named x g)) (last_of bs)
last_in d x [] bs = ap last_of (append-nil bs)
last_in d x (n ∷ ns) bs = elim (cases_Bool (same_text n.text x)) [
  | inl t ↦
      ap (λ z. last_of (bs ++ (bound_in d x ns ++ cond z (binding_at d n ∷ []) []))) t ∙ (ap last_of (sym (append_assoc bs (bound_in d x ns) (binding_at d n ∷ []))) ∙ (last_is (bs ++ bound_in d x ns) (binding_at d n)
      ∙ ap (λ z. or_else (option_map (binding_at d) (cond z (Some n) (first_named x ns))) (last_of bs)) (sym t)))
  | inr f ↦
      ap (λ z. last_of (bs ++ (bound_in d x ns ++ cond z (binding_at d n ∷ []) []))) f ∙ (ap (λ l. last_of (bs ++ l)) (append-nil (bound_in d x ns)) ∙ (last_in d x ns bs
      ∙ ap (λ z. or_else (option_map (binding_at d) (cond z (Some n) (first_named x ns))) (last_of bs)) (sym f)))
]

first_in_both : (x : List ℕ) (cs bs : List Identifier) → first_named x (cs ++ bs) ≡ or_else (first_named x cs) (first_named x bs)
first_in_both x [] bs = refl
first_in_both x (n ∷ cs) bs = go (same_text n.text x) (first_in_both x cs bs)
  where
    go : (t : Bool) → first_named x (cs ++ bs) ≡ or_else (first_named x cs) (first_named x bs) → cond t (Some n) (first_named x (cs ++ bs)) ≡ or_else (cond t (Some n) (first_named x cs)) (first_named x bs)
    go true h = refl
    go false h = h

-- the last binding of a text is at the place of the first of all binders with it
pub last_place : (gs : List (List Identifier)) (x : List ℕ) → option_map (λ (b : Binding). b.place) (last_of (bound_around gs x)) ≡ option_map place_of (first_named x (all_of gs))
last_place [] x = refl
last_place (g ∷ gs) x =
    ap (option_map (λ (b : Binding). b.place)) (last_in (length gs) x g (bound_around gs x))
    ∙ (through (first_named x g) (last_place gs x) ∙ ap (option_map place_of) (sym (first_in_both x g (all_of gs))))
  where
    through : (o : Option Identifier) → option_map (λ (b : Binding). b.place) (last_of (bound_around gs x)) ≡ option_map place_of (first_named x (all_of gs)) → option_map (λ (b : Binding). b.place) (or_else (option_map (binding_at (length gs)) o) (last_of (bound_around gs x))) ≡ option_map place_of (or_else o (first_named x (all_of gs)))
    through (Some n) h = refl
    through None h = h

same_binding : (a b : Binding) → Some a ≡ Some b → a ≡ b
same_binding a b e = cc

within : (gs : List (List Identifier)) (x : List ℕ) (b : Binding) → last_of (bound_around gs x) ≡ Some b → b.depth < length gs
within [] x b e = absurd (let z : None ≡ Some b = e in cc)
within (g ∷ gs) x b e = go (first_named x g) (sym (last_in (length gs) x g (bound_around gs x)) ∙ e) (within gs x b)
  where
    go : (o : Option Identifier) → or_else (option_map (binding_at (length gs)) o) (last_of (bound_around gs x)) ≡ Some b → (last_of (bound_around gs x) ≡ Some b → b.depth < length gs) → b.depth < suc (length gs)
    go (Some n) e h = let z : length gs ≡ b.depth = ap (λ (c : Binding). c.depth) (same_binding (binding_at (length gs) n) b e) in omega (arith, z)
    go None e h = let l = h e in omega (arith, l)

-- a binding further out isn't in the innermost list
pub further_out : (gs : List (List Identifier)) (x : List ℕ) (b : Binding) → last_of (bound_around gs x) ≡ Some b → b.depth < length gs - 1 → None ≡ option_map place_of (first_named x (innermost gs))
further_out [] x b e l = absurd (let z : None ≡ Some b = e in cc)
further_out (g ∷ gs) x b e l = go (first_named x g) (sym (last_in (length gs) x g (bound_around gs x)) ∙ e)
  where
    go : (o : Option Identifier) → or_else (option_map (binding_at (length gs)) o) (last_of (bound_around gs x)) ≡ Some b → None ≡ option_map place_of o
    go (Some n) e = absurd (let z : length gs ≡ b.depth = ap (λ (c : Binding). c.depth) (same_binding (binding_at (length gs) n) b e) in omega (arith, z, l))
    go None e = refl

-- and each other one is
pub in_list : (gs : List (List Identifier)) (x : List ℕ) (b : Binding) → last_of (bound_around gs x) ≡ Some b → length gs - 1 ≤ b.depth → Some b.place ≡ option_map place_of (first_named x (innermost gs))
in_list [] x b e l = absurd (let z : None ≡ Some b = e in cc)
in_list (g ∷ gs) x b e l = go (first_named x g) (sym (last_in (length gs) x g (bound_around gs x)) ∙ e)
  where
    go : (o : Option Identifier) → or_else (option_map (binding_at (length gs)) o) (last_of (bound_around gs x)) ≡ Some b → Some b.place ≡ option_map place_of o
    go (Some n) e = ap (λ (c : Binding). Some c.place) (sym (same_binding (binding_at (length gs) n) b e))
    go None e = absurd (let w = within gs x b e in omega (arith, w, l))

-- without a binding there is none in any list
pub nowhere : (gs : List (List Identifier)) (x : List ℕ) → last_of (bound_around gs x) ≡ None → None ≡ option_map place_of (first_named x (innermost gs))
nowhere [] x e = refl
nowhere (g ∷ gs) x e = go (first_named x g) (sym (last_in (length gs) x g (bound_around gs x)) ∙ e)
  where
    go : (o : Option Identifier) → or_else (option_map (binding_at (length gs)) o) (last_of (bound_around gs x)) ≡ None → None ≡ option_map place_of o
    go (Some n) e = absurd (let z : Some (binding_at (length gs) n) ≡ None = e in cc)
    go None e = refl
