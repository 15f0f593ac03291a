-- Tables of the depths at which local names are bound first.
use Rattle.std.proofs.Common.{◌≡◌, ℕ, zero, suc, ◌+◌, ◌<◌, ◌==◌, Bool, true, false, cond, ◌||◌, List, [], ◌∷◌, ◌++◌, reverse, length, take, get_or, Option, None, Some, is_some, option_map, inl, inr, refl, sym, ap, ◌∙◌, bytes_eq, arith}
use Rattle.std.proofs.lemmas.Bool.{cases_Bool, both_ways}
use Rattle.std.proofs.lemmas.Bool.Decides.{Decides-eqb}
use Rattle.std.proofs.lemmas.List.{take_more, map-append, reverse-append}
use Rattle.std.proofs.lemmas.Slice.Eq.{bytes_eq-Decides}
use Rattle.hm_syntax.specs.Names.{Identifier}
use Rattle.hm_names.specs.Texts.{is_text_among}
use Rattle.hm_names.specs.Variables.{texts}
use Rattle.hm_names.specs.Found.{all_of}
use Rattle.hm_scope_resolve.specs.Depths.{or_else, unless_at, depth_of}
use Rattle.hm_scope_resolve.proofs.Leaves.{among_append, all_append, or_swap, or_nothing}
use Rattle.hm_scope_tables.proofs.TextSets.{more}

pub flip : (x y : List ℕ) → bytes_eq x y ≡ bytes_eq y x
flip x y = elim (cases_Bool (bytes_eq x y)) [
  | inl t ↦ t ∙ sym ((bytes_eq-Decides y x).1 (sym ((bytes_eq-Decides x y).0 t)))
  | inr f ↦ elim (cases_Bool (bytes_eq y x)) [
    | inl t ↦ absurd (both_ways (bytes_eq x y) f ((bytes_eq-Decides x y).1 (sym ((bytes_eq-Decides y x).0 t))))
    | inr g ↦ f ∙ sym g
  ]
]

-- one text is noted that has no depth
pub noted : (f g : List ℕ → Option ℕ) (name key x : List ℕ) (d : ℕ) → g x ≡ cond (bytes_eq key x) (Some d) (f x) → key ≡ name → f name ≡ None → g x ≡ or_else (f x) (cond (bytes_eq name x) (Some d) None)
noted f g name key x d put is none = put ∙ (ap (λ k. cond (bytes_eq k x) (Some d) (f x)) is ∙ elim (cases_Bool (bytes_eq name x)) [
  | inl t ↦
      let gone : f x ≡ None = ap f (sym ((bytes_eq-Decides name x).0 t)) ∙ none in
      ap (λ b. cond b (Some d) (f x)) t ∙ sym (ap (λ b. or_else (f x) (cond b (Some d) None)) t ∙ ap (λ o. or_else o (Some d)) gone)
  | inr n ↦ ap (λ b. cond b (Some d) (f x)) n ∙ sym (ap (λ b. or_else (f x) (cond b (Some d) None)) n ∙ nothing (f x))
])
  where
    nothing : (o : Option ℕ) → or_else o None ≡ o
    nothing None = refl
    nothing (Some k) = refl

-- the names of a row, one after another

among_more : (ns : List Identifier) (i : ℕ) (n : Identifier) (x : List ℕ) → i < length ns → n ≡ get_or ns i n → is_text_among x (texts (take (i + 1) ns)) ≡ (bytes_eq n.text x || is_text_among x (texts (take i ns)))
among_more ns i n x h e =
    ap (λ (l : List Identifier). is_text_among x (texts l)) (take_more ns i n h ∙ ap (λ z. take i ns ++ z ∷ []) (sym e))
    ∙ (ap (is_text_among x) (map-append (λ (k : Identifier). k.text) (take i ns) (n ∷ [])) ∙ (more x n.text (texts (take i ns)) ∙ ap (λ b. b || is_text_among x (texts (take i ns))) (flip x n.text)))

pub noted_more : (f cur new : List ℕ → Option ℕ) (ns : List Identifier) (i : ℕ) (n : Identifier) (d : ℕ) (x : List ℕ) → i < length ns → n ≡ get_or ns i n
    → new x ≡ or_else (cur x) (cond (bytes_eq n.text x) (Some d) None) → cur x ≡ or_else (f x) (cond (is_text_among x (texts (take i ns))) (Some d) None)
    → new x ≡ or_else (f x) (cond (is_text_among x (texts (take (i + 1) ns))) (Some d) None)
noted_more f cur new ns i n d x h e put known =
    put ∙ (ap (λ o. or_else o (cond (bytes_eq n.text x) (Some d) None)) known
    ∙ (go (f x) (bytes_eq n.text x) (is_text_among x (texts (take i ns))) ∙ ap (λ b. or_else (f x) (cond b (Some d) None)) (sym (among_more ns i n x h e))))
  where
    go : (o : Option ℕ) (a b : Bool) → or_else (or_else o (cond b (Some d) None)) (cond a (Some d) None) ≡ or_else o (cond (a || b) (Some d) None)
    go (Some k) a b = refl
    go None true true = refl
    go None true false = refl
    go None false true = refl
    go None false false = refl

forgotten_twice : (d : ℕ) (o : Option ℕ) → unless_at d (unless_at d o) ≡ unless_at d o
forgotten_twice d None = refl
forgotten_twice d (Some k) = elim (cases_Bool (k == d)) [
  | inl t ↦ ap (λ b. unless_at d (cond b None (Some k))) t ∙ sym (ap (λ b. cond b None (Some k)) t)
  | inr f ↦ ap (λ b. unless_at d (cond b None (Some k))) f
]

pub forgotten_more : (f cur new : List ℕ → Option ℕ) (ns : List Identifier) (i : ℕ) (n : Identifier) (d : ℕ) (x : List ℕ) → i < length ns → n ≡ get_or ns i n
    → new x ≡ cond (bytes_eq n.text x) (unless_at d (cur x)) (cur x) → cur x ≡ cond (is_text_among x (texts (take i ns))) (unless_at d (f x)) (f x)
    → new x ≡ cond (is_text_among x (texts (take (i + 1) ns))) (unless_at d (f x)) (f x)
forgotten_more f cur new ns i n d x h e put known =
    put ∙ (ap (λ o. cond (bytes_eq n.text x) (unless_at d o) o) known
    ∙ (go (bytes_eq n.text x) (is_text_among x (texts (take i ns))) ∙ ap (λ b. cond b (unless_at d (f x)) (f x)) (sym (among_more ns i n x h e))))
  where
    go : (a b : Bool) → cond a (unless_at d (cond b (unless_at d (f x)) (f x))) (cond b (unless_at d (f x)) (f x)) ≡ cond (a || b) (unless_at d (f x)) (f x)
    go true true = forgotten_twice d (f x)
    go true false = refl
    go false true = refl
    go false false = refl

-- a text is forgotten that has this depth
pub forgotten : (f g : List ℕ → Option ℕ) (name x : List ℕ) (known d : ℕ) → g x ≡ cond (bytes_eq name x) None (f x) → f name ≡ Some known → known ≡ d → g x ≡ cond (bytes_eq name x) (unless_at d (f x)) (f x)
forgotten f g name x known d put is at = put ∙ elim (cases_Bool (bytes_eq name x)) [
  | inl t ↦
      let there : f x ≡ Some known = ap f (sym ((bytes_eq-Decides name x).0 t)) ∙ is in
      ap (λ b. cond b None (f x)) t ∙ sym (ap (λ b. cond b (unless_at d (f x)) (f x)) t ∙ (ap (unless_at d) there ∙ ap (λ b. cond b None (Some known)) ((Decides-eqb known d).1 at)))
  | inr n ↦ ap (λ b. cond b None (f x)) n ∙ sym (ap (λ b. cond b (unless_at d (f x)) (f x)) n)
]

-- one list of names more, or less

depth_last : (gs : List (List (List ℕ))) (g : List (List ℕ)) (x : List ℕ) → depth_of (gs ++ g ∷ []) x ≡ or_else (depth_of gs x) (cond (is_text_among x g) (Some (length gs)) None)
depth_last [] g x = refl
depth_last (k ∷ gs) g x = go (is_text_among x k) (depth_last gs g x)
  where
    through : (o : Option ℕ) (b : Bool) → option_map (λ n. suc n) (or_else o (cond b (Some (length gs)) None)) ≡ or_else (option_map (λ n. suc n) o) (cond b (Some (suc (length gs))) None)
    through (Some j) b = refl
    through None true = refl
    through None false = refl

    go : (b : Bool) → depth_of (gs ++ g ∷ []) x ≡ or_else (depth_of gs x) (cond (is_text_among x g) (Some (length gs)) None)
        → cond b (Some 0) (option_map (λ n. suc n) (depth_of (gs ++ g ∷ []) x)) ≡ or_else (cond b (Some 0) (option_map (λ n. suc n) (depth_of gs x))) (cond (is_text_among x g) (Some (suc (length gs))) None)
    go true again = refl
    go false again = ap (option_map (λ n. suc n)) again ∙ through (depth_of gs x) (is_text_among x g)

depth_within : (gs : List (List (List ℕ))) (x : List ℕ) (k : ℕ) → depth_of gs x ≡ Some k → k < length gs
depth_within [] x k h = absurd (let z : None ≡ Some k = h in cc)
depth_within (g ∷ gs) x k h = go (is_text_among x g) (depth_of gs x) refl h (λ j q. depth_within gs x j q)
  where
    go : (b : Bool) (o : Option ℕ) → depth_of gs x ≡ o → cond b (Some 0) (option_map (λ n. suc n) o) ≡ Some k → ((j : ℕ) → depth_of gs x ≡ Some j → j < length gs) → k < suc (length gs)
    go true o q h again = let z : 0 ≡ k = cc in omega (arith, z)
    go false None q h again = absurd (let z : None ≡ Some k = h in cc)
    go false (Some j) q h again = let z : suc j ≡ k = cc in let l = again j q in omega (arith, z, l)

pub entered : (f new : List ℕ → Option ℕ) (gs all : List (List (List ℕ))) (g : List (List ℕ)) (d : ℕ) → ((x : List ℕ) → new x ≡ or_else (f x) (cond (is_text_among x g) (Some d) None)) → d ≡ length gs → all ≡ gs ++ g ∷ []
    → ((x : List ℕ) → f x ≡ depth_of gs x) → (x : List ℕ) → new x ≡ depth_of all x
entered f new gs all g d put is more known x =
    put x ∙ (ap (λ o. or_else o (cond (is_text_among x g) (Some d) None)) (known x) ∙ (ap (λ n. or_else (depth_of gs x) (cond (is_text_among x g) (Some n) None)) is ∙ (sym (depth_last gs g x) ∙ ap (λ l. depth_of l x) (sym more))))

pub left : (f new : List ℕ → Option ℕ) (gs all : List (List (List ℕ))) (g : List (List ℕ)) (d : ℕ) → ((x : List ℕ) → new x ≡ cond (is_text_among x g) (unless_at d (f x)) (f x)) → d ≡ length gs → all ≡ gs ++ g ∷ []
    → ((x : List ℕ) → f x ≡ depth_of all x) → (x : List ℕ) → new x ≡ depth_of gs x
left f new gs all g d put is more known x =
    put x ∙ (ap (λ o. cond (is_text_among x g) (unless_at d o) o) (known x ∙ (ap (λ l. depth_of l x) more ∙ depth_last gs g x))
    ∙ (ap (λ n. cond (is_text_among x g) (unless_at n (or_else (depth_of gs x) (cond (is_text_among x g) (Some (length gs)) None))) (or_else (depth_of gs x) (cond (is_text_among x g) (Some (length gs)) None))) is
    ∙ go (depth_of gs x) refl (is_text_among x g)))
  where
    go : (o : Option ℕ) → depth_of gs x ≡ o → (b : Bool) → cond b (unless_at (length gs) (or_else o (cond b (Some (length gs)) None))) (or_else o (cond b (Some (length gs)) None)) ≡ o
    go None q true = ap (λ b. cond b None (Some (length gs))) ((Decides-eqb (length gs) (length gs)).1 refl)
    go None q false = refl
    go (Some k) q true = elim (cases_Bool (k == length gs)) [
      | inl t ↦ absurd (let l = depth_within gs x k q in let e = (Decides-eqb k (length gs)).0 t in omega (arith, l, e))
      | inr f ↦ ap (λ b. cond b None (Some k)) f
    ]
    go (Some k) q false = refl

-- a text has a depth just where one of the lists has it
pub has_depth : (gs : List (List (List ℕ))) (x : List ℕ) → is_some (depth_of gs x) ≡ is_text_among x (all_of (reverse gs))
has_depth [] x = refl
has_depth (g ∷ gs) x =
    go (is_text_among x g) (depth_of gs x)
    ∙ (ap (λ b. is_text_among x g || b) (has_depth gs x) ∙ (or_swap (is_text_among x g) (is_text_among x (all_of (reverse gs)))
    ∙ sym (ap (λ (l : List (List (List ℕ))). is_text_among x (all_of l)) (reverse-append (g ∷ []) gs)
    ∙ (ap (is_text_among x) (all_append (reverse gs) (g ∷ [])) ∙ (among_append x (all_of (reverse gs)) (g ++ []) ∙ ap (λ b. is_text_among x (all_of (reverse gs)) || b) (among_append x g [] ∙ or_nothing (is_text_among x g)))))))
  where
    go : (b : Bool) (o : Option ℕ) → is_some (cond b (Some 0) (option_map (λ n. suc n) o)) ≡ (b || is_some o)
    go true o = refl
    go false None = refl
    go false (Some k) = refl

-- The lists that are searched one by one

among_reverse : (gs : List (List (List ℕ))) (x : List ℕ) → is_text_among x (all_of (reverse gs)) ≡ is_text_among x (all_of gs)
among_reverse [] x = refl
among_reverse (g ∷ gs) x =
    ap (λ (l : List (List (List ℕ))). is_text_among x (all_of l)) (reverse-append (g ∷ []) gs)
    ∙ (ap (is_text_among x) (all_append (reverse gs) (g ∷ [])) ∙ (among_append x (all_of (reverse gs)) (g ++ [])
    ∙ (ap (λ b. is_text_among x (all_of (reverse gs)) || b) (among_append x g [] ∙ or_nothing (is_text_among x g)) ∙ (ap (λ b. b || is_text_among x g) (among_reverse gs x)
    ∙ (or_swap (is_text_among x (all_of gs)) (is_text_among x g) ∙ sym (among_append x g (all_of gs)))))))

-- the local names are those of both kinds of lists
pub among_both : (few groups : List (List (List ℕ))) (x : List ℕ) → is_text_among x (all_of (reverse (few ++ groups))) ≡ (is_text_among x (all_of few) || is_text_among x (all_of (reverse groups)))
among_both few groups x =
    ap (λ (l : List (List (List ℕ))). is_text_among x (all_of l)) (reverse-append few groups)
    ∙ (ap (is_text_among x) (all_append (reverse groups) (reverse few)) ∙ (among_append x (all_of (reverse groups)) (all_of (reverse few))
    ∙ (or_swap (is_text_among x (all_of (reverse groups))) (is_text_among x (all_of (reverse few))) ∙ ap (λ b. b || is_text_among x (all_of (reverse groups))) (among_reverse few x))))

pub here_in_few : (few groups : List (List (List ℕ))) (x : List ℕ) → is_text_among x (all_of few) ≡ true → true ≡ is_text_among x (all_of (reverse (few ++ groups)))
here_in_few few groups x here = sym (among_both few groups x ∙ rw here refl)

pub nowhere : (few groups : List (List (List ℕ))) (x : List ℕ) → is_text_among x (all_of few) ≡ false → length groups ≡ 0 → false ≡ is_text_among x (all_of (reverse (few ++ groups)))
nowhere few [] x absent none = sym (among_both few [] x ∙ rw absent refl)
nowhere few (g ∷ groups) x absent none = absurd (omega arith)

pub in_others : (few groups : List (List (List ℕ))) (x : List ℕ) → is_text_among x (all_of few) ≡ false → is_text_among x (all_of (reverse groups)) ≡ is_text_among x (all_of (reverse (few ++ groups)))
in_others few groups x absent = sym (among_both few groups x ∙ rw absent refl)

-- the lists are gone through
pub this_has : (gs : List (List (List ℕ))) (i : ℕ) (g : List (List ℕ)) (x : List ℕ) → i < length gs → g ≡ get_or gs i g → is_text_among x g ≡ true → true ≡ is_text_among x (all_of gs)
this_has [] i g x within is here = absurd (omega arith)
this_has (h ∷ gs) zero g x within is here =
    let e : is_text_among x h ≡ true = ap (is_text_among x) (sym is) ∙ here in
    sym (among_append x h (all_of gs) ∙ rw e refl)
this_has (h ∷ gs) (suc i) g x within is here =
    let e : is_text_among x (all_of gs) ≡ true = sym (this_has gs i g x (omega (arith, within)) is here) in
    sym (among_append x h (all_of gs) ∙ rw e (or_true (is_text_among x h)))
  where
    or_true : (b : Bool) → (b || true) ≡ true
    or_true true = refl
    or_true false = refl

pub none_has : (gs : List (List (List ℕ))) (i : ℕ) (g : List (List ℕ)) (x : List ℕ) → i < length gs → g ≡ get_or gs i g → is_text_among x g ≡ false → is_text_among x (all_of (take i gs)) ≡ false → is_text_among x (all_of (take (i + 1) gs)) ≡ false
none_has gs i g x within is absent before =
    ap (λ (l : List (List (List ℕ))). is_text_among x (all_of l)) (take_more gs i g within ∙ ap (λ z. take i gs ++ z ∷ []) (sym is))
    ∙ (ap (is_text_among x) (all_append (take i gs) (g ∷ [])) ∙ (among_append x (all_of (take i gs)) (g ++ [])
    ∙ rw before (among_append x g [] ∙ rw absent refl)))
