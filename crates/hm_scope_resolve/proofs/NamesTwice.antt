-- Names that stand twice, name by name.
use Rattle.std.proofs.Common.{arith, ◌≡◌, ℕ, ◌<◌, ◌+◌, Bool, true, false, cond, ◌||◌, inl, inr, Bor, add-one, zero, suc, ◌≤◌, take, append-nil, List, [], ◌∷◌, ◌++◌, refl, sym, ap, ◌∙◌, map, bytes_eq, not, append_assoc, drop, length, get_or, drop-cons}
use Rattle.std.proofs.lemmas.Bool.{cases_Bool}
use Rattle.std.proofs.lemmas.List.{drop_all, take_more, map-append, length-map}
use Rattle.std.proofs.lemmas.Slice.Eq.{bytes_eq-Decides}
use Rattle.hm_syntax.specs.Names.{Identifier}
use Rattle.hm_names.specs.Faults.Lists.{firsts}
use Rattle.hm_names.specs.Found.{repeated, outside}
use Rattle.hm_names.specs.Texts.{is_text_among}
use Rattle.hm_names.specs.Variables.{texts}
use Rattle.hm_scope_resolve.proofs.DepthTables.{flip}
use Rattle.hm_scope_tables.proofs.TextSets.{more}

-- sets with the same texts
abbrev pub AreLike : List (List ℕ) → List (List ℕ) → Type 0
AreLike a b = (x : List ℕ) → is_text_among x a ≡ is_text_among x b

like_more : (y : List ℕ) (a b : List (List ℕ)) → AreLike a b → AreLike (y ∷ a) (y ∷ b)
like_more y a b h x = ap (λ t. bytes_eq x y || t) (h x)

pub repeated_like : (ns : List Identifier) (a b : List (List ℕ)) → AreLike a b → repeated a ns ≡ repeated b ns
unfolding repeated
repeated_like [] a b h = refl
repeated_like (n ∷ ns) a b h = rw (h n.text) (rw (repeated_like ns (n.text ∷ a) (n.text ∷ b) (like_more n.text a b h)) (refl))

pub firsts_like : (ns : List Identifier) (a b : List (List ℕ)) → AreLike a b → firsts a ns ≡ firsts b ns
firsts_like [] a b h = refl
firsts_like (n ∷ ns) a b h = rw (h n.text) (rw (firsts_like ns a b h) (rw (firsts_like ns (n.text ∷ a) (n.text ∷ b) (like_more n.text a b h)) (refl)))

pub outside_like : (ns : List Identifier) (a b : List (List ℕ)) → AreLike a b → outside a ns ≡ outside b ns
unfolding outside
outside_like [] a b h = refl
outside_like (n ∷ ns) a b h = rw (h n.text) (rw (outside_like ns a b h) (refl))

-- a text that is there adds nothing
known_again : (y : List ℕ) (a : List (List ℕ)) → is_text_among y a ≡ true → AreLike (y ∷ a) a
known_again y a there x = elim (cases_Bool (bytes_eq x y)) [
  | inl same ↦ let e : x ≡ y = (bytes_eq-Decides x y).0 same in rw same (sym (rw e (there)))
  | inr other ↦ rw other (refl)
]

added_last : (y : List ℕ) (a : List (List ℕ)) → AreLike (y ∷ a) (a ++ y ∷ [])
added_last y a x = sym (more x y a)

-- one step over names, with the set before and after it
pub repeated_again : (n : Identifier) (ns : List Identifier) (a : List (List ℕ)) → is_text_among n.text a ≡ true → repeated a (n ∷ ns) ≡ n ∷ repeated a ns
unfolding repeated
repeated_again n ns a there = rw there (ap (λ l. n ∷ l) (repeated_like ns (n.text ∷ a) a (known_again n.text a there)))

pub repeated_new : (n : Identifier) (ns : List Identifier) (a : List (List ℕ)) → is_text_among n.text a ≡ false → repeated a (n ∷ ns) ≡ repeated (a ++ n.text ∷ []) ns
unfolding repeated
repeated_new n ns a absent = rw absent (repeated_like ns (n.text ∷ a) (a ++ n.text ∷ []) (added_last n.text a))

pub firsts_again : (n : Identifier) (ns : List Identifier) (a : List (List ℕ)) → is_text_among n.text a ≡ true → firsts a (n ∷ ns) ≡ firsts a ns
firsts_again n ns a there = rw there (refl)

pub firsts_new : (n : Identifier) (ns : List Identifier) (a : List (List ℕ)) → is_text_among n.text a ≡ false → firsts a (n ∷ ns) ≡ n ∷ firsts (a ++ n.text ∷ []) ns
firsts_new n ns a absent = rw absent (ap (λ l. n ∷ l) (firsts_like ns (n.text ∷ a) (a ++ n.text ∷ []) (added_last n.text a)))

pub outside_known : (n : Identifier) (ns : List Identifier) (a : List (List ℕ)) → is_text_among n.text a ≡ true → outside a (n ∷ ns) ≡ outside a ns
unfolding outside
outside_known n ns a there = rw there (refl)

pub outside_unknown : (n : Identifier) (ns : List Identifier) (a : List (List ℕ)) → is_text_among n.text a ≡ false → outside a (n ∷ ns) ≡ n ∷ outside a ns
unfolding outside
outside_unknown n ns a absent = rw absent (refl)

-- Steps of loops over lent names

next_row : {X : Type 0} (row : List X) (i : ℕ) (d : X) → i < length row → d ≡ get_or row i d → drop i row ≡ d ∷ drop (i + 1) row
next_row row i d within is = rw (add-one i) (drop-cons row i d within ∙ ap (λ x. x ∷ drop (suc i) row) (sym is))

names_at : (row : List (Bor Identifier)) (i : ℕ) (n : Bor Identifier) → i < length row → n ≡ get_or row i n → map (λ x. x.now) (drop i row) ≡ n.now ∷ map (λ x. x.now) (drop (i + 1) row)
names_at row i n within is = ap (λ l. map (λ x. x.now) l) (next_row row i n within is)

pub push_step : {Y : Type 0} (old new final rest whole : List Y) (y : Y) → whole ≡ y ∷ rest → new ≡ old ++ y ∷ [] → old ++ whole ≡ final → new ++ rest ≡ final
push_step old new final rest whole y split pushed before = rw pushed (append_assoc old (y ∷ []) rest ∙ ap (λ l. old ++ l) (sym split) ∙ before)

pub keep_step : {Y : Type 0} (old new final rest whole : List Y) → whole ≡ rest → new ≡ old → old ++ whole ≡ final → new ++ rest ≡ final
keep_step old new final rest whole same kept before = rw kept (ap (λ l. old ++ l) (sym same) ∙ before)

-- what a set is after one more text
abbrev pub IsWith : List (List ℕ) → List ℕ → List (List ℕ) → Type 0
IsWith a x b = b ≡ cond (is_text_among x a) a (a ++ x ∷ [])

pub repeated_there : {Y : Type 0} (f : Identifier → Y) (row : List (Bor Identifier)) (i : ℕ) (n : Bor Identifier) (a b : List (List ℕ)) → i < length row → n ≡ get_or row i n
    → is_text_among n.now.text a ≡ true → IsWith a n.now.text b → map f (repeated a (map (λ x. x.now) (drop i row))) ≡ f n.now ∷ map f (repeated b (map (λ x. x.now) (drop (i + 1) row)))
repeated_there f row i n a b within is there with_it =
    let same : b ≡ a = with_it ∙ ap (λ t. cond t a (a ++ n.now.text ∷ [])) there in
    rw same (ap (λ l. map f (repeated a l)) (names_at row i n within is) ∙ ap (λ l. map f l) (repeated_again n.now (map (λ x. x.now) (drop (i + 1) row)) a there))

pub repeated_absent : {Y : Type 0} (f : Identifier → Y) (row : List (Bor Identifier)) (i : ℕ) (n : Bor Identifier) (a b : List (List ℕ)) → i < length row → n ≡ get_or row i n
    → is_text_among n.now.text a ≡ false → IsWith a n.now.text b → map f (repeated a (map (λ x. x.now) (drop i row))) ≡ map f (repeated b (map (λ x. x.now) (drop (i + 1) row)))
repeated_absent f row i n a b within is absent with_it =
    let more : b ≡ a ++ n.now.text ∷ [] = with_it ∙ ap (λ t. cond t a (a ++ n.now.text ∷ [])) absent in
    rw more (ap (λ l. map f (repeated a l)) (names_at row i n within is) ∙ ap (λ l. map f l) (repeated_new n.now (map (λ x. x.now) (drop (i + 1) row)) a absent))

pub firsts_there : (row : List (Bor Identifier)) (i : ℕ) (n : Bor Identifier) (a b : List (List ℕ)) → i < length row → n ≡ get_or row i n
    → is_text_among n.now.text a ≡ true → IsWith a n.now.text b → firsts a (map (λ x. x.now) (drop i row)) ≡ firsts b (map (λ x. x.now) (drop (i + 1) row))
firsts_there row i n a b within is there with_it =
    let same : b ≡ a = with_it ∙ ap (λ t. cond t a (a ++ n.now.text ∷ [])) there in
    rw same (ap (λ l. firsts a l) (names_at row i n within is) ∙ firsts_again n.now (map (λ x. x.now) (drop (i + 1) row)) a there)

pub firsts_absent : (row : List (Bor Identifier)) (i : ℕ) (n : Bor Identifier) (a b : List (List ℕ)) → i < length row → n ≡ get_or row i n
    → is_text_among n.now.text a ≡ false → IsWith a n.now.text b → firsts a (map (λ x. x.now) (drop i row)) ≡ n.now ∷ firsts b (map (λ x. x.now) (drop (i + 1) row))
firsts_absent row i n a b within is absent with_it =
    let more : b ≡ a ++ n.now.text ∷ [] = with_it ∙ ap (λ t. cond t a (a ++ n.now.text ∷ [])) absent in
    rw more (ap (λ l. firsts a l) (names_at row i n within is) ∙ firsts_new n.now (map (λ x. x.now) (drop (i + 1) row)) a absent)

pub outside_there : {Y : Type 0} (f : Identifier → Y) (row : List (Bor Identifier)) (i : ℕ) (n : Bor Identifier) (a : List (List ℕ)) → i < length row → n ≡ get_or row i n
    → is_text_among n.now.text a ≡ true → map f (outside a (map (λ x. x.now) (drop i row))) ≡ map f (outside a (map (λ x. x.now) (drop (i + 1) row)))
outside_there f row i n a within is there = ap (λ l. map f (outside a l)) (names_at row i n within is) ∙ ap (λ l. map f l) (outside_known n.now (map (λ x. x.now) (drop (i + 1) row)) a there)

pub outside_absent : {Y : Type 0} (f : Identifier → Y) (row : List (Bor Identifier)) (i : ℕ) (n : Bor Identifier) (a : List (List ℕ)) → i < length row → n ≡ get_or row i n
    → is_text_among n.now.text a ≡ false → map f (outside a (map (λ x. x.now) (drop i row))) ≡ f n.now ∷ map f (outside a (map (λ x. x.now) (drop (i + 1) row)))
outside_absent f row i n a within is absent = ap (λ l. map f (outside a l)) (names_at row i n within is) ∙ ap (λ l. map f l) (outside_unknown n.now (map (λ x. x.now) (drop (i + 1) row)) a absent)

-- steps over names of which each is compared with those before it
before_one : (row : List (Bor Identifier)) (i : ℕ) (n : Bor Identifier) → i < length row → n ≡ get_or row i n
    → AreLike (n.now.text ∷ texts (map (λ x. x.now) (take i row))) (texts (map (λ x. x.now) (take (i + 1) row)))
before_one row i n within is x =
    let names : map (λ x. x.now) (take (i + 1) row) ≡ map (λ x. x.now) (take i row) ++ n.now ∷ [] =
    ap (λ (l : List (Bor Identifier)). map (λ x. x.now) l) (take_more row i n within ∙ ap (λ z. take i row ++ z ∷ []) (sym is)) ∙ map-append (λ (x : Bor Identifier). x.now) (take i row) (n ∷ []) in
    let split : texts (map (λ x. x.now) (take (i + 1) row)) ≡ texts (map (λ x. x.now) (take i row)) ++ n.now.text ∷ [] =
    ap texts names ∙ map-append (λ (k : Identifier). k.text) (map (λ x. x.now) (take i row)) (n.now ∷ []) in
    added_last n.now.text (texts (map (λ x. x.now) (take i row))) x ∙ ap (is_text_among x) (sym split)

pub few_repeated_there : {Y : Type 0} (f : Identifier → Y) (row : List (Bor Identifier)) (i : ℕ) (n : Bor Identifier) → i < length row → n ≡ get_or row i n
    → is_text_among n.now.text (texts (map (λ x. x.now) (take i row))) ≡ true
    → map f (repeated (texts (map (λ x. x.now) (take i row))) (map (λ x. x.now) (drop i row))) ≡ f n.now ∷ map f (repeated (texts (map (λ x. x.now) (take (i + 1) row))) (map (λ x. x.now) (drop (i + 1) row)))
unfolding repeated
few_repeated_there f row i n within is there =
    let a = texts (map (λ x. x.now) (take i row)) in
    let rest = map (λ x. x.now) (drop (i + 1) row) in
    ap (λ l. map f (repeated a l)) (names_at row i n within is) ∙ rw there (ap (λ l. f n.now ∷ map f l) (repeated_like rest (n.now.text ∷ a) (texts (map (λ x. x.now) (take (i + 1) row))) (before_one row i n within is)))

pub few_repeated_absent : {Y : Type 0} (f : Identifier → Y) (row : List (Bor Identifier)) (i : ℕ) (n : Bor Identifier) → i < length row → n ≡ get_or row i n
    → is_text_among n.now.text (texts (map (λ x. x.now) (take i row))) ≡ false
    → map f (repeated (texts (map (λ x. x.now) (take i row))) (map (λ x. x.now) (drop i row))) ≡ map f (repeated (texts (map (λ x. x.now) (take (i + 1) row))) (map (λ x. x.now) (drop (i + 1) row)))
unfolding repeated
few_repeated_absent f row i n within is absent =
    let a = texts (map (λ x. x.now) (take i row)) in
    let rest = map (λ x. x.now) (drop (i + 1) row) in
    ap (λ l. map f (repeated a l)) (names_at row i n within is) ∙ rw absent (ap (map f) (repeated_like rest (n.now.text ∷ a) (texts (map (λ x. x.now) (take (i + 1) row))) (before_one row i n within is)))

pub few_firsts_there : (row : List (Bor Identifier)) (i : ℕ) (n : Bor Identifier) → i < length row → n ≡ get_or row i n → is_text_among n.now.text (texts (map (λ x. x.now) (take i row))) ≡ true
    → firsts (texts (map (λ x. x.now) (take i row))) (map (λ x. x.now) (drop i row)) ≡ firsts (texts (map (λ x. x.now) (take (i + 1) row))) (map (λ x. x.now) (drop (i + 1) row))
few_firsts_there row i n within is there =
    let a = texts (map (λ x. x.now) (take i row)) in
    let rest = map (λ x. x.now) (drop (i + 1) row) in
    ap (firsts a) (names_at row i n within is) ∙
    rw there (firsts_like rest a (texts (map (λ x. x.now) (take (i + 1) row))) (λ x. sym (known_again n.now.text a there x) ∙ before_one row i n within is x))

pub few_firsts_absent : (row : List (Bor Identifier)) (i : ℕ) (n : Bor Identifier) → i < length row → n ≡ get_or row i n → is_text_among n.now.text (texts (map (λ x. x.now) (take i row))) ≡ false
    → firsts (texts (map (λ x. x.now) (take i row))) (map (λ x. x.now) (drop i row)) ≡ n.now ∷ firsts (texts (map (λ x. x.now) (take (i + 1) row))) (map (λ x. x.now) (drop (i + 1) row))
few_firsts_absent row i n within is absent =
    let a = texts (map (λ x. x.now) (take i row)) in
    let rest = map (λ x. x.now) (drop (i + 1) row) in
    ap (firsts a) (names_at row i n within is) ∙ rw absent (ap (λ l. n.now ∷ l) (firsts_like rest (n.now.text ∷ a) (texts (map (λ x. x.now) (take (i + 1) row))) (before_one row i n within is)))

-- a text among those of names that are gone through
pub is_this : (row : List Identifier) (i : ℕ) (n : Identifier) (x : List ℕ) → i < length row → n ≡ get_or row i n → bytes_eq n.text x ≡ true → true ≡ is_text_among x (texts row)
is_this [] i n x within is same = absurd (omega arith)
is_this (m ∷ row) zero n x within is same =
    let e : bytes_eq x m.text ≡ true = (bytes_eq-Decides x m.text).1 (sym ((bytes_eq-Decides n.text x).0 same) ∙ ap (λ (k : Identifier). k.text) is) in
    rw e refl
is_this (m ∷ row) (suc i) n x within is same = rw (← is_this row i n x (omega (arith, within)) is same) (sym (or_true (bytes_eq x m.text)))
  where
    or_true : (b : Bool) → (b || true) ≡ true
    or_true true = refl
    or_true false = refl

pub none_yet : (row : List Identifier) (i : ℕ) (n : Identifier) (x : List ℕ) → i < length row → n ≡ get_or row i n → bytes_eq n.text x ≡ false → is_text_among x (texts (take i row)) ≡ false → is_text_among x (texts (take (i + 1) row)) ≡ false
none_yet row i n x within is other before =
    let names : take (i + 1) row ≡ take i row ++ n ∷ [] = take_more row i n within ∙ ap (λ z. take i row ++ z ∷ []) (sym is) in
    let split : texts (take (i + 1) row) ≡ texts (take i row) ++ n.text ∷ [] = ap texts names ∙ map-append (λ (k : Identifier). k.text) (take i row) (n ∷ []) in
    ap (is_text_among x) split ∙ (more x n.text (texts (take i row)) ∙ rw (flip x n.text ∙ other) before)

-- the same for names that are borrowed
pub at_row : (row : List (Bor Identifier)) (i : ℕ) (n : Bor Identifier) → i < length row → n ≡ get_or row i n → n.now ≡ get_or (map (λ x. x.now) row) i n.now
at_row [] i n within is = absurd (omega arith)
at_row (m ∷ row) zero n within is = ap (λ (x : Bor Identifier). x.now) is
at_row (m ∷ row) (suc i) n within is = at_row row i n (omega (arith, within)) is

pub in_row : (row : List (Bor Identifier)) (i : ℕ) → i < length row → i < length (map (λ (x : Bor Identifier). x.now) row)
in_row row i within = rw (length-map row (λ (x : Bor Identifier). x.now)) within

-- a set of the texts of names
pub texts_more : (row : List (Bor Identifier)) (i : ℕ) (n : Bor Identifier) (a b : List (List ℕ)) (x : List ℕ) → i < length row → n ≡ get_or row i n → IsWith a n.now.text b
    → (is_text_among x b || is_text_among x (texts (map (λ y. y.now) (drop (i + 1) row)))) ≡ (is_text_among x a || is_text_among x (texts (map (λ y. y.now) (drop i row))))
texts_more row i n a b x within is with_it =
    let rest : List (List ℕ) = texts (map (λ y. y.now) (drop (i + 1) row)) in
    let whole : (is_text_among x a || is_text_among x (texts (map (λ y. y.now) (drop i row)))) ≡ (is_text_among x a || (bytes_eq x n.now.text || is_text_among x rest)) =
    ap (λ l. is_text_among x a || is_text_among x (texts l)) (names_at row i n within is) in
    elim (cases_Bool (is_text_among n.now.text a)) [
      | inl there ↦
          let same : b ≡ a = with_it ∙ ap (λ t. cond t a (a ++ n.now.text ∷ [])) there in
          rw same (sym (absorb (is_text_among x a) (bytes_eq x n.now.text) (is_text_among x rest) (known_again n.now.text a there x)) ∙ sym whole)
      | inr absent ↦
          let added : b ≡ a ++ n.now.text ∷ [] = with_it ∙ ap (λ t. cond t a (a ++ n.now.text ∷ [])) absent in
          rw added (ap (λ t. t || is_text_among x rest) (more x n.now.text a) ∙ turn (bytes_eq x n.now.text) (is_text_among x a) (is_text_among x rest) ∙ sym whole)
    ]
  where
    absorb : (p q r : Bool) → (q || p) ≡ p → (p || (q || r)) ≡ (p || r)
    absorb true q r e = refl
    absorb false true r e = let f : true ≡ false = e in cc
    absorb false false r e = refl

    turn : (p q r : Bool) → ((p || q) || r) ≡ (q || (p || r))
    turn true true r = refl
    turn true false r = refl
    turn false true r = refl
    turn false false r = refl

-- the answers of a set
pub told_there : (r b : Bool) → r ≡ not b → r ≡ false → b ≡ true
told_there r true e f = refl
told_there r false e f = let g : true ≡ false = sym e ∙ f in cc

pub told_absent : (r b : Bool) → r ≡ not b → r ≡ true → b ≡ false
told_absent r false e f = refl
told_absent r true e f = let g : false ≡ true = sym e ∙ f in cc

-- at the end of a loop
pub all_names : {Y : Type 0} (g : List Identifier → List Y) (row : List (Bor Identifier)) (names : List Identifier) (i : ℕ) (rest : List Y) (old out : List Y)
    → map (λ x. x.now) row ≡ names → rest ≡ [] → out ++ rest ≡ old ++ g (map (λ x. x.now) row) → out ≡ old ++ g names
all_names g row names i rest old out are over before = sym (append-nil out) ∙ ap (λ l. out ++ l) (sym over) ∙ before ∙ ap (λ l. old ++ g l) are

pub no_repeated : {Y : Type 0} (f : Identifier → Y) (row : List (Bor Identifier)) (i : ℕ) (a : List (List ℕ)) → length row ≤ i → map f (repeated a (map (λ x. x.now) (drop i row))) ≡ []
unfolding repeated
no_repeated f row i a past = rw (drop_all i row past) refl

pub no_outside : {Y : Type 0} (f : Identifier → Y) (row : List (Bor Identifier)) (i : ℕ) (a : List (List ℕ)) → length row ≤ i → map f (outside a (map (λ x. x.now) (drop i row))) ≡ []
unfolding outside
no_outside f row i a past = rw (drop_all i row past) refl

-- rows with too few names for a fault

none_repeated : {Y : Type 0} (f : Identifier → Y) (row : List (Bor Identifier)) → length row < 2 → map f (repeated [] (map (λ x. x.now) row)) ≡ []
unfolding repeated
none_repeated f [] few = refl
none_repeated f (n ∷ []) few = refl
none_repeated f (n ∷ (m ∷ row)) few = absurd (omega arith)

pub few_repeated : {Y : Type 0} (f : Identifier → Y) (row : List (Bor Identifier)) (names : List Identifier) (old : List Y) → map (λ x. x.now) row ≡ names → length row < 2
    → old ≡ old ++ map f (repeated [] names)
few_repeated f row names old are few = sym (append-nil old) ∙ ap (λ l. old ++ l) (sym (ap (λ l. map f (repeated [] l)) (sym are) ∙ none_repeated f row few))

none_outside : {Y : Type 0} (f : Identifier → Y) (a : List (List ℕ)) (row : List (Bor Identifier)) → length row ≡ 0 → map f (outside a (map (λ x. x.now) row)) ≡ []
unfolding outside
none_outside f a [] none = refl
none_outside f a (n ∷ row) none = absurd (omega arith)

pub empty_outside : {Y : Type 0} (f : Identifier → Y) (a : List (List ℕ)) (row : List (Bor Identifier)) (names : List Identifier) (old : List Y) → map (λ x. x.now) row ≡ names → length row ≡ 0
    → old ≡ old ++ map f (outside a names)
empty_outside f a row names old are none = sym (append-nil old) ∙ ap (λ l. old ++ l) (sym (ap (λ l. map f (outside a l)) (sym are) ∙ none_outside f a row none))
