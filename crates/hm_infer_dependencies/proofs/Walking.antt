-- Steps of a walk.
use Rattle.std.proofs.Common.{◌≡◌, ◌≢◌, ℕ, ◌<◌, zero, suc, Bool, true, false, List, [], ◌∷◌, ◌++◌, length, get_or, set, Option, Some, Contains, All, ◌⊎◌, ⊎_elim, inl, inr, refl, ap, sym, ◌∙◌, subst, arith}
use Rattle.std.specs.List.{slice_get}
use Rattle.std.proofs.lemmas.Bool.{both_ways}
use Rattle.std.proofs.lemmas.List.Elements.{Contains-append_left, Contains-push, Contains-push_cases, Contains-get_or}
use Rattle.hm_typing.specs.Names.{IsOneOf}
use Rattle.hm_names_keys.specs.Variables.{Variable}
use Rattle.hm_infer_dependencies.specs.Walks.{IsNodeWith, IsShown, Finds, Walks, Hides, Shows}
use Rattle.hm_names_keys.proofs.Pushed.{some_injective}

pub Contains-nil : {X : Type 0} (x : X) → Contains [] x → ⊥
Contains-nil x (k, below, is) = omega arith

pub equal_or : (k j : ℕ) → (k ≡ j) ⊎ (k ≢ j)
equal_or zero zero = inl refl
equal_or zero (suc j) = inr (λ e. omega (arith, e))
equal_or (suc k) zero = inr (λ e. omega (arith, e))
equal_or (suc k) (suc j) = ⊎_elim (λ e. inl (ap suc e)) (λ n. inr (λ e. n (omega (arith, e)))) (equal_or k j)

pub length-set : {X : Type 0} (xs : List X) (j : ℕ) (x : X) → length (set xs j x) ≡ length xs
length-set [] j x = refl
length-set (y ∷ ys) zero x = refl
length-set (y ∷ ys) (suc j) x = ap suc (length-set ys j x)

-- lists of variables

pub among-left : {X : Type 0} (x : X) (xs ys : List X) → IsOneOf x xs → IsOneOf x (xs ++ ys)
among-left x [] ys o = absurd o
among-left x (z ∷ zs) ys o = ⊎_elim inl (λ h. inr (among-left x zs ys h)) o

pub among-right : {X : Type 0} (x : X) (xs ys : List X) → IsOneOf x ys → IsOneOf x (xs ++ ys)
among-right x [] ys o = o
among-right x (z ∷ zs) ys o = inr (among-right x zs ys o)

pub among-cases : {X : Type 0} (x : X) (xs ys : List X) → IsOneOf x (xs ++ ys) → IsOneOf x xs ⊎ IsOneOf x ys
among-cases x [] ys o = inr o
among-cases x (z ∷ zs) ys o = ⊎_elim (λ e. inl (inl e)) (λ h. ⊎_elim (λ a. inl (inr a)) inr (among-cases x zs ys h)) o

-- nodes

pub with_weaker : {P Q : Variable → Type 0} (nodes : List (Option Variable)) (k : ℕ) → ((y : Variable) → P y → Q y) → IsNodeWith nodes P k → IsNodeWith nodes Q k
with_weaker nodes k f n = record { variable = n.variable; node = n.node; holds = f n.variable n.holds }

-- a node has one variable
pub one_variable : {P Q : Variable → Type 0} (nodes : List (Option Variable)) (k : ℕ) → IsNodeWith nodes P k → (n : IsNodeWith nodes Q k) → P n.variable
one_variable {P} nodes k m n = subst P (some_injective (some_injective (sym m.node ∙ n.node))) m.holds

pub shown_below : (shown : List Bool) (k : ℕ) → IsShown shown k → k < length shown
shown_below [] k s = absurd (both_ways false refl s)
shown_below (b ∷ bs) zero s = omega arith
shown_below (b ∷ bs) (suc k) s = let h = shown_below bs k s in omega arith

-- Finding

pub Finds-none : (nodes : List (Option Variable)) (shown : List Bool) (P : Variable → Type 0) (xs : List ℕ) → ((y : Variable) → ¬ (P y)) → Finds nodes shown P xs xs
Finds-none nodes shown P xs no_one k = (inl, λ s. ⊎_elim (λ h. h) (λ h. absurd (no_one h.1.variable h.1.holds)) s)

pub Finds-both : (nodes : List (Option Variable)) (shown : List Bool) (P Q : Variable → Type 0) (xs ys zs : List ℕ) → Finds nodes shown P xs ys → Finds nodes shown Q ys zs → Finds nodes shown (λ y. P y ⊎ Q y) xs zs
Finds-both nodes shown P Q xs ys zs f g k = (
  (λ c. ⊎_elim (λ b. ⊎_elim inl (λ h. inr (h.0, with_weaker nodes k (λ y. inl) h.1)) ((f k).0 b)) (λ h. inr (h.0, with_weaker nodes k (λ y. inr) h.1)) ((g k).0 c)),
  (λ s. ⊎_elim
      (λ a. (g k).1 (inl ((f k).1 (inl a))))
      (λ h. ⊎_elim
      (λ p. (g k).1 (inl ((f k).1 (inr (h.0, record { variable = h.1.variable; node = h.1.node; holds = p })))))
      (λ q. (g k).1 (inr (h.0, record { variable = h.1.variable; node = h.1.node; holds = q })))
      h.1.holds)
      s),
)

pub Finds-same : (nodes : List (Option Variable)) (shown : List Bool) (P Q : Variable → Type 0) (xs ys : List ℕ) → ((y : Variable) → P y → Q y) → ((y : Variable) → Q y → P y) → Finds nodes shown P xs ys → Finds nodes shown Q xs ys
Finds-same nodes shown P Q xs ys to back f k = (
  (λ c. ⊎_elim inl (λ h. inr (h.0, with_weaker nodes k to h.1)) ((f k).0 c)),
  (λ s. (f k).1 (⊎_elim inl (λ h. inr (h.0, with_weaker nodes k back h.1)) s)),
)

-- Hiding

pub Hides-none : (nodes : List (Option Variable)) (shown : List Bool) (noted : List ℕ) → Hides nodes [] shown shown noted noted
Hides-none nodes shown noted = record {
  size = refl;
  stays = λ k. ((λ s. (s, λ n. n.holds)), (λ h. h.0));
  noted = λ k. (inl, λ s. ⊎_elim (λ h. h) (λ h. absurd h.1.holds) s);
  kept = λ k s. inl s;
}

pub Hides-both : (nodes : List (Option Variable)) (xs ys : List Variable) (a b c : List Bool) (p q r : List ℕ) → Hides nodes xs a b p q → Hides nodes ys b c q r → Hides nodes (xs ++ ys) a c p r
Hides-both nodes xs ys a b c p q r f g = record {
  size = g.size ∙ f.size;
  stays = λ k. (
    (λ s. (let t = (g.stays k).0 s in let u = (f.stays k).0 t.0 in (u.0, λ n. ⊎_elim (λ o. u.1 (record { variable = n.variable; node = n.node; holds = o })) (λ o. t.1 (record { variable = n.variable; node = n.node; holds = o })) (among-cases n.variable xs ys n.holds)))),
    (λ h. (g.stays k).1 ((f.stays k).1 (h.0, λ n. h.1 (with_weaker nodes k (λ y o. among-left y xs ys o) n)), λ n. h.1 (with_weaker nodes k (λ y o. among-right y xs ys o) n))),
  );
  noted = λ k. (
    (λ t. ⊎_elim
        (λ u. ⊎_elim inl (λ h. inr (h.0, with_weaker nodes k (λ y o. among-left y xs ys o) h.1)) ((f.noted k).0 u))
        (λ h. inr (((f.stays k).0 h.0).0, with_weaker nodes k (λ y o. among-right y xs ys o) h.1))
        ((g.noted k).0 t)),
    (λ s. ⊎_elim
        (λ t. (g.noted k).1 (inl ((f.noted k).1 (inl t))))
        (λ h. ⊎_elim
        (λ o. (g.noted k).1 (inl ((f.noted k).1 (inr (h.0, record { variable = h.1.variable; node = h.1.node; holds = o })))))
        (λ o. ⊎_elim
        (λ still. (g.noted k).1 (inr (still, record { variable = h.1.variable; node = h.1.node; holds = o })))
        (λ gone. (g.noted k).1 (inl gone))
        (f.kept k h.0))
        (among-cases h.1.variable xs ys h.1.holds))
        s),
  );
  kept = λ k s. ⊎_elim (λ t. g.kept k t) (λ t. inr ((g.noted k).1 (inl t))) (f.kept k s);
}

pub shown-set : (shown : List Bool) (j k : ℕ) → IsShown (set shown j false) k → IsShown shown k × (k ≢ j)
shown-set [] j k s = (s, λ e. absurd (both_ways false refl s))
shown-set (b ∷ bs) zero zero s = absurd (both_ways false refl s)
shown-set (b ∷ bs) zero (suc k) s = (s, λ e. apart k e)
  where
    apart : (k : ℕ) → suc k ≡ zero → ⊥
    apart k e = omega (arith, e)
shown-set (b ∷ bs) (suc j) zero s = (s, λ e. omega (arith, e))
shown-set (b ∷ bs) (suc j) (suc k) s = let h = shown-set bs j k s in (h.0, λ e. h.1 (omega (arith, e)))

pub set-shown : (shown : List Bool) (j k : ℕ) → IsShown shown k → k ≢ j → IsShown (set shown j false) k
set-shown [] j k s n = s
set-shown (b ∷ bs) zero zero s n = absurd (n refl)
set-shown (b ∷ bs) zero (suc k) s n = s
set-shown (b ∷ bs) (suc j) zero s n = s
set-shown (b ∷ bs) (suc j) (suc k) s n = set-shown bs j k s (λ e. n (ap suc e))

-- one that is shown
pub Hides-shown : (nodes : List (Option Variable)) (x : Variable) (j : ℕ) (shown new : List Bool) (noted more : List ℕ) → slice_get nodes j ≡ Some (Some x) → ((k : ℕ) → slice_get nodes k ≡ Some (Some x) → k ≡ j) → IsShown shown j → new ≡ set shown j false → more ≡ noted ++ j ∷ [] → Hides nodes (x ∷ []) shown new noted more
Hides-shown nodes x j shown new noted more here at s e f = record {
  size = ap length e ∙ length-set shown j false;
  stays = λ k. (
    (λ t. let h = shown-set shown j k (subst (λ z. IsShown z k) e t) in (h.0, λ n. h.1 (place k n))),
    (λ h. subst (λ z. IsShown z k) (sym e) (set-shown shown j k h.0 (λ q. h.1 (record { variable = x; node = ap (slice_get nodes) q ∙ here; holds = inl refl })))),
  );
  noted = λ k. (
    (λ t. ⊎_elim inl (λ q. inr (subst (IsShown shown) q s, record { variable = x; node = ap (slice_get nodes) (sym q) ∙ here; holds = inl refl })) (Contains-push_cases noted j k (subst (λ z. Contains z k) f t))),
    (λ t. subst (λ z. Contains z k) (sym f) (⊎_elim (λ c. Contains-append_left noted (j ∷ []) k c) (λ h. subst (Contains (noted ++ j ∷ [])) (sym (place k h.1)) (Contains-push noted j)) t)),
  );
  kept = λ k t. ⊎_elim (λ q. inr (subst (λ z. Contains z k) (sym f) (subst (Contains (noted ++ j ∷ [])) (sym q) (Contains-push noted j)))) (λ n. inl (subst (λ z. IsShown z k) (sym e) (set-shown shown j k t n))) (equal_or k j);
}
  where
    place : (k : ℕ) → IsNodeWith nodes (λ y. IsOneOf y (x ∷ [])) k → k ≡ j
    place k n = at k (n.node ∙ ap (λ z. Some (Some z)) (⊎_elim (λ e. e) (λ o. absurd o) n.holds))

-- what is left to hide
abbrev pub StillHides : List (Option Variable) → List Variable → List Variable → List Bool → List Bool → List ℕ → List ℕ → Type 0
StillHides nodes left all shown now noted more = (length now ≡ length shown) × ((c : List Bool) (r : List ℕ) → Hides nodes left now c more r → Hides nodes all shown c noted r)

pub StillHides-step : (nodes : List (Option Variable)) (left xs rest all : List Variable) (a b c : List Bool) (p q r : List ℕ) → left ≡ xs ++ rest → Hides nodes xs b c q r → StillHides nodes left all a b p q → StillHides nodes rest all a c p r
StillHides-step nodes left xs rest all a b c p q r e h s = (h.size ∙ s.0, λ d t g. s.1 d t (subst (λ z. Hides nodes z b d q t) (sym e) (Hides-both nodes xs rest b c d q r t h g)))

pub StillHides-end : (nodes : List (Option Variable)) (left all : List Variable) (a b : List Bool) (p q : List ℕ) → left ≡ [] → StillHides nodes left all a b p q → Hides nodes all a b p q
StillHides-end nodes left all a b p q e s = s.1 b q (subst (λ z. Hides nodes z b b q q) (sym e) (Hides-none nodes b q))

-- Showing again

pub Shows-none : (shown : List Bool) → Shows [] shown shown
Shows-none shown = record { size = refl; shown = λ k. (inl, λ s. ⊎_elim (λ h. h) (λ c. absurd (Contains-nil k c)) s) }

set-true : (shown : List Bool) (j k : ℕ) → IsShown (set shown j true) k → IsShown shown k ⊎ (j ≡ k)
set-true [] j k s = inl s
set-true (b ∷ bs) zero zero s = inr refl
set-true (b ∷ bs) zero (suc k) s = inl s
set-true (b ∷ bs) (suc j) zero s = inl s
set-true (b ∷ bs) (suc j) (suc k) s = ⊎_elim inl (λ e. inr (ap suc e)) (set-true bs j k s)

true-set : (shown : List Bool) (j k : ℕ) → IsShown shown k → IsShown (set shown j true) k
true-set [] j k s = s
true-set (b ∷ bs) zero zero s = refl
true-set (b ∷ bs) zero (suc k) s = s
true-set (b ∷ bs) (suc j) zero s = s
true-set (b ∷ bs) (suc j) (suc k) s = true-set bs j k s

true-here : (shown : List Bool) (j : ℕ) → j < length shown → IsShown (set shown j true) j
true-here [] j l = absurd (omega (arith, l))
true-here (b ∷ bs) zero l = refl
true-here (b ∷ bs) (suc j) l = true-here bs j (omega (arith, l))

pub Shows-more : (noted more : List ℕ) (j : ℕ) (shown now new : List Bool) → j < length shown → more ≡ noted ++ j ∷ [] → new ≡ set now j true → Shows noted shown now → Shows more shown new
Shows-more noted more j shown now new l e f s = record {
  size = ap length f ∙ (length-set now j true ∙ s.size);
  shown = λ k. (
    (λ t. ⊎_elim
        (λ u. ⊎_elim inl (λ c. inr (subst (λ z. Contains z k) (sym e) (Contains-append_left noted (j ∷ []) k c))) ((s.shown k).0 u))
        (λ q. inr (subst (λ z. Contains z k) (sym e) (subst (Contains (noted ++ j ∷ [])) q (Contains-push noted j))))
        (set-true now j k (subst (λ z. IsShown z k) f t))),
    (λ t. subst (λ z. IsShown z k) (sym f) (⊎_elim
        (λ u. true-set now j k ((s.shown k).1 (inl u)))
        (λ c. ⊎_elim
        (λ d. true-set now j k ((s.shown k).1 (inr d)))
        (λ q. subst (IsShown (set now j true)) q (true-here now j (let h = s.size in omega arith)))
        (Contains-push_cases noted j k (subst (λ z. Contains z k) e c)))
        t)),
  );
}

pub Shows-all : (noted all : List ℕ) (shown now : List Bool) → noted ≡ all → Shows noted shown now → Shows all shown now
Shows-all noted all shown now e s = subst (λ z. Shows z shown now) e s

same_marks : (xs ys : List Bool) → length xs ≡ length ys → ((k : ℕ) → IsShown xs k → IsShown ys k) → ((k : ℕ) → IsShown ys k → IsShown xs k) → xs ≡ ys
same_marks [] [] e f g = refl
same_marks [] (y ∷ ys) e f g = absurd (omega (arith, e))
same_marks (x ∷ xs) [] e f g = absurd (omega (arith, e))
same_marks (x ∷ xs) (y ∷ ys) e f g = ap (λ z. z ∷ xs) (same_bits x y (f 0) (g 0)) ∙ ap (λ zs. y ∷ zs) (same_marks xs ys (omega (arith, e)) (λ k. f (suc k)) (λ k. g (suc k)))
  where
    same_bits : (a b : Bool) → (a ≡ true → b ≡ true) → (b ≡ true → a ≡ true) → a ≡ b
    same_bits true b p q = sym (p refl)
    same_bits false true p q = absurd (both_ways false refl (q refl))
    same_bits false false p q = refl

-- Walks

pub Walks-none : (nodes : List (Option Variable)) (P : Variable → Type 0) (shown : List Bool) (xs : List ℕ) → ((y : Variable) → ¬ (P y)) → Walks nodes P shown shown xs xs
Walks-none nodes P shown xs n = record { same = refl; finds = Finds-none nodes shown P xs n }

pub Walks-both : (nodes : List (Option Variable)) (P Q : Variable → Type 0) (a b c : List Bool) (x y z : List ℕ) → Walks nodes P a b x y → Walks nodes Q b c y z → Walks nodes (λ v. P v ⊎ Q v) a c x z
Walks-both nodes P Q a b c x y z v w = record { same = w.same ∙ v.same; finds = Finds-both nodes a P Q x y z v.finds (subst (λ s. Finds nodes s Q y z) v.same w.finds) }

pub Walks-same : (nodes : List (Option Variable)) (P Q : Variable → Type 0) (a b : List Bool) (x y : List ℕ) → ((v : Variable) → P v → Q v) → ((v : Variable) → Q v → P v) → Walks nodes P a b x y → Walks nodes Q a b x y
Walks-same nodes P Q a b x y to back w = record { same = w.same; finds = Finds-same nodes a P Q x y to back w.finds }

-- what is noted lies among the nodes
pub noted_below : (nodes : List (Option Variable)) (xs : List Variable) (a b c : List Bool) (p q all : List ℕ) → p ≡ [] → all ≡ q → Hides nodes xs a b p q → c ≡ b → All (λ k. k < length c) all
noted_below nodes xs a b c p q all e f h g k d l =
    let o : Contains q (get_or q k d) = Contains-get_or q k d (let n = ap length f in omega arith) in
    let m : IsShown a (get_or q k d) = ⊎_elim (λ t. absurd (Contains-nil _ (subst (λ z. Contains z (get_or q k d)) e t))) (λ t. t.0) ((h.noted (get_or q k d)).0 o) in
    let n : get_or q k d < length a = shown_below a (get_or q k d) m in
    let r : length c ≡ length a = ap length g ∙ h.size in
    let s : get_or all k d ≡ get_or q k d = ap (λ z. get_or z k d) f in
    rw s (omega arith)

-- a walk in an inner scope
pub Walks-scope : (nodes : List (Option Variable)) (xs : List Variable) (P : Variable → Type 0) (a b c d : List Bool) (p q all x y : List ℕ) → p ≡ [] → all ≡ q → Hides nodes xs a b p q → Walks nodes P b c x y → Shows all c d → Walks nodes (λ v. ¬ (IsOneOf v xs) × P v) a d x y
Walks-scope nodes xs P a b c d p q all x y e f h w t = record {
  same = same_marks d a (t.size ∙ (ap length w.same ∙ h.size))
      (λ k s. ⊎_elim (λ u. ((h.stays k).0 (subst (λ z. IsShown z k) w.same u)).0) (λ u. ⊎_elim (λ o. absurd (Contains-nil k (subst (λ z. Contains z k) e o))) (λ o. o.0) ((h.noted k).0 (subst (λ z. Contains z k) f u))) ((t.shown k).0 s))
      (λ k s. (t.shown k).1 (⊎_elim (λ u. inl (subst (λ z. IsShown z k) (sym w.same) u)) (λ u. inr (subst (λ z. Contains z k) (sym f) u)) (h.kept k s)));
  finds = λ k. (
    (λ s. ⊎_elim inl (λ n. let u = (h.stays k).0 n.0 in inr (u.0, record { variable = n.1.variable; node = n.1.node; holds = ((λ o. u.1 (record { variable = n.1.variable; node = n.1.node; holds = o })), n.1.holds) })) ((w.finds k).0 s)),
    (λ s. (w.finds k).1 (⊎_elim inl (λ n. inr ((h.stays k).1 (n.0, λ m. n.1.holds.0 (one_variable nodes k m n.1)), record { variable = n.1.variable; node = n.1.node; holds = n.1.holds.1 })) s)),
  );
}

-- what is left to walk over
abbrev pub StillWalks : List (Option Variable) → (Variable → Type 0) → (Variable → Type 0) → List Bool → List Bool → List ℕ → List ℕ → Type 0
StillWalks nodes Left All_ shown now x y = (now ≡ shown) × ((c : List Bool) (z : List ℕ) → Walks nodes Left now c y z → Walks nodes All_ shown c x z)

pub StillWalks-step : (nodes : List (Option Variable)) (Left P Rest All_ : Variable → Type 0) (a b c : List Bool) (x y z : List ℕ) → ((v : Variable) → P v ⊎ Rest v → Left v) → ((v : Variable) → Left v → P v ⊎ Rest v) → Walks nodes P b c y z → StillWalks nodes Left All_ a b x y → StillWalks nodes Rest All_ a c x z
StillWalks-step nodes Left P Rest All_ a b c x y z to back w s =
    (w.same ∙ s.0, λ d t v. s.1 d t (Walks-same nodes (λ u. P u ⊎ Rest u) Left b d y t to back (Walks-both nodes P Rest b c d y z t w v)))

pub StillWalks-end : (nodes : List (Option Variable)) (Left All_ : Variable → Type 0) (a b : List Bool) (x y : List ℕ) → ((v : Variable) → ¬ (Left v)) → StillWalks nodes Left All_ a b x y → Walks nodes All_ a b x y
StillWalks-end nodes Left All_ a b x y n s = s.1 b y (Walks-none nodes Left b y n)
