-- The tables of levels, and their changes.
use Rattle.std.proofs.Common.{◌≡◌, ℕ, zero, suc, ◌+◌, ◌≤◌, ◌<◌, Bool, true, false, ◌||◌, ◌==◌, if◌then◌else◌, List, [], ◌∷◌, ◌++◌, length, set, take, get_or, refl, sym, ap, ◌∙◌, ◌⊎◌, inl, inr, ◌↔◌, subst, arith}
use Rattle.std.proofs.lemmas.Bool.{eqb-true, eqb-false}
use Rattle.hm_types.specs.declared.Head.{Head}
use Rattle.hm_types.specs.declared.monotypes.Ty.{Ty}
use Rattle.hm_types.specs.Types.{App as app, Var as leaf}
use Rattle.hm_types.specs.Monotypes.{Leaf, Mono, var, rigid, arguments_of}
use Rattle.hm_types.specs.Shape.{type_of, types_of}
use Rattle.hm_types.proofs.Substitution.{or_cases, or_left, or_right, bool_cases}
use Rattle.hm_types.proofs.Rows.{types_of_more}
use Rattle.std.proofs.lemmas.List.{take_all, length-map, length-append}
use Rattle.hm_unify.specs.declared.levels.Change.{Change}
use Rattle.hm_unify.specs.declared.levels.LevelTable.{LevelTable}
use Rattle.hm_unify.specs.declared.levels.Levels.{Levels}
use Rattle.hm_unify.specs.Levels.{has, has_in_any}
use Rattle.hm_unify.specs.LevelTables.{level_in, level_before, AreWithin, TableContinues, TableLowers, level_of, level_of_before, IsWithin, HasNoChanges, Continues, Lowers}

-- ---- elements

-- the number of its own place put at the end
push_at : (xs : List ℕ) (n d b y : ℕ) → d ≡ b + n → y ≡ b + length xs → get_or (xs ++ y ∷ []) n d ≡ get_or xs n d
push_at [] zero d b y e f = omega (arith, e, f)
push_at [] (suc n) d b y e f = refl
push_at (x ∷ xs) zero d b y e f = refl
push_at (x ∷ xs) (suc n) d b y e f = push_at xs n d (suc b) y (omega (arith, e)) (omega (arith, f))

pub level_push : (xs ys : List ℕ) (y n : ℕ) → ys ≡ xs ++ y ∷ [] → y ≡ length xs → level_in ys n ≡ level_in xs n
level_push xs ys y n e f = ap (λ zs. level_in zs n) e ∙ push_at xs n n 0 y (omega arith) (omega (arith, f))

pub longer_push : (xs ys : List ℕ) (y k : ℕ) → ys ≡ xs ++ y ∷ [] → k ≤ length xs → k ≤ length ys
longer_push xs ys y k e h = omega (arith, h, ap length e, length-append xs (y ∷ []))

set_here : (xs : List ℕ) (n y d : ℕ) → n < length xs → get_or (set xs n y) n d ≡ y
set_here [] n y d h = absurd (omega arith)
set_here (x ∷ xs) zero y d h = refl
set_here (x ∷ xs) (suc n) y d h = set_here xs n y d (omega arith)

set_there : (xs : List ℕ) (n m y d : ℕ) → (n ≡ m → ⊥) → get_or (set xs n y) m d ≡ get_or xs m d
set_there [] n m y d o = refl
set_there (x ∷ xs) zero zero y d o = absurd (o refl)
set_there (x ∷ xs) zero (suc m) y d o = refl
set_there (x ∷ xs) (suc n) zero y d o = refl
set_there (x ∷ xs) (suc n) (suc m) y d o = set_there xs n m y d (λ e. o (ap suc e))

length_set : (xs : List ℕ) (n y : ℕ) → length (set xs n y) ≡ length xs
length_set [] n y = refl
length_set (x ∷ xs) zero y = refl
length_set (x ∷ xs) (suc n) y = ap suc (length_set xs n y)

-- the level after one was written
level_set : (xs : List ℕ) (n y m : ℕ) → n < length xs → level_in (set xs n y) m ≡ (if n == m then y else level_in xs m)
level_set xs n y m h =
    elim (bool_cases (n == m)) [
      | inl e ↦ let same : n ≡ m = eqb-true n m e in rw e (ap (λ k. get_or (set xs n y) k m) (sym same) ∙ set_here xs n y m h)
      | inr e ↦ rw e (set_there xs n m y m (eqb-false n m e))
    ]

-- ---- changes

before_push : (cs : List Change) (c : Change) (n now : ℕ) → level_before (cs ++ c ∷ []) n now ≡ level_before cs n (if c.number == n then c.level else now)
before_push [] c n now = refl
before_push (d ∷ cs) c n now =
    elim (bool_cases (d.number == n)) [
      | inl e ↦ rw e refl
      | inr e ↦ rw e (before_push cs c n now)
    ]

pub within_push : (k : ℕ) (cs : List Change) (c : Change) → AreWithin k cs → c.number < k → AreWithin k (cs ++ c ∷ [])
within_push k [] c w h = (h, tt)
within_push k (d ∷ cs) c w h = (w.0, within_push k cs c w.1 h)

within_split : (k : ℕ) (cs : List Change) (c : Change) → AreWithin k (cs ++ c ∷ []) → AreWithin k cs × (c.number < k)
within_split k [] c w = (tt, w.0)
within_split k (d ∷ cs) c w = let rest = within_split k cs c w.1 in ((w.0, rest.0), rest.1)

pub within_more : (k j : ℕ) (cs : List Change) → k ≤ j → AreWithin k cs → AreWithin j cs
within_more k j [] h w = tt
within_more k j (c ∷ cs) h w = let here = w.0 in (omega arith, within_more k j cs h w.1)

-- ---- one change taken back

pub undo_within : (ds cs : List Change) (c : Change) (xs : List ℕ) → ds ≡ cs ++ c ∷ [] → AreWithin (length xs) ds → c.number < length xs
undo_within ds cs c xs e w = (within_split (length xs) cs c (subst (AreWithin (length xs)) e w)).1

pub undo_rest : (ds cs : List Change) (c : Change) (xs : List ℕ) → ds ≡ cs ++ c ∷ [] → AreWithin (length xs) ds → AreWithin (length (set xs c.number c.level)) cs
undo_rest ds cs c xs e w =
    within_more (length xs) (length (set xs c.number c.level)) cs (omega (arith, length_set xs c.number c.level)) (within_split (length xs) cs c (subst (AreWithin (length xs)) e w)).0

pub undo_same : (ds cs : List Change) (c : Change) (xs : List ℕ) (n : ℕ) → ds ≡ cs ++ c ∷ [] → AreWithin (length xs) ds
    → level_before cs n (level_in (set xs c.number c.level) n) ≡ level_before ds n (level_in xs n)
undo_same ds cs c xs n e w =
    ap (level_before cs n) (level_set xs c.number c.level n (undo_within ds cs c xs e w)) ∙ sym (before_push cs c n (level_in xs n)) ∙ ap (λ z. level_before z n (level_in xs n)) (sym e)

-- ---- one level lowered

pub as_low : (xs : List ℕ) (n level before : ℕ) → before ≡ level_in xs n → before ≤ level → (m k : ℕ) → (level_in xs m < k) ↔ ((level_in xs m < k) ⊎ (((n == m) ≡ true) × (level < k)))
as_low xs n level before e h m k = (
  λ a. inl a,
  λ c. elim c [
    | inl a ↦ a
    | inr b ↦ let same : level_in xs n ≡ level_in xs m = ap (level_in xs) (eqb-true n m b.0) in let less = b.1 in omega (arith, e)
  ],
)

-- the table before, wider, and with the lower level
module _ (xs ys : List ℕ) (n level before : ℕ) (is : before ≡ level_in xs n) (wider : (m : ℕ) → level_in ys m ≡ level_in xs m) (room : n < length ys) where
  pub lower_levels : level < before → (m k : ℕ) → (level_in (set ys n level) m < k) ↔ ((level_in xs m < k) ⊎ (((n == m) ≡ true) × (level < k)))
  lower_levels less m k =
      elim (bool_cases (n == m)) [
        | inl e ↦
            let now : level_in (set ys n level) m ≡ level = rw e at (level_set ys n level m room) in
            let same : level_in xs n ≡ level_in xs m = ap (level_in xs) (eqb-true n m e) in
            (λ a. inr (e, omega (arith, now)), λ c. elim c [ inl a ↦ omega (arith, now, is) | inr b ↦ let l = b.1 in omega (arith, now) ])
        | inr e ↦
            let now : level_in (set ys n level) m ≡ level_in ys m = rw e at (level_set ys n level m room) in
            (λ a. inl (omega (arith, now, wider m)), λ c. elim c [ inl a ↦ omega (arith, now, wider m) | inr b ↦ let bad = b.0 in absurd (cc) ])
      ]

  pub lower_same : (cs : List Change) (c : Change) (m : ℕ) → c.number ≡ n → c.level ≡ before → level_before (cs ++ c ∷ []) m (level_in (set ys n level) m) ≡ level_before cs m (level_in xs m)
  lower_same cs c m en el = before_push cs c m (level_in (set ys n level) m) ∙ ap (level_before cs m) back
    where
      back : (if c.number == m then c.level else level_in (set ys n level) m) ≡ level_in xs m
      back =
          elim (bool_cases (n == m)) [
            | inl e ↦ let here : (c.number == m) ≡ true = ap (λ z. z == m) en ∙ e in rw here (el ∙ is ∙ ap (level_in xs) (eqb-true n m e))
            | inr e ↦ let there : (c.number == m) ≡ false = ap (λ z. z == m) en ∙ e in let now : level_in (set ys n level) m ≡ level_in ys m = rw e at (level_set ys n level m room) in rw there (now ∙ wider m)
          ]

  pub lower_within : (cs : List Change) (c : Change) → c.number ≡ n → AreWithin (length ys) cs → AreWithin (length (set ys n level)) (cs ++ c ∷ [])
  lower_within cs c en w =
      let long : length (set ys n level) ≡ length ys = length_set ys n level in
      within_push (length (set ys n level)) cs c (within_more (length ys) (length (set ys n level)) cs (omega arith) w) (omega (arith, en))

-- ---- tables in turn

pub table_continues_same : (t : LevelTable) → TableContinues t t
table_continues_same t = record { same = λ n. refl; within = λ w. w }

pub table_continues_further : {a b c : LevelTable} → TableContinues a b → TableContinues b c → TableContinues a c
table_continues_further p q = record { same = λ n. q.same n ∙ p.same n; within = λ w. q.within (p.within w) }

pub continues_same : (l : Levels) → Continues l l
continues_same l = record { variables = table_continues_same l.variables; rigids = table_continues_same l.rigids }

pub continues_further : {a b c : Levels} → Continues a b → Continues b c → Continues a c
continues_further p q = record { variables = table_continues_further p.variables q.variables; rigids = table_continues_further p.rigids q.rigids }

pub within_after : (old mid : Levels) → HasNoChanges old → Continues old mid → IsWithin mid
within_after old mid none c = record { variables = c.variables.within (rw none.variables tt); rigids = c.rigids.within (rw none.rigids tt) }

-- changes taken back until there were none
pub undone : (old mid new : Levels) → HasNoChanges old → Continues old mid → ((x : Leaf) → level_of new x ≡ level_of_before mid x) → (x : Leaf) → level_of new x ≡ level_of old x
undone old mid new none c back (var n) = back (var n) ∙ c.variables.same n ∙ rw none.variables refl
undone old mid new none c back (rigid n) = back (rigid n) ∙ c.rigids.same n ∙ rw none.rigids refl

pub lowers_variable : (n level : ℕ) (t : Mono) (a b : Levels) → t ≡ leaf (var n) → TableLowers n level a.variables b.variables → b.rigids ≡ a.rigids → Lowers (λ x. has x t) level a b
lowers_variable n level t a b e low same = record { levels = all }
  where
    all : (x : Leaf) (k : ℕ) → (level_of b x < k) ↔ ((level_of a x < k) ⊎ ((has x t ≡ true) × (level < k)))
    all (var m) k = rw e (low.levels m k)
    all (rigid m) k = rw (e, same) (λ h. inl h, λ c. elim c [ inl h ↦ h | inr h ↦ let bad = h.0 in absurd (cc) ])

pub lowers_rigid : (n level : ℕ) (t : Mono) (a b : Levels) → t ≡ leaf (rigid n) → TableLowers n level a.rigids b.rigids → b.variables ≡ a.variables → Lowers (λ x. has x t) level a b
lowers_rigid n level t a b e low same = record { levels = all }
  where
    all : (x : Leaf) (k : ℕ) → (level_of b x < k) ↔ ((level_of a x < k) ⊎ ((has x t ≡ true) × (level < k)))
    all (rigid m) k = rw e (low.levels m k)
    all (var m) k = rw (e, same) (λ h. inl h, λ c. elim c [ inl h ↦ h | inr h ↦ let bad = h.0 in absurd (cc) ])

-- ---- rows

row_has_append : (x : Leaf) (ts us : List Mono) → has_in_any x (arguments_of (ts ++ us)) ≡ (has_in_any x (arguments_of ts) || has_in_any x (arguments_of us))
row_has_append x [] us = refl
row_has_append x (t ∷ ts) us = rw (row_has_append x ts us) (or_swap (has x t) (has_in_any x (arguments_of ts)) (has_in_any x (arguments_of us)))
  where
    or_swap : (a b c : Bool) → (a || (b || c)) ≡ ((a || b) || c)
    or_swap true b c = refl
    or_swap false b c = refl

or_false : (b : Bool) → (b || false) ≡ b
or_false true = refl
or_false false = refl

pub row_has_more : (x : Leaf) (ts : List Ty) (i : ℕ) (d : Ty) → i < length ts → d ≡ get_or ts i d
    → has_in_any x (arguments_of (take (i + 1) (types_of ts))) ≡ (has_in_any x (arguments_of (take i (types_of ts))) || has x (type_of d))
row_has_more x ts i d below is =
    ap (λ us. has_in_any x (arguments_of us)) (types_of_more ts i d below is) ∙ row_has_append x (take i (types_of ts)) (type_of d ∷ []) ∙
    ap (λ b. has_in_any x (arguments_of (take i (types_of ts))) || b) (or_false (has x (type_of d)))

pub lowers_none : (p : Leaf → Bool) (level : ℕ) (a : Levels) → ((x : Leaf) → p x ≡ false) → Lowers p level a a
lowers_none p level a none = record { levels = λ x k. (λ h. inl h, λ c. elim c [ inl h ↦ h | inr h ↦ let bad = h.0 in let no = none x in absurd (cc) ]) }

lowers_both : (p q r : Leaf → Bool) (level : ℕ) (a b c : Levels) → ((x : Leaf) → r x ≡ (p x || q x)) → Lowers p level a b → Lowers q level b c → Lowers r level a c
lowers_both p q r level a b c both first second = record {
  levels = λ x k. (
    λ h. elim ((second.levels x k).0 h) [
      | inl g ↦ elim ((first.levels x k).0 g) [ inl f ↦ inl f | inr f ↦ inr (both x ∙ or_left (p x) (q x) f.0, f.1) ]
      | inr g ↦ inr (both x ∙ or_right (p x) (q x) g.0, g.1)
    ],
    λ h. elim h [
      | inl g ↦ (second.levels x k).1 (inl ((first.levels x k).1 (inl g)))
      | inr g ↦
          elim (or_cases (p x) (q x) (sym (both x) ∙ g.0)) [
            | inl o ↦ (second.levels x k).1 (inl ((first.levels x k).1 (inr (o, g.1))))
            | inr o ↦ (second.levels x k).1 (inr (o, g.1))
          ]
    ],
  );
}

pub lowers_more : (level : ℕ) (a b c : Levels) (ts : List Ty) (i : ℕ) (d : Ty) → i < length ts → d ≡ get_or ts i d
    → Lowers (λ x. has_in_any x (arguments_of (take i (types_of ts)))) level a b → Lowers (λ x. has x (type_of d)) level b c
    → Lowers (λ x. has_in_any x (arguments_of (take (i + 1) (types_of ts)))) level a c
lowers_more level a b c ts i d below is first second =
    lowers_both (λ x. has_in_any x (arguments_of (take i (types_of ts)))) (λ x. has x (type_of d)) (λ x. has_in_any x (arguments_of (take (i + 1) (types_of ts)))) level a b c
    (λ x. row_has_more x ts i d below is) first second

pub lowers_all : (level : ℕ) (a b : Levels) (t : Mono) (h : Head) (ts : List Ty) (i : ℕ) → t ≡ app h (arguments_of (types_of ts)) → length ts ≤ i
    → Lowers (λ x. has_in_any x (arguments_of (take i (types_of ts)))) level a b → Lowers (λ x. has x t) level a b
lowers_all level a b t h ts i whole all low =
    record { levels = λ x k. rw whole (rw (take_all i (types_of ts) (omega (arith, length-map ts type_of))) at (low.levels x k)) }
