-- What the equations of two types' arguments rest on.
use Rattle.std.proofs.Common.{◌≡◌, ℕ, ◌+◌, ◌≤◌, ◌<◌, false, ◌||◌, List, [], ◌∷◌, ◌++◌, length, get_or, take, refl, sym, ap, ◌∙◌, subst, arith, append_assoc, append-nil}
use Rattle.std.proofs.lemmas.List.{map-append, length-map, length-append, length-take-le, take_all}
use Rattle.hm_types.specs.declared.Head.{Head}
use Rattle.hm_types.specs.declared.monotypes.Ty.{Ty}
use Rattle.hm_types.specs.declared.monotypes.Ty.TheVariants.{Var, Rigid, App}
use Rattle.hm_types.specs.Types.{App as app, Var as leaf}
use Rattle.hm_types.specs.Monotypes.{Mono, var, rigid, arguments_of}
use Rattle.hm_types.specs.Shape.{type_of, types_of}
use Rattle.hm_types.specs.Substitution.{Substitution, substitute, substitute_all, occurs, occurs_in_any}
use Rattle.hm_types.proofs.Rows.{types_of_more}
use Rattle.hm_types.proofs.Substitution.{or_both, or_neither}
use Rattle.hm_unify.specs.Unifier.{Equation}
use Rattle.hm_unify.specs.Steps.{pair_up, is_a_variable, Leaves, IsLighter, NeverUnifies}
use Rattle.hm_unify.proofs.Unifiers.{Unifies-append, Unifies-split, among_append, among_split}
use Rattle.hm_unify.proofs.WellFormed.{well_formed_append, well_formed_split, well_formed_pairs}
use Rattle.hm_unify.proofs.Work.{pair_up_last, row_subst_length, rows_unify, unify_rows, differ_heads, among_pairs, weight_among_append, weight_pairs, weight_last, reduces_same, Reduces-trans, Reduces-never}

pub Leaves-refl : (a : List Equation) → Leaves a a
Leaves-refl a = record {
  reduces = record { same = λ f u. (λ v. v, λ v. v); absent = λ y x z. z; well_formed = λ k x z. z };
  no_heavier = λ f. omega arith;
}

pub Leaves-trans : {a b c : List Equation} → Leaves a b → Leaves b c → Leaves a c
Leaves-trans p q = record { reduces = Reduces-trans p.reduces q.reduces; no_heavier = λ f. omega (arith, p.no_heavier f, q.no_heavier f) }

-- what stands behind stays
Leaves-more : (a b c : List Equation) → Leaves a b → Leaves (a ++ c) (b ++ c)
Leaves-more a b c p = record {
  reduces = record {
    same = λ f u. (
      λ v. let parts = Unifies-split f a c v in Unifies-append f b c ((p.reduces.same f u).0 parts.0) parts.1,
      λ v. let parts = Unifies-split f b c v in Unifies-append f a c ((p.reduces.same f u).1 parts.0) parts.1,
    );
    absent = λ y x z. let parts = among_split y a c z in among_append y b c (p.reduces.absent y x parts.0) parts.1;
    well_formed = λ k x z. let parts = well_formed_split k a c z in well_formed_append k b c (p.reduces.well_formed k x parts.0) parts.1;
  };
  no_heavier = λ f. omega (arith, p.no_heavier f, weight_among_append f a c, weight_among_append f b c);
}

never_more : (a c : List Equation) → NeverUnifies [] a → NeverUnifies [] (a ++ c)
never_more a c never f u v = never f u (Unifies-split f a c v).0

-- ---- an equation with a variable

pub pushed_left : (olds news : List Equation) (left : Ty) (n : ℕ) (r : Mono) → left ≡ Var n → news ≡ olds ++ record { left = leaf (var n); right = r } ∷ []
    → Leaves (olds ++ record { left = type_of left; right = r } ∷ []) news
pushed_left olds news left n r e is =
    subst (Leaves (olds ++ record { left = type_of left; right = r } ∷ [])) (ap (λ t. olds ++ record { left = type_of t; right = r } ∷ []) e ∙ sym is) (Leaves-refl _)

swapped : (olds : List Equation) (l r : Mono) → Leaves (olds ++ record { left = l; right = r } ∷ []) (olds ++ record { left = r; right = l } ∷ [])
swapped olds l r = record {
  reduces = record {
    same = λ f u. (
      λ v. let parts = Unifies-split f olds (record { left = l; right = r } ∷ []) v in Unifies-append f olds (record { left = r; right = l } ∷ []) parts.0 (sym parts.1.0, tt),
      λ v. let parts = Unifies-split f olds (record { left = r; right = l } ∷ []) v in Unifies-append f olds (record { left = l; right = r } ∷ []) parts.0 (sym parts.1.0, tt),
    );
    absent = λ y x z.
        let parts = among_split y olds (record { left = l; right = r } ∷ []) z in
        let last = or_neither (occurs y l || occurs y r) false parts.1 in
        let sides = or_neither (occurs y l) (occurs y r) last.0 in
        among_append y olds (record { left = r; right = l } ∷ []) parts.0 (or_both (occurs y r || occurs y l) false (or_both (occurs y r) (occurs y l) sides.1 sides.0) refl);
    well_formed = λ k x z.
        let parts = well_formed_split k olds (record { left = l; right = r } ∷ []) z in
        well_formed_append k olds (record { left = r; right = l } ∷ []) parts.0 ((parts.1.0.1, parts.1.0.0), tt);
  };
  no_heavier = λ f. omega (arith, weight_last [] olds (record { left = l; right = r }) f, weight_last [] olds (record { left = r; right = l }) f);
}

pub pushed_right : (olds news : List Equation) (l : Mono) (right : Ty) (n : ℕ) → right ≡ Var n → news ≡ olds ++ record { left = leaf (var n); right = l } ∷ []
    → Leaves (olds ++ record { left = l; right = type_of right } ∷ []) news
pushed_right olds news l right n e is =
    subst (Leaves (olds ++ record { left = l; right = type_of right } ∷ [])) (ap (λ t. olds ++ record { left = type_of t; right = l } ∷ []) e ∙ sym is) (swapped olds l (type_of right))

pub is_variable : {A : Type 0} (t : Ty) (n : ℕ) → t ≡ Var n → is_a_variable (type_of t) ≡ false → A
is_variable t n e none = let some : is_a_variable (type_of t) ≡ is_a_variable (leaf (var n)) = ap (λ s. is_a_variable (type_of s)) e in absurd (cc)

-- ---- equations that hold, and that never do

pub leaves_same : (olds : List Equation) (l r : Mono) → l ≡ r → Leaves (olds ++ record { left = l; right = r } ∷ []) olds
leaves_same olds l r e = record {
  reduces = reduces_same [] olds (record { left = l; right = r }) e;
  no_heavier = λ f. omega (arith, weight_last [] olds (record { left = l; right = r }) f);
}

pub lighter_same : (olds : List Equation) (l r : Mono) → IsLighter olds (olds ++ record { left = l; right = r } ∷ [])
lighter_same olds l r f = omega (arith, weight_last [] olds (record { left = l; right = r }) f)

pub never_last : (olds : List Equation) (l r : Mono) → ((f : Substitution) → substitute f l ≡ substitute f r → ⊥) → NeverUnifies [] (olds ++ record { left = l; right = r } ∷ [])
never_last olds l r never f u v = never f (Unifies-split f olds (record { left = l; right = r } ∷ []) v).1.0

-- a rigid variable and another one, or a constructed type
pub never_other : (olds : List Equation) (n : ℕ) (right : Ty) → ((m : ℕ) → right ≡ Var m → ⊥) → (type_of right ≡ leaf (rigid n) → ⊥) → NeverUnifies [] (olds ++ record { left = leaf (rigid n); right = type_of right } ∷ [])
never_other olds n (Var m) bound other = absurd (bound m refl)
never_other olds n (Rigid m) bound other = never_last olds (leaf (rigid n)) (leaf (rigid m)) (λ f e. other (sym e))
never_other olds n (App h ts) bound other = never_last olds (leaf (rigid n)) (app h (arguments_of ts)) (λ f e. cc)

pub never_made_rigid : (olds : List Equation) (left right : Ty) (h : Head) (ts : List Mono) (m : ℕ) → left ≡ App h ts → right ≡ Rigid m
    → NeverUnifies [] (olds ++ record { left = type_of left; right = type_of right } ∷ [])
never_made_rigid olds left right h ts m el er =
    never_last olds (type_of left) (type_of right)
    (λ f e. let same : substitute f (app h (arguments_of ts)) ≡ leaf (rigid m) = ap (λ t. substitute f (type_of t)) (sym el) ∙ e ∙ ap (λ t. substitute f (type_of t)) er in cc)

-- ---- two types with one head

module _ (olds : List Equation) (h : Head) (ts us : List Mono) where
  lighter_rows : IsLighter (olds ++ pair_up ts us) (olds ++ record { left = app h (arguments_of ts); right = app h (arguments_of us) } ∷ [])
  lighter_rows f = omega (arith, weight_last [] olds (record { left = app h (arguments_of ts); right = app h (arguments_of us) }) f, weight_among_append f olds (pair_up ts us), weight_pairs f ts us)

  leaves_rows : length ts ≡ length us → Leaves (olds ++ record { left = app h (arguments_of ts); right = app h (arguments_of us) } ∷ []) (olds ++ pair_up ts us)
  leaves_rows many = record {
    reduces = record {
      same = λ f u. (
        λ v.
            let parts = Unifies-split f olds (record { left = app h (arguments_of ts); right = app h (arguments_of us) } ∷ []) v in
            let heads : substitute f (app h (arguments_of ts)) ≡ substitute f (app h (arguments_of us)) = parts.1.0 in
            Unifies-append f olds (pair_up ts us) parts.0 (rows_unify f ts us (cc heads)),
        λ v.
            let parts = Unifies-split f olds (pair_up ts us) v in
            let rows = unify_rows f ts us many parts.1 in
            let heads : substitute f (app h (arguments_of ts)) ≡ substitute f (app h (arguments_of us)) = ap (app h) rows in
            Unifies-append f olds (record { left = app h (arguments_of ts); right = app h (arguments_of us) } ∷ []) parts.0 (heads, tt),
      );
      absent = λ y x z.
          let parts = among_split y olds (record { left = app h (arguments_of ts); right = app h (arguments_of us) } ∷ []) z in
          let last = or_neither (occurs_in_any y (arguments_of ts) || occurs_in_any y (arguments_of us)) false parts.1 in
          let sides = or_neither (occurs_in_any y (arguments_of ts)) (occurs_in_any y (arguments_of us)) last.0 in
          among_append y olds (pair_up ts us) parts.0 (among_pairs y ts us sides.0 sides.1);
      well_formed = λ k x z.
          let parts = well_formed_split k olds (record { left = app h (arguments_of ts); right = app h (arguments_of us) } ∷ []) z in
          well_formed_append k olds (pair_up ts us) parts.0 (well_formed_pairs k ts us parts.1.0.0.1 parts.1.0.1.1);
    };
    no_heavier = λ f. let less = lighter_rows f in omega arith;
  }

  never_rows : (length ts ≡ length us → NeverUnifies [] (olds ++ pair_up ts us)) → NeverUnifies [] (olds ++ record { left = app h (arguments_of ts); right = app h (arguments_of us) } ∷ [])
  never_rows never f u v =
      let parts = Unifies-split f olds (record { left = app h (arguments_of ts); right = app h (arguments_of us) } ∷ []) v in
      let heads : substitute f (app h (arguments_of ts)) ≡ substitute f (app h (arguments_of us)) = parts.1.0 in
      let rows : substitute_all f (arguments_of ts) ≡ substitute_all f (arguments_of us) = cc heads in
      never (row_subst_length f ts us rows) f tt (Unifies-append f olds (pair_up ts us) parts.0 (rows_unify f ts us rows))

-- the two types as the code has them
module _ (olds : List Equation) (left right : Ty) (h k : Head) (ts us : List Mono) (el : left ≡ App h ts) (er : right ≡ App k us) where
  pub never_heads : (h ≡ k → ⊥) → NeverUnifies [] (olds ++ record { left = type_of left; right = type_of right } ∷ [])
  never_heads other = never_last olds (type_of left) (type_of right) (λ f e. differ_heads h k ts us other f (ap (λ t. substitute f (type_of t)) (sym el) ∙ e ∙ ap (λ t. substitute f (type_of t)) er))

  module _ (ls rs : List Ty) (ets : types_of ls ≡ ts) (eus : types_of rs ≡ us) (same : h ≡ k) where
    left_is : type_of left ≡ app h (arguments_of (types_of ls))
    left_is = ap type_of el ∙ ap (λ vs. app h (arguments_of vs)) (sym ets)

    right_is : type_of right ≡ app k (arguments_of (types_of rs))
    right_is = ap type_of er ∙ ap (λ vs. app k (arguments_of vs)) (sym eus)

    pair_is : olds ++ record { left = app h (arguments_of (types_of ls)); right = app h (arguments_of (types_of rs)) } ∷ [] ≡ olds ++ record { left = type_of left; right = type_of right } ∷ []
    pair_is =
        ap (λ t. olds ++ record { left = t; right = app h (arguments_of (types_of rs)) } ∷ []) (sym left_is) ∙
        ap (λ t. olds ++ record { left = type_of left; right = t } ∷ []) (ap (λ x. app x (arguments_of (types_of rs))) same ∙ sym right_is)

    many : length ls ≡ length rs → length (types_of ls) ≡ length (types_of rs)
    many e = omega (arith, length-map ls type_of, length-map rs type_of)

    pub leaves_heads : (news : List Equation) → length ls ≡ length rs → Leaves (olds ++ pair_up (types_of ls) (types_of rs)) news
        → Leaves (olds ++ record { left = type_of left; right = type_of right } ∷ []) news
    leaves_heads news as_many rest = subst (λ (ws : List Equation). Leaves ws news) pair_is (Leaves-trans (leaves_rows olds h (types_of ls) (types_of rs) (many as_many)) rest)

    pub lighter_heads : (news : List Equation) → Leaves (olds ++ pair_up (types_of ls) (types_of rs)) news → IsLighter news (olds ++ record { left = type_of left; right = type_of right } ∷ [])
    lighter_heads news rest = subst (IsLighter news) pair_is (λ f. let less = lighter_rows olds h (types_of ls) (types_of rs) f in omega (arith, rest.no_heavier f))

    pub never_pairs : (length ls ≡ length rs → NeverUnifies [] (olds ++ pair_up (types_of ls) (types_of rs))) → NeverUnifies [] (olds ++ record { left = type_of left; right = type_of right } ∷ [])
    never_pairs never =
        subst (NeverUnifies []) pair_is (never_rows olds h (types_of ls) (types_of rs) (λ e. never (omega (arith, length-map ls type_of, length-map rs type_of))))

-- ---- the pairs from the last on

-- the work, where the pairs of some first arguments are yet to be added
pub record PairsLeft (olds : List Equation) (lefts all : List Ty) (now : List Equation) (rights : List Ty) : Type 0 where
  pub fits : length rights ≤ length lefts
  pub leaves : Leaves (olds ++ pair_up (types_of lefts) (types_of all)) (now ++ pair_up (take (length rights) (types_of lefts)) (types_of rights))

pub pairs_begin : (olds : List Equation) (lefts all : List Ty) → length lefts ≡ length all → PairsLeft olds lefts all olds all
pairs_begin olds lefts all e = record {
  fits = omega arith;
  leaves = subst (λ (ts : List Mono). Leaves (olds ++ pair_up (types_of lefts) (types_of all)) (olds ++ pair_up ts (types_of all))) (sym whole) (Leaves-refl _);
}
  where
    whole : take (length all) (types_of lefts) ≡ types_of lefts
    whole = take_all (length all) (types_of lefts) (omega (arith, length-map lefts type_of))

module _ {olds now : List Equation} {lefts all rights : List Ty} (begun : PairsLeft olds lefts all now rights) where
  pub pairs_end : length rights ≡ 0 → Leaves (olds ++ pair_up (types_of lefts) (types_of all)) now
  pairs_end none =
      let e : rights ≡ [] = nothing rights none in
      subst (Leaves (olds ++ pair_up (types_of lefts) (types_of all))) (ap (λ (rs : List Ty). now ++ pair_up (take (length rs) (types_of lefts)) (types_of rs)) e ∙ append-nil now) begun.leaves
    where
      nothing : (ts : List Ty) → length ts ≡ 0 → ts ≡ []
      nothing [] n = refl
      nothing (t ∷ ts) n = absurd (omega arith)

  pub pair_below : (rs : List Ty) (r : Ty) → rights ≡ rs ++ r ∷ [] → length rs < length lefts
  pair_below rs r popped = let fits = begun.fits in omega (arith, ap length popped, length-append rs (r ∷ []))

  module _ (rs : List Ty) (l r : Ty) (popped : rights ≡ rs ++ r ∷ []) (at : l ≡ get_or lefts (length rs) l) where
    longer : length rights ≡ length rs + 1
    longer = omega (arith, ap length popped, length-append rs (r ∷ []))

    below : length rs < length lefts
    below = pair_below rs r popped

    pairs_are : pair_up (take (length rights) (types_of lefts)) (types_of rights) ≡ record { left = type_of l; right = type_of r } ∷ pair_up (take (length rs) (types_of lefts)) (types_of rs)
    pairs_are =
        ap (λ n. pair_up (take n (types_of lefts)) (types_of rights)) longer ∙
        ap (λ ts. pair_up ts (types_of rights)) (types_of_more lefts (length rs) l below at) ∙
        ap (pair_up (take (length rs) (types_of lefts) ++ type_of l ∷ [])) (ap types_of popped ∙ map-append type_of rs (r ∷ [])) ∙
        pair_up_last (take (length rs) (types_of lefts)) (types_of rs) (type_of l) (type_of r)
        (omega (arith, below, length-map lefts type_of, length-map rs type_of, length-take-le (length rs) (types_of lefts) (omega (arith, below, length-map lefts type_of))))

    split : now ++ pair_up (take (length rights) (types_of lefts)) (types_of rights) ≡ (now ++ record { left = type_of l; right = type_of r } ∷ []) ++ pair_up (take (length rs) (types_of lefts)) (types_of rs)
    split = ap (λ ws. now ++ ws) pairs_are ∙ sym (append_assoc now (record { left = type_of l; right = type_of r } ∷ []) (pair_up (take (length rs) (types_of lefts)) (types_of rs)))

    so_far : Leaves (olds ++ pair_up (types_of lefts) (types_of all)) ((now ++ record { left = type_of l; right = type_of r } ∷ []) ++ pair_up (take (length rs) (types_of lefts)) (types_of rs))
    so_far = subst (Leaves (olds ++ pair_up (types_of lefts) (types_of all))) split begun.leaves

    pub pairs_onward : (next : List Equation) → Leaves (now ++ record { left = type_of l; right = type_of r } ∷ []) next → PairsLeft olds lefts all next rs
    pairs_onward next step = record {
      fits = let fits = begun.fits in omega (arith, longer);
      leaves = Leaves-trans so_far (Leaves-more _ _ _ step);
    }

    pub pairs_never : NeverUnifies [] (now ++ record { left = type_of l; right = type_of r } ∷ []) → NeverUnifies [] (olds ++ pair_up (types_of lefts) (types_of all))
    pairs_never never = Reduces-never so_far.reduces (never_more _ _ never)
