-- What matching rests on.
use Rattle.std.proofs.Common.{◌≡◌, ◌≢◌, ℕ, ◌+◌, ◌≤◌, ◌<◌, Bool, true, false, ◌==◌, List, [], ◌∷◌, ◌++◌, length, get_or, take, map, refl, sym, ap, ◌∙◌, inl, inr, ◌↔◌, subst, arith, Option, Some, None}
use Rattle.std.proofs.Math.ListN.{set}
use Rattle.std.proofs.Common.{get_or-set_same, get_or-set_other}
use Rattle.std.proofs.lemmas.Bool.{eqb-true, eqb-false, eq-eqb}
use Rattle.std.proofs.lemmas.List.{take-map, map-append, take_all, length-map, get_or-map, length-take-le}
use Rattle.hm_types.specs.declared.monotypes.Ty.{Ty}
use Rattle.hm_types.specs.declared.monotypes.Ty.TheVariants.{Var, App}
use Rattle.hm_types.specs.declared.Head.{Head}
use Rattle.hm_types.specs.Types.{App as app, Var as leaf}
use Rattle.hm_types.specs.Monotypes.{Mono, var, arguments_of}
use Rattle.hm_types.specs.Shape.{type_of, types_of}
use Rattle.hm_types.specs.Substitution.{Substitution, substitute, occurs, occurs_in_any}
use Rattle.hm_types.specs.Schemes.{TypeScheme, IsAtLeastAsGeneral, IsScheme}
use Rattle.hm_types_subsumption.specs.Matching.{Extends, Matches, MatchesAll}
use Rattle.hm_types.proofs.Substitution.{bool_cases}
use Rattle.hm_types.proofs.Rows.{types_of_more, row_subst_row_of, row_occurs_item}
use Rattle.hm_types.proofs.Quantified.{general_from_body, body_from_general}
use Rattle.hm_types.proofs.Matched.{app_same, last_of}

pub Extends-set : (f : Substitution) (found : List (Option Ty)) (n : ℕ) (t : Ty) → n < length found → get_or found n None ≡ None
    → Extends f (set found n (Some t)) ↔ (Extends f found × (f n ≡ type_of t))
Extends-set f found n t h free = (
  λ e. (λ m s g. e m s (get_or-set_other found n m (Some t) None (other m s g) ∙ g), e n t (get_or-set_same found n (Some t) None h)),
  λ e m s g.
      elim (bool_cases (m == n)) [
        | inl same ↦
            let is : m ≡ n = eqb-true m n same in
            let there : Some s ≡ Some t = sym g ∙ ap (λ k. get_or (set found n (Some t)) k None) is ∙ get_or-set_same found n (Some t) None h in
            let types : s ≡ t = cc there in
            ap f is ∙ e.1 ∙ ap type_of (sym types)
        | inr differ ↦ e.0 m s (sym (get_or-set_other found n m (Some t) None (eqb-false m n differ)) ∙ g)
      ],
)
  where
    other : (m : ℕ) (s : Ty) → get_or found m None ≡ Some s → m ≢ n
    other m s g is = let both : Some s ≡ None = sym g ∙ ap (λ k. get_or found k None) is ∙ free in cc

pub matches_found : (b : Bool) (found : List (Option Ty)) (n : ℕ) (t : Ty) (target : Mono) → get_or found n None ≡ Some t → ((b ≡ true) ↔ (type_of t ≡ target)) → Matches b found found (leaf (var n)) target
matches_found true found n t target g told = λ f. (λ e. (e, e n t g ∙ told.0 refl), λ e. e.0)
matches_found false found n t target g told = λ f e s. let yes : false ≡ true = told.1 (sym (e n t g) ∙ s) in cc

pub matches_free : (found next : List (Option Ty)) (n : ℕ) (t : Ty) (target : Mono) → n < length found → get_or found n None ≡ None → type_of t ≡ target → next ≡ set found n (Some t)
    → Matches true found next (leaf (var n)) target
matches_free found next n t target h free is e =
    let P : List (Option Ty) → Type 0 = λ xs. Matches true found xs (leaf (var n)) target in
    subst P (sym e)
    (λ f. (λ x. let p = (Extends-set f found n t h free).0 x in (p.0, p.1 ∙ is), λ p. (Extends-set f found n t h free).1 (p.0, p.1 ∙ sym is)))

pub matches_args : (b : Bool) (old new : List (Option Ty)) (p r : Ty) (h k : Head) (ts us : List Mono) (ls rs : List Ty) → p ≡ App h ts → r ≡ App k us → h ≡ k → types_of ls ≡ ts → types_of rs ≡ us
    → MatchesAll b old new (types_of ls) (types_of rs) → Matches b old new (type_of p) (type_of r)
matches_args b old new p r h k ts us ls rs ep er eh fs gs m = go b m
  where
    down : (f : Substitution) → substitute f (type_of p) ≡ type_of r → map (substitute f) (types_of ls) ≡ types_of rs
    down f e =
        let apps : app h (arguments_of (map (substitute f) ts)) ≡ app k (arguments_of us) =
        ap (app h) (sym (row_subst_row_of f ts)) ∙ ap (λ t. substitute f (type_of t)) (sym ep) ∙ e ∙ ap type_of er in
        ap (map (substitute f)) fs ∙ (app_same h k (map (substitute f) ts) us apps).1 ∙ sym gs

    up : (f : Substitution) → map (substitute f) (types_of ls) ≡ types_of rs → substitute f (type_of p) ≡ type_of r
    up f e =
        ap (λ t. substitute f (type_of t)) ep ∙ ap (app h) (row_subst_row_of f ts) ∙ ap (λ x. app x (arguments_of (map (substitute f) ts))) eh ∙
        ap (λ vs. app k (arguments_of vs)) (ap (map (substitute f)) (sym fs) ∙ e ∙ gs) ∙ sym (ap type_of er)

    go : (b : Bool) → MatchesAll b old new (types_of ls) (types_of rs) → Matches b old new (type_of p) (type_of r)
    go true m = λ f. (λ x. let q = (m f).0 x in (q.0, up f q.1), λ q. (m f).1 (q.0, down f q.1))
    go false m = λ f x e. m f x (down f e)

-- one more item
pub matches_more : (first old new : List (Option Ty)) (ps ts : List Ty) (i : ℕ) (p t : Ty) → i < length ps → i < length ts → p ≡ get_or ps i p → t ≡ get_or ts i t
    → MatchesAll true first old (take i (types_of ps)) (take i (types_of ts)) → Matches true old new (type_of p) (type_of t)
    → MatchesAll true first new (take (i + 1) (types_of ps)) (take (i + 1) (types_of ts))
matches_more first old new ps ts i p t hp ht ep et before here f =
    let left = types_of_more ps i p hp ep in
    let right = types_of_more ts i t ht et in
    let mapped : map (substitute f) (take (i + 1) (types_of ps)) ≡ map (substitute f) (take i (types_of ps)) ++ substitute f (type_of p) ∷ [] =
    ap (map (substitute f)) left ∙ map-append (substitute f) (take i (types_of ps)) (type_of p ∷ []) in (
      λ x.
          let q = (here f).0 x in
          let r = (before f).0 q.0 in
          (r.0, mapped ∙ ap (λ us. us ++ substitute f (type_of p) ∷ []) r.1 ∙ ap (λ u. take i (types_of ts) ++ u ∷ []) q.1 ∙ sym right),
      λ x.
          let same = last_of (map (substitute f) (take i (types_of ps))) (take i (types_of ts)) (substitute f (type_of p)) (type_of t) (as_long f) (sym mapped ∙ x.1 ∙ right) in
          (here f).1 ((before f).1 (x.0, same.0), same.1),
    )
  where
    as_long : (f : Substitution) → length (map (substitute f) (take i (types_of ps))) ≡ length (take i (types_of ts))
    as_long f =
        omega (arith, length-map (take i (types_of ps)) (substitute f), length-take-le i (types_of ps) (rw (length-map ps type_of) (omega arith)), length-take-le i (types_of ts) (rw (length-map ts type_of) (omega arith)))

-- an item that does not match
pub matches_fail : (first old new : List (Option Ty)) (ps ts : List Ty) (i : ℕ) (p t : Ty) → i < length ps → i < length ts → p ≡ get_or ps i p → t ≡ get_or ts i t
    → MatchesAll true first old (take i (types_of ps)) (take i (types_of ts)) → Matches false old new (type_of p) (type_of t) → MatchesAll false first new (types_of ps) (types_of ts)
matches_fail first old new ps ts i p t hp ht ep et before here f x e =
    here f ((before f).1 (x, sym (take-map (substitute f) i (types_of ps)) ∙ ap (take i) e))
    (ap (substitute f) (ap type_of ep ∙ sym (get_or-map type_of ps i p (type_of t) hp)) ∙
    sym (get_or-map (substitute f) (types_of ps) i (type_of t) (type_of t) (rw (length-map ps type_of) hp)) ∙ ap (λ us. get_or us i (type_of t)) e ∙
    get_or-map type_of ts i t (type_of t) ht ∙ ap type_of (sym et))

pub matches_all : (old new : List (Option Ty)) (ps ts : List Ty) (i : ℕ) → length ps ≤ i → length ts ≤ i → MatchesAll true old new (take i (types_of ps)) (take i (types_of ts))
    → MatchesAll true old new (types_of ps) (types_of ts)
matches_all old new ps ts i hp ht m =
    let P : List Mono → Type 0 = λ us. MatchesAll true old new us (take i (types_of ts)) in
    let Q : List Mono → Type 0 = λ us. MatchesAll true old new (types_of ps) us in
    subst Q (take_all i (types_of ts) (rw (length-map ts type_of) ht)) (subst P (take_all i (types_of ps) (rw (length-map ps type_of) hp)) m)

-- ---- a match of the whole

read : List (Option Ty) → ℕ → Mono
read found n = elim (get_or found n None) [ None ↦ leaf (var n) | Some t ↦ type_of t ]

read_extends : (found : List (Option Ty)) → Extends (read found) found
unfolding read
read_extends found n t g = rw (g, read) refl

pub match_tells : (b : Bool) (first new : List (Option Ty)) (general special : TypeScheme) → ((n : ℕ) (t : Ty) → get_or first n None ≡ Some t → ⊥)
    → Matches b first new general.body special.body → (b ≡ true) ↔ IsAtLeastAsGeneral general special
match_tells true first new general special empty m =
    (λ _. general_from_body general special (read new, ((m (read new)).0 (read_extends new)).1), λ _. refl)
match_tells false first new general special empty m = (
  λ e. absurd (cc),
  λ g.
      let i = body_from_general general special g in
      absurd (m i.0 (λ n t h. absurd (empty n t h)) i.1),
)

pub var_occurs : (p : Ty) (n : ℕ) → p ≡ Var n → occurs n (type_of p) ≡ true
var_occurs p n e = ap (λ t. occurs n (type_of t)) e ∙ eq-eqb n n refl

pub args_occur : (p : Ty) (h : Head) (ts : List Mono) (ls : List Ty) (n : ℕ) → p ≡ App h ts → types_of ls ≡ ts → occurs_in_any n (arguments_of (types_of ls)) ≡ true → occurs n (type_of p) ≡ true
args_occur p h ts ls n e f o = ap (λ t. occurs n (type_of t)) e ∙ ap (λ us. occurs_in_any n (arguments_of us)) (sym f) ∙ o

pub item_occurs : (ls : List Ty) (i : ℕ) (d : Ty) (n : ℕ) → i < length ls → d ≡ get_or ls i d → occurs n (type_of d) ≡ true → occurs_in_any n (arguments_of (types_of ls)) ≡ true
item_occurs ls i d n h e o = row_occurs_item n ls i d h (ap (λ t. occurs n (type_of t)) (sym e) ∙ o)

pub match_tells_of : (b : Bool) (first new : List (Option Ty)) (pattern target : Mono) (general special : TypeScheme) → pattern ≡ general.body → target ≡ special.body
    → ((n : ℕ) (t : Ty) → get_or first n None ≡ Some t → ⊥) → Matches b first new pattern target → (b ≡ true) ↔ IsAtLeastAsGeneral general special
match_tells_of b first new pattern target general special eg es empty m =
    let P : Mono → Type 0 = λ t. Matches b first new t target in
    let Q : Mono → Type 0 = λ t. Matches b first new general.body t in
    match_tells b first new general special empty (subst Q es (subst P eg m))

-- the variables of a scheme's body are below their number
pub in_scope : (s : TypeScheme) (t : Mono) (n many : ℕ) → IsScheme s → t ≡ s.body → s.vars ≤ many → occurs n t ≡ true → n < many
in_scope s t n many valid e h o = let below : n < s.vars = valid.closed n (ap (occurs n) (sym e) ∙ o) in omega arith
