-- Schemes that quantify all variables of a type except the kept ones.
use Rattle.std.specs.Prelude.{◌≡◌, ℕ, ◌+◌, Bool, true, cond, List, length}
use Rattle.hm_types.specs.Types.{Var as leaf, In, put}
use Rattle.hm_types.specs.Monotypes.{Leaf, Mono, var, rigid}
use Rattle.hm_types.specs.Schemes.{is_among, place}

-- a leaf in the body of a scheme: a kept one is shifted, any other is a slot, which is its place among the leaves of its kind
abbrev pub closing : (Leaf → Bool) → ℕ → List ℕ → List ℕ → Leaf → Leaf
closing kept q xs ys (var n) = cond (kept (var n)) (var (n + q)) (var (place n xs))
closing kept q xs ys (rigid n) = cond (kept (rigid n)) (rigid (n + q)) (var (place n ys + length xs))

-- the body of a scheme that quantifies the variables of t except the kept ones
pub record IsClosing (kept : Leaf → Bool) (t : Mono) (quantified : ℕ) (body : Mono) : Type 0 where
  pub plain : List ℕ
  pub rigid : List ℕ
  pub many : quantified ≡ length plain + length rigid
  pub whole : body ≡ put (λ l. leaf (closing kept quantified plain rigid l)) t
  pub plain_slots : (n : ℕ) → In (var n) t → is_among n plain ≡ true
  pub rigid_slots : (n : ℕ) → In (Rattle.hm_types.specs.Monotypes.rigid n) t → is_among n rigid ≡ true
