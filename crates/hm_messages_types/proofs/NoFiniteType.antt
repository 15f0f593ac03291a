-- Types that are equal only if a type contains itself have no common instance.
use Rattle.std.proofs.Common.{◌≡◌, ℕ, zero, suc, ◌<◌, List, [], ◌∷◌, length, get_or, sym, inl, inr, subst, arith}
use Rattle.hm_types.specs.Monotypes.{Mono, Monos, var, rigid, arguments_of}
use Rattle.hm_types.specs.Shape.{type_of, types_of}
use Rattle.hm_types.specs.Substitution.{Substitution, substitute, substitute_all}
use Rattle.hm_types.specs.Types.{Var as leaf, App as app, done as none, more}
use Rattle.hm_types.specs.declared.monotypes.Ty.{Ty}
use Rattle.hm_types.proofs.Substitution.{occurs_check}
use Rattle.hm_messages_types.specs.InfiniteTypes.{NeedInfinite, NoCommonInstance, SomeNeedInfinite}

mutual
  never : (t u : Mono) (f : Substitution) → NeedInfinite t u → ¬ (substitute f t ≡ substitute f u)
  never (leaf (var x)) (app h ts) f n e = occurs_check x f h ts n e
  never (leaf (var x)) (leaf w) f n e = n
  never (leaf (rigid x)) u f n e = n
  never (app h ts) (leaf (var x)) f n e = occurs_check x f h ts n (sym e)
  never (app h ts) (leaf (rigid x)) f n e = n
  never (app h ts) (app k us) f n e =
      let rows : substitute_all f ts ≡ substitute_all f us = cc in
      some_never ts us f n.1 rows

  some_never : (ts us : Monos) (f : Substitution) → SomeNeedInfinite ts us → ¬ (substitute_all f ts ≡ substitute_all f us)
  some_never none us f n e = n
  some_never (more t ts) none f n e = n
  some_never (more t ts) (more u us) f n e =
      let here : substitute f t ≡ substitute f u = cc in
      let there : substitute_all f ts ≡ substitute_all f us = cc in
      elim n [ inl m ↦ never t u f m here | inr m ↦ some_never ts us f m there ]

pub no_common_instance : NoCommonInstance
no_common_instance = never

-- a pair at one place is such a pair of the lists
pub some_at : (ts us : List Ty) (i : ℕ) (l r : Ty) → i < length ts → i < length us → l ≡ get_or ts i l → r ≡ get_or us i r → NeedInfinite (type_of l) (type_of r)
    → SomeNeedInfinite (arguments_of (types_of ts)) (arguments_of (types_of us))
some_at [] us i l r m n e f p = absurd (omega arith)
some_at (t ∷ ts) [] i l r m n e f p = absurd (omega arith)
some_at (t ∷ ts) (u ∷ us) zero l r m n e f p = inl (subst (λ (x : Ty). NeedInfinite (type_of t) (type_of x)) f (subst (λ (x : Ty). NeedInfinite (type_of x) (type_of r)) e p))
some_at (t ∷ ts) (u ∷ us) (suc i) l r m n e f p = inr (some_at ts us i l r (omega arith) (omega arith) e f p)
