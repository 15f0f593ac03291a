-- Types of which no variable is bound.
use Rattle.std.proofs.Common.{◌≡◌, ℕ, ◌+◌, ◌<◌, ◌≤◌, List, [], ◌∷◌, ◌++◌, map, take, length, get_or, refl, sym, ap, ◌∙◌}
use Rattle.std.proofs.lemmas.List.{take_more, take_all}
use Rattle.hm_types.specs.declared.Head.{Head}
use Rattle.hm_types.specs.declared.monotypes.Ty.{Ty}
use Rattle.hm_types.specs.Types.{App as app}
use Rattle.hm_types.specs.Monotypes.{Mono, arguments_of}
use Rattle.hm_types.specs.Shape.{type_of, types_of}
use Rattle.hm_types.specs.Substitution.{Substitution, substitute}
use Rattle.hm_types.proofs.Rows.{pushed_more, made_all}

-- one argument more that is left as it is
pub settled_more : (f : Substitution) (ts : List Ty) (i : ℕ) (d : Ty) → i < length ts → d ≡ get_or ts i d → types_of (take i ts) ≡ map (substitute f) (take i (types_of ts)) → substitute f (type_of d) ≡ type_of d
    → types_of (take (i + 1) ts) ≡ map (substitute f) (take (i + 1) (types_of ts))
settled_more f ts i d below is before here = pushed_more f ts (take i ts) (take (i + 1) ts) i d d below is before (sym here) (take_more ts i d below ∙ ap (λ z. take i ts ++ z ∷ []) (sym is))

pub settled_all : (f : Substitution) (t : Mono) (h : Head) (ts : List Ty) (i : ℕ) → t ≡ app h (arguments_of (types_of ts)) → length ts ≤ i → types_of (take i ts) ≡ map (substitute f) (take i (types_of ts)) → substitute f t ≡ t
settled_all f t h ts i whole all done = sym (made_all f t h h ts (take i ts) i whole refl all done) ∙ (ap (λ us. app h (arguments_of (types_of us))) (take_all i ts all) ∙ sym whole)
