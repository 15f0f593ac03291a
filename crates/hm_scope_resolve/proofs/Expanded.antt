-- The expansion of synonyms, by lists.
use Rattle.std.proofs.Common.{◌≡◌, ℕ, zero, suc, ◌+◌, ◌<◌, ◌≤◌, List, [], ◌∷◌, ◌++◌, take, take_all, map, length, get_or, refl, sym, ap, ap₂, ◌∙◌, arith}
use Rattle.std.proofs.lemmas.List.{map-append, length-map}
use Rattle.hm_types.specs.Types.{App as app}
use Rattle.hm_types.specs.Shape.{type_of, types_of}
use Rattle.hm_types.specs.declared.monotypes.Ty.{Ty}
use Rattle.hm_types.specs.declared.Head.{Head}
use Rattle.hm_types.proofs.Rows.{types_of_more}
use Rattle.hm_types.specs.Monotypes.{Mono, arguments_of}
use Rattle.hm_syntax.specs.Names.{Identifier}
use Rattle.hm_syntax.specs.Trees.{TypeTree, TypeTrees, more_types, unit_type}
use Rattle.hm_syntax.specs.Lists.{types}
use Rattle.hm_names.specs.Expansion.{argument, function_of, applied_at, filled_at, all_filled_at}

pub argument_at : (ts : List TypeTree) (i : ℕ) (t : TypeTree) → i < length ts → t ≡ get_or ts i t → t ≡ argument i (types ts)
argument_at [] i t h e = absurd (omega (arith, h))
argument_at (x ∷ ts) zero t h e = e
argument_at (x ∷ ts) (suc i) t h e = argument_at ts i t (omega (arith, h)) e

pub argument_past : (ts : List TypeTree) (i : ℕ) → length ts ≤ i → unit_type ≡ argument i (types ts)
argument_past [] i h = refl
argument_past (x ∷ ts) zero h = absurd (omega (arith, h))
argument_past (x ∷ ts) (suc i) h = argument_past ts i (omega (arith, h))

pub all_filled : (n : Identifier) (ts : TypeTrees) (us : List Mono) → types (map (filled_at n ts) us) ≡ all_filled_at n ts (arguments_of us)
all_filled n ts [] = refl
all_filled n ts (u ∷ us) = ap (λ z. more_types (filled_at n ts u) z) (all_filled n ts us)

pub few : (ts : List TypeTree) → length ts < 2 → unit_type ≡ function_of (types ts)
few [] h = refl
few (t ∷ []) h = refl
few (t ∷ u ∷ ts) h = absurd (omega (arith, h))

pub filled_more : (n : Identifier) (ts : TypeTrees) (us : List Ty) (i : ℕ) (d : Ty) (y : TypeTree) (before after : List TypeTree) → i < length us → d ≡ get_or us i d
    → before ≡ map (filled_at n ts) (take i (types_of us)) → y ≡ filled_at n ts (type_of d) → after ≡ before ++ y ∷ [] → after ≡ map (filled_at n ts) (take (i + 1) (types_of us))
filled_more n ts us i d y before after h e b q p =
    p ∙ (ap₂ (λ x z. x ++ z ∷ []) b q ∙ (sym (map-append (filled_at n ts) (take i (types_of us)) (type_of d ∷ [])) ∙ ap (map (filled_at n ts)) (sym (types_of_more us i d h e))))

pub filled_end : (n : Identifier) (ts : TypeTrees) (us : List Ty) (i : ℕ) (h : Head) (body : Mono) (done : List TypeTree) (t : TypeTree) → length us ≤ i
    → done ≡ map (filled_at n ts) (take i (types_of us)) → body ≡ app h (arguments_of (types_of us)) → t ≡ applied_at n h (types done) → t ≡ filled_at n ts body
filled_end n ts us i h body done t past e b q =
    let whole : done ≡ map (filled_at n ts) (types_of us) = e ∙ ap (map (filled_at n ts)) (take_all i (types_of us) (omega (arith, length-map us type_of, past))) in
    q ∙ (ap (λ l. applied_at n h (types l)) whole ∙ (ap (applied_at n h) (all_filled n ts (types_of us)) ∙ ap (filled_at n ts) (sym b)))
