-- Lists of values, and members of lists.
use Rattle.std.proofs.Common.{◌≡◌, ℕ, ◌+◌, ◌<◌, List, [], ◌∷◌, ◌++◌, Some, length, map, take, get_or, refl, sym, ap, ◌∙◌}
use Rattle.std.proofs.lemmas.List.{map-append, map_more}
use Rattle.std.specs.Prelude.{option_map, string_bytes}
use Rattle.serde_json.specs.Data.{Data}
use Rattle.serde_json.specs.View.{view}
use Rattle.serde_json.specs.declared.value.Value.{Value}
use Rattle.hm_lsp_results.specs.Asked.{HasUri}
use Rattle.hm_lsp_sources.specs.declared.source.Source.{Source}
use Rattle.hm_lsp_results.proofs.Found.{at_get}

pub map_twice : {A B C : Type 0} (f : B → C) (g : A → B) (xs : List A) → map f (map g xs) ≡ map (λ x. f (g x)) xs
map_twice f g [] = refl
map_twice f g (x ∷ xs) = ap (λ l. f (g x) ∷ l) (map_twice f g xs)

pub has_uri : (sources : List Source) (n : ℕ) (s : Source) (uri : List ℕ) → n < length sources → s ≡ get_or sources n s → uri ≡ string_bytes s.uri → HasUri sources n uri
has_uri sources n s uri low at is = ap (option_map (λ s. string_bytes s.uri)) (at_get sources n s low at) ∙ ap Some (sym is)

-- the step of a loop that makes a value of each member
pub valued_more : {X : Type 0} (f : X → Data) (ds : List X) (i : ℕ) (d : X) (old new : List Value) (v : Value) → i < length ds → d ≡ get_or ds i d → map view old ≡ map f (take i ds) → view v ≡ f d → new ≡ old ++ v ∷ []
    → map view new ≡ map f (take (i + 1) ds)
valued_more f ds i d old new v low at so_far is pushed =
    ap (map view) pushed ∙ map-append view old (v ∷ []) ∙ ap (λ (l : List Data). l ++ view v ∷ []) so_far ∙ ap (λ x. map f (take i ds) ++ x ∷ []) (is ∙ ap f at) ∙ sym (map_more f ds i d low)
