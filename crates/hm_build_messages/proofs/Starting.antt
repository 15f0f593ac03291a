-- The starts of modules, one after the other, and those of all modules of sources.
use Rattle.std.proofs.Common.{◌≡◌, ℕ, ◌+◌, ◌<◌, List, [], ◌∷◌, ◌++◌, ap, ap₂, arith, get_or, length, map, refl, subst, sym, take, ◌∙◌}
use Rattle.std.proofs.lemmas.List.{get_or-map, length-map, map-append, take_more}
use Rattle.hm_syntax.specs.declared.ast.Module.{Module}
use Rattle.hm_run_sources.proofs.ModuleCounts.{have_origins}
use Rattle.hm_run_sources.proofs.Reading.{counted_modules}
use Rattle.hm_run_sources.specs.ModuleCounts.{AreCountedModules, AreOrigins}
use Rattle.hm_run_sources.specs.Origins.{HaveOrigins, IsSpelledBy}
use Rattle.hm_messages.specs.ModuleStarts.{AreStartsOf, module_start, start_of}
use Rattle.hm_messages.specs.declared.starts.ModuleStart.{ModuleStart}

-- the step of a loop: what is known of the elements so far, and of one more
pub mapped_more : {X Y Z : Type 0} (f : X → Z) (g : Y → Z) (ys : List Y) (k : ℕ) (y : Y) (old new : List X) (x : X) → k < length ys → y ≡ get_or ys k y → new ≡ old ++ x ∷ [] → f x ≡ g y → map f old ≡ map g (take k ys) → map f new ≡ map g (take (k + 1) ys)
mapped_more f g ys k y old new x within is pushed same before =
    ap (map f) pushed ∙ (map-append f old (x ∷ []) ∙ (ap₂ (λ l z. l ++ z ∷ []) before same ∙ sym (ap (map g) (take_more ys k y within ∙ ap (λ z. take k ys ++ z ∷ []) (sym is)) ∙ map-append g (take k ys) (y ∷ []))))

pub numbered_more : {X : Type 0} (f : X → ℕ) (ys : List ℕ) (k : ℕ) (old new : List X) (x : X) → k < length ys → new ≡ old ++ x ∷ [] → f x ≡ get_or ys k 0 → map f old ≡ take k ys → map f new ≡ take (k + 1) ys
numbered_more f ys k old new x within pushed same before = ap (map f) pushed ∙ (map-append f old (x ∷ []) ∙ (ap₂ (λ l z. l ++ z ∷ []) before same ∙ sym (take_more ys k 0 within)))

pub map_twice : {X Y Z : Type 0} (f : Y → Z) (g : X → Y) (xs : List X) → map f (map g xs) ≡ map (λ x. f (g x)) xs
map_twice f g [] = refl
map_twice f g (x ∷ xs) = ap (λ l. f (g x) ∷ l) (map_twice f g xs)

module _ (sources : List (List ℕ)) (starts : List ModuleStart) where
  pub counted_starts : (modules : List Module) (counts origins : List ℕ) → AreCountedModules sources modules counts → AreOrigins counts origins → map start_of starts ≡ map module_start modules → map (λ (s : ModuleStart). s.source) starts ≡ origins
      → AreStartsOf sources starts
  counted_starts modules counts origins counted are named numbered =
      let have : HaveOrigins sources (length modules) origins = have_origins sources modules counts origins counted are in
      let many : length origins ≡ length starts = sym (ap length numbered) ∙ length-map starts (λ (s : ModuleStart). s.source) in
      record {
        modules = modules;
        read = counted_modules sources modules counts counted;
        named = named;
        each = λ m d low. subst (IsSpelledBy sources m) (sym (ap (λ (l : List ℕ). get_or l m 0) numbered) ∙ get_or-map (λ (s : ModuleStart). s.source) starts m d 0 low) (have.each m 0 (omega (arith, low, many)));
      }
