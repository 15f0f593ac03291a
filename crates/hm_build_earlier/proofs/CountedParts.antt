-- The modules of one source after the other, by the number of modules of each.
use Rattle.std.proofs.Common.{◌≡◌, ℕ, suc, ◌+◌, ◌<◌, ◌≤◌, List, ◌∷◌, length, take, drop, map, get_or, sym, ap, subst, ◌∙◌, arith}
use Rattle.std.proofs.lemmas.List.{drop_at, drop_more, drop-map, length-append, length-drop, length-map, take_at, take-map}
use Rattle.hm_syntax.specs.declared.ast.Module.{Module}
use Rattle.hm_run_sources.specs.ModuleCounts.{AreCountedModules}
use Rattle.hm_run_sources.specs.SourceModules.{HasModules}

-- the modules of one source, and those of the sources after it
pub record PartAt {X Y : Type 0} (view : X → List ℕ) (value : Y → Module) (xs : List X) (ys : List Y) (counts : List ℕ) (i : ℕ) (d : X) : Type 0 where
  pub inside : i < length counts
  pub fits : get_or counts i 0 ≤ length ys
  pub here : HasModules (view (get_or xs i d)) (map value (take (get_or counts i 0) ys))
  pub later : AreCountedModules (map view (drop (i + 1) xs)) (map value (drop (get_or counts i 0) ys)) (drop (i + 1) counts)

-- the next source has the next so many modules
pub part_at : {X Y : Type 0} (view : X → List ℕ) (value : Y → Module) (xs : List X) (ys : List Y) (counts : List ℕ) (i : ℕ) (d : X) → i < length xs
    → AreCountedModules (map view (drop i xs)) (map value ys) (drop i counts) → PartAt view value xs ys counts i d
part_at view value xs ys counts i d within h =
    let p = subst (λ l. AreCountedModules (map view l) (map value ys) (drop i counts)) (drop_more xs i d within) h in
    let many : length (drop i counts) ≡ suc (length p.2) = ap length p.6 in
    let inside : i < length counts = omega (arith, many, length-drop i counts) in
    let n : ℕ = get_or counts i 0 in
    let split : n ∷ drop (i + 1) counts ≡ length p.0 ∷ p.2 = sym (drop_more counts i 0 inside) ∙ p.6 in
    let count : n ≡ length p.0 = ap (λ (l : List ℕ). get_or l 0 0) split in
    let numbers : drop (i + 1) counts ≡ p.2 = ap (λ (l : List ℕ). drop 1 l) split in
    let size : length ys ≡ length p.0 + length p.1 = sym (length-map ys value) ∙ (ap length p.5 ∙ length-append p.0 p.1) in
    let first : map value (take n ys) ≡ p.0 = sym (take-map value n ys) ∙ (ap (take n) p.5 ∙ take_at p.0 p.1 n (sym count)) in
    let rest : map value (drop n ys) ≡ p.1 = sym (drop-map value n ys) ∙ (ap (drop n) p.5 ∙ drop_at p.0 p.1 n (sym count)) in
    record {
      inside = inside;
      fits = omega (arith, size, count);
      here = subst (HasModules (view (get_or xs i d))) (sym first) p.3;
      later = subst (λ ms. AreCountedModules (map view (drop (i + 1) xs)) ms (drop (i + 1) counts)) (sym rest) (subst (AreCountedModules (map view (drop (i + 1) xs)) p.1) (sym numbers) p.4);
    }
