-- A module imports by name each module in its row of the plan.
use Rattle.std.proofs.Common.{◌≡◌, ℕ, ◌<◌, All, Contains, List, [], length, map, get_or, sym, ap, subst, ◌∙◌, refl}
use Rattle.std.specs.Arc.{arc_value}
use Rattle.std.specs.declared.alloc.Global.{Global}
use Rattle.std.specs.declared.sync.Arc.{Arc}
use Rattle.std.proofs.lemmas.List.{get_or-map, length-map}
use Rattle.std.proofs.lemmas.List.Elements.{All-contains, All-map, Contains-get_or}
use Rattle.hm_graph.specs.Imports.{imports_at, name_at}
use Rattle.hm_graph.specs.Outline.{Outline, outline}
use Rattle.hm_syntax.specs.declared.ast.Import.{Import}
use Rattle.hm_syntax.specs.declared.ast.Module.{Module}
use Rattle.hm_verdicts.specs.Sets.{IsLawfulSet, module_at, no_module, outlines_of}
use Rattle.hm_build_reports.specs.Settling.{module_set}

pub imported_in_row : (modules : List (Arc Module Global)) (plan : List (List ℕ)) (i : ℕ) (row : List ℕ) (imports : List Import) → IsLawfulSet (module_set modules plan) → i < length modules → row ≡ get_or plan i []
    → imports ≡ (module_at (module_set modules plan) i).header.imports → (k d : ℕ) → k < length row
    → Contains (map (λ (n : Import). n.name.text) imports) (get_or (map arc_value modules) (get_or row k d) no_module).header.name.text
imported_in_row modules plan i row imports law l e same k d h =
    let ms : List Module = map arc_value modules in
    let j : ℕ = get_or row k d in
    let shape = λ (m : Module). outline m.header in
    let none : Outline = record { name = []; imports = [] } in
    let inside : i < length ms = subst (λ n. i < n) (sym (length-map modules arc_value)) l in
    let list = law.planned.each i (subst (λ n. i < n) (sym (length-map ms shape)) inside) in
    let there = (list.members j).0 (subst (λ js. Contains js j) e (Contains-get_or row k d h)) in
    let below : j < length ms = subst (λ n. j < n) (length-map ms shape) there.0 in
    let named : name_at (outlines_of ms) j ≡ (get_or ms j no_module).header.name.text = ap (λ (o : Outline). o.name) (get_or-map shape ms j no_module none below) in
    let listed : imports_at (outlines_of ms) i ≡ map (λ (n : Import). n.name.text) imports =
    ap (λ (o : Outline). o.imports) (get_or-map shape ms i no_module none inside) ∙ sym (ap (map (λ (n : Import). n.name.text)) same) in
    subst (Contains (map (λ (n : Import). n.name.text) imports)) named (subst (λ l. Contains l (name_at (outlines_of ms) j)) listed there.1)

-- an import of that name is found
pub not_without : (name : List ℕ) (imports : List Import) → All (λ (n : Import). ¬ (n.name.text ≡ name)) imports → Contains (map (λ (n : Import). n.name.text) imports) name → ⊥
not_without name imports without there =
    All-contains (λ (x : List ℕ). ¬ (x ≡ name)) (map (λ (n : Import). n.name.text) imports) name (All-map (λ (x : List ℕ). ¬ (x ≡ name)) (λ (n : Import). n.name.text) imports without) there refl
