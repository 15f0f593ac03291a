-- The outlines of modules, by their places.
use Rattle.std.proofs.Common.{◌≡◌, ℕ, ◌+◌, ◌<◌, ◌≤◌, List, [], ◌∷◌, ◌++◌, length, map, take, get_or, arith, sym, ap, ◌∙◌}
use Rattle.std.proofs.lemmas.List.{get_or-map, length-map, map-append, take_more, take_all}
use Rattle.std.specs.Borrow.{Bor}
use Rattle.hm_graph_components.specs.Closure.{one, more}
use Rattle.hm_graph.specs.Imports.{Modules, ImportReaches, imports_at, name_at}
use Rattle.hm_graph.specs.Outline.{outline, lent_outlines}
use Rattle.hm_graph.specs.Refusal.{IsFirstInCycle}
use Rattle.hm_syntax.specs.declared.ast.Header.{Header}
use Rattle.hm_syntax.specs.declared.ast.Import.{Import}
use Rattle.hm_syntax.specs.declared.ast.Module.{Module}
use Rattle.hm_run_sources.specs.Names.{import_at, module_outline, module_outlines}

-- a module's name by its place
pub name_at_map : (ms : List Module) (j : ℕ) (d : Module) → j < length ms → name_at (module_outlines ms) j ≡ (get_or ms j d).header.name.text
name_at_map ms j d h = ap (λ o. o.name) (get_or-map module_outline ms j d (record { name = []; imports = [] }) h)

-- what hm_graph calls the imports of a module, by its place
imports_at_map : (ms : List Module) (m : ℕ) (d : Module) → m < length ms → imports_at (module_outlines ms) m ≡ map (λ i. i.name.text) (get_or ms m d).header.imports
imports_at_map ms m d h = ap (λ o. o.imports) (get_or-map module_outline ms m d (record { name = []; imports = [] }) h)

pub import_within : (ms : List Module) (m i : ℕ) (d : Module) → m < length ms → i < length (imports_at (module_outlines ms) m) → i < length (get_or ms m d).header.imports
import_within ms m i d h within = omega (arith, within, ap length (imports_at_map ms m d h), length-map (get_or ms m d).header.imports (λ j. j.name.text))

pub import_at_map : (ms : List Module) (m i : ℕ) (d : Module) (e : Import) → m < length ms → i < length (get_or ms m d).header.imports
    → import_at (module_outlines ms) m i ≡ (get_or (get_or ms m d).header.imports i e).name.text
import_at_map ms m i d e h within = ap (λ l. get_or l i []) (imports_at_map ms m d h) ∙ get_or-map (λ j. j.name.text) (get_or ms m d).header.imports i e [] within

pub outlines_below : (ms : List Module) (m : ℕ) → m < length (module_outlines ms) → m < length ms
outlines_below ms m h = omega (arith, h, length-map ms module_outline)

reached_below : (modules : Modules) (a b : ℕ) → ImportReaches modules a b → b < length modules
reached_below modules a b (one step) = step.0
reached_below modules a b (more steps step) = step.0

pub cycle_below : (ms : List Module) (m : ℕ) → IsFirstInCycle (module_outlines ms) m → m < length ms
cycle_below ms m h = outlines_below ms m (reached_below (module_outlines ms) m m h.cycle)

-- ---- headers that are lent

pub lent_more : (ms : List Module) (lent new : List (Bor Header)) (header : Bor Header) («module» : Bor Module) (i : ℕ) → i < length ms → new ≡ lent ++ header ∷ [] → header.now ≡ «module».now.header
    → «module».now ≡ get_or ms i «module».now → lent_outlines lent ≡ map module_outline (take i ms) → lent_outlines new ≡ map module_outline (take (i + 1) ms)
lent_more ms lent new header «module» i within pushed of here before =
    let last : outline header.now ≡ module_outline (get_or ms i «module».now) = ap outline of ∙ ap module_outline here in
    let front : lent_outlines lent ++ outline header.now ∷ [] ≡ map module_outline (take i ms) ++ module_outline (get_or ms i «module».now) ∷ [] = cc in
    ap lent_outlines pushed ∙ map-append (λ h. outline h.now) lent (header ∷ []) ∙ front
    ∙ sym (ap (map module_outline) (take_more ms i «module».now within) ∙ map-append module_outline (take i ms) (get_or ms i «module».now ∷ []))

pub lent_all : (ms : List Module) (lent : List (Bor Header)) (i : ℕ) → length ms ≤ i → lent_outlines lent ≡ map module_outline (take i ms) → lent_outlines lent ≡ module_outlines ms
lent_all ms lent i past so_far = so_far ∙ ap (map module_outline) (take_all i ms past)
