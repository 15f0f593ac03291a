-- In a lawful set no source is left out.
use Rattle.std.proofs.Common.{◌≡◌, ℕ, ◌<◌, List, length, sym, subst}
use Rattle.std.proofs.lemmas.List.{length-map}
use Rattle.hm_graph_components.proofs.Graphs.{Closure-map}
use Rattle.hm_graph.specs.Imports.{IsLawful, Modules}
use Rattle.hm_graph.specs.Outline.{outline}
use Rattle.hm_run_sources.specs.declared.located.Located.{Located}
use Rattle.hm_service_sources.specs.LeftOut.{IsInTheWay, IsLeftOut, by_import, cycle, missing, outlines_of, own, taken, too_many}

none_in_the_way : (modules : Modules) (m : ℕ) → IsLawful modules → m < length modules → ¬ (IsInTheWay modules m)
none_in_the_way modules m l below (taken t) = l.distinct m below t
none_in_the_way modules m l below (missing {i = i} h) = l.found m i below h
none_in_the_way modules m l below (cycle c) = l.acyclic m (Closure-map (λ x y h. h.0) c)
none_in_the_way modules m l below (too_many t) = l.few t

pub none_left_out : (located : List Located) (s : ℕ) → IsLawful (outlines_of located) → ¬ (IsLeftOut located s)
none_left_out located s l (own {m = m} below at way) = none_in_the_way (outlines_of located) m l (subst (λ n. m < n) (sym (length-map located (λ (x : Located). outline x.header))) below) way
none_left_out located s l (by_import {b = b} below at imports out) = none_left_out located _ l out
