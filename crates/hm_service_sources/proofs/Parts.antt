-- The checkable part of a lawful set and of a refused one.
use Rattle.std.proofs.Common.{◌≡◌, ℕ, zero, suc, ◌<◌, ◌↔◌, List, [], ◌∷◌, length, get_or, map, Contains, All, refl, ap, ap₂, sym, ◌∙◌, subst, arith}
use Rattle.std.specs.List.Sorted.{IsStrictlyIncreasing}
use Rattle.hm_graph.specs.Imports.{IsLawful}
use Rattle.hm_graph.specs.Outline.{Outline, outline}
use Rattle.hm_run_sources.proofs.Origins.{located_by_counts}
use Rattle.hm_run_sources.specs.ModuleCounts.{AreCountedModules, AreOrigins}
use Rattle.hm_run_sources.specs.Origins.{AreHeadersFor, AreLocated}
use Rattle.hm_run_sources.specs.Refusals.{Refusal, plan}
use Rattle.hm_run_sources.specs.declared.located.Located.{Located}
use Rattle.hm_syntax.specs.declared.ast.Module.{Module}
use Rattle.hm_service_sources.proofs.Lawful.{none_left_out}
use Rattle.hm_service_sources.proofs.Numbers.{all_ascending, all_members}
use Rattle.hm_service_sources.specs.HeldSets.{AreAll}
use Rattle.hm_service_sources.specs.LeftOut.{IsCheckable, IsLeftOut, outlines_of}

-- the headers of modules with the numbers of their sources
locate : List Module → List ℕ → List Located
locate (m ∷ ms) (o ∷ os) = record { header = m.header; source = o } ∷ locate ms os
locate [] os = []
locate (m ∷ ms) [] = []

headers_are : (ms : List Module) (os : List ℕ) → length os ≡ length ms → map (λ (l : Located). l.header) (locate ms os) ≡ map (λ (m : Module). m.header) ms
unfolding locate
headers_are [] os e = refl
headers_are (m ∷ ms) [] e = absurd (omega (arith, e))
headers_are (m ∷ ms) (o ∷ os) e = ap (λ l. m.header ∷ l) (headers_are ms os (omega (arith, e)))

sources_are : (ms : List Module) (os : List ℕ) → length os ≡ length ms → map (λ (l : Located). l.source) (locate ms os) ≡ os
unfolding locate
sources_are [] [] e = refl
sources_are [] (o ∷ os) e = absurd (omega (arith, e))
sources_are (m ∷ ms) [] e = absurd (omega (arith, e))
sources_are (m ∷ ms) (o ∷ os) e = ap (λ l. o ∷ l) (sources_are ms os (omega (arith, e)))

outlines_are : (ms : List Module) (os : List ℕ) → length os ≡ length ms → map (λ (m : Module). outline m.header) ms ≡ outlines_of (locate ms os)
unfolding locate
outlines_are [] os e = refl
outlines_are (m ∷ ms) [] e = absurd (omega (arith, e))
outlines_are (m ∷ ms) (o ∷ os) e = ap (λ l. outline m.header ∷ l) (outlines_are ms os (omega (arith, e)))

-- all sources of a lawful set
pub whole : (sources : List (List ℕ)) (modules : List Module) (counts origins part : List ℕ) → AreCountedModules sources modules counts → AreOrigins counts origins → length origins ≡ length modules → IsLawful (map (λ (m : Module). outline m.header) modules)
    → AreAll (length sources) part → IsCheckable sources part
whole sources modules counts origins part counted are size lawful all =
    let located = locate modules origins in
    let members = all_members (length sources) part all in
    record {
      located = located;
      are = located_by_counts sources modules counts origins located are (headers_are modules origins size) (sources_are modules origins size) counted;
      ascending = all_ascending (length sources) part all;
      members = λ s. (
        λ c. ((members s).0 c, λ out. none_left_out located s (subst IsLawful (outlines_are modules origins size) lawful) out),
        λ h. (members s).1 h.0,
      );
    }

-- those of a refused set that aren't left out
pub some : (sources : List (List ℕ)) (located : List Located) (part : List ℕ) → AreLocated sources located → IsStrictlyIncreasing part → ((s : ℕ) → Contains part s ↔ ((s < length sources) × ¬ (IsLeftOut located s))) → IsCheckable sources part
some sources located part are ascending members = record { located = located; are = are; ascending = ascending; members = members }
