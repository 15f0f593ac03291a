-- Worked examples of names of a checked set.
use Rattle.std.proofs.Common.{◌≡◌, List, [], ◌∷◌, arith, refl}
use Rattle.hm_build_places.specs.Known.{HasNoUses}
use Rattle.hm_service_references.specs.Names.{AreUsesAt, of_module, of_skipped}
use Rattle.hm_service_references.specs.Worked.{SkippedRow, SourceRow, skipped}
use Rattle.hm_types.specs.Interfaces.{Exports as Interface}
use Rattle.hm_uses.specs.Uses.{UseOf}
use Rattle.hm_verdicts.specs.Verdicts.{ArePublished, Published, Skipped}

not_published : (fs : List Interface) → ArePublished skipped.status (1 ∷ []) fs → ⊥
not_published [] h = absurd h
not_published (f ∷ fs) h = let z : Skipped ≡ Published f = h.0 in absurd (cc)

has_none : HasNoUses skipped 0
has_none fs h are = absurd (not_published fs h)

none : AreUsesAt skipped 0 []
none = of_skipped has_none refl

not_one : (u : UseOf) → ¬ (AreUsesAt skipped 0 (u ∷ []))
not_one u (of_module h) = absurd (not_published h.interfaces h.published)
not_one u (of_skipped h e) = absurd (cc)

pub worked_skipped : SkippedRow
worked_skipped = record { none = none; not_one = not_one; names = ([], ([], (refl, (none, refl)))) }

pub worked_sources : SourceRow
worked_sources = record { second = refl; not_index = λ e. let z : 7 ≡ 1 = e in absurd (omega (arith, z)) }
