use Rattle.std.specs.Prelude.{◌≡◌, true}
use Rattle.hm_typing.specs.Laws.{GoodWhereTyped, FaultyWhereFaults}
use Rattle.hm_typing.specs.Verdicts.{itself}
use Rattle.hm_typing.proofs.ModuleSets.{good_typed, import_good, typed_good}
use Rattle.hm_typing.proofs.Ordering.{layout}
use Rattle.hm_typing.proofs.SetVerdicts.{faulty_where}
use Rattle.hm_typing.proofs.verdicts.modules_are_judged_by_their_imports.Goals as goal

good : GoodWhereTyped
good set prelude well table i S law p = (
  (λ g. (g.well_formed i itself, import_good set prelude law (λ k. well k ≡ true) table i S p g, good_typed set prelude law (λ k. well k ≡ true) table i S p g)),
  (λ h. typed_good set prelude law (λ k. well k ≡ true) table i S p h.0 h.1 h.2),
)

faulty : FaultyWhereFaults
faulty set prelude well table i S xs law d p = faulty_where layout set prelude law (λ k. well k ≡ true) table i d S p xs

pub returns : goal.returns
returns c = record { good_where_typed = good; faulty_where_faults = faulty }
