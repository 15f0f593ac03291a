use Rattle.std.proofs.Common.{rules}
use Rattle.hm_verdicts.specs.Sets.{module_at}
use Rattle.hm_build_place_texts.specs.Facts.{binding_of}
use Rattle.hm_build_places.specs.Answers.{IsBoundAt, given}
use Rattle.hm_build_places.specs.TypesAt.{place_of}
use Rattle.hm_build_places.specs.Known.{IsNumberOf, origin_of}
use Rattle.hm_build_places.specs.Views.{known_of}
use Rattle.hm_build_places.proofs.bound.module_bound.Goals as goal

pub returns : goal.returns
returns c =
    let k = known_of c.args.view.now in
    let i = c.in-Some.number in
    let named : IsNumberOf k c.args.name.now i = search rules in
    let bound : IsBoundAt k (origin_of k i) (place_of (module_at k.set i).header.name) (binding_of c.in_ok-bound_at.field-0) = search rules in
    given named bound
