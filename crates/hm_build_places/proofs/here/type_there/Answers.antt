use Rattle.std.proofs.Common.{rules, string_bytes}
use Rattle.hm_build_place_texts.specs.Facts.{there_of}
use Rattle.hm_build_places.specs.TypesAt.{IsTypedAt}
use Rattle.hm_build_places.specs.Views.{known_of}
use Rattle.hm_build_places.proofs.TypesFound.{type_with_owner}
use Rattle.hm_build_places.proofs.here.type_there.Goals as goal

pub returns-in-Some : goal.returns-in-Some
returns-in-Some c =
    let k = known_of c.args.view.now in
    let m = c.args.one.now.mention in
    let f = c.in-Some.found in
    let at : IsTypedAt k c.args.number m (string_bytes f.definition) (string_bytes f.own) (string_bytes f.here) = search rules in
    type_with_owner k c.args.number m (string_bytes f.definition) (string_bytes f.own) (string_bytes f.here) (there_of c.with_owner.result) c.with_owner.ensures.text at c.with_owner.ensures.owner
