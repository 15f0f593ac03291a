use Rattle.std.proofs.Common.{rules, refl}
use Rattle.hm_build_place_texts.specs.Facts.{there_of}
use Rattle.hm_build_places.specs.TypesAt.{IsTypeThere, typed}
use Rattle.hm_build_places.specs.Views.{known_of}
use Rattle.hm_build_places.proofs.here.local_type.Goals as goal

pub returns-in-Some : goal.returns-in-Some
returns-in-Some c =
    let t : IsTypeThere (known_of c.args.view.now) c.args.number c.args.one.now.mention (there_of c.in-Some.found) = search rules in
    typed t refl
