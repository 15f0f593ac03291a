use Rattle.std.proofs.Common.{rules, string_bytes, refl}
use Rattle.hm_build_places.specs.TypesAt.{HasOwnScheme, found}
use Rattle.hm_build_places.specs.Views.{known_of}
use Rattle.hm_build_places.proofs.typed.own_type.Goals as goal

pub returns-in-Some : goal.returns-in-Some
returns-in-Some c =
    let has : HasOwnScheme (known_of c.args.view.now) c.args.entity.now (string_bytes c.in-Some.scheme) = search rules in
    found has refl
