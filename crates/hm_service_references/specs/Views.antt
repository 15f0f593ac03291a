-- What is known by the view of a build.
use Rattle.std.specs.Prelude.{[]}
use Rattle.hm_build_places.specs.Known.{Known}
use Rattle.hm_build_places.specs.Views.{known_in}
use Rattle.hm_service_references.specs.declared.imported.View.{View}

abbrev pub known_of : View → Known
known_of v = known_in v.store.now [] [] v.origins.now
