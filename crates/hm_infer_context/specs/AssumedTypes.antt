-- The type of an assumed scheme, owned or borrowed.
use Rattle.hm_types.specs.Monotypes.{Mono}
use Rattle.hm_types.specs.Shape.{type_of}
use Rattle.hm_infer_context.specs.declared.environment.AssumedType.{AssumedType}
use Rattle.hm_infer_context.specs.declared.environment.AssumedType.TheVariants.{Made, Lent}

abbrev pub type_in : AssumedType → Mono
type_in (Made t) = type_of t
type_in (Lent t) = type_of t.now
