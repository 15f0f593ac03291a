-- The scheme of a constructor, owned or borrowed.
use Rattle.hm_types.specs.Schemes.{TypeScheme}
use Rattle.hm_infer_context.specs.declared.constructors.KnownScheme.{KnownScheme}
use Rattle.hm_infer_context.specs.declared.constructors.KnownScheme.TheVariants.{Made, Lent}

abbrev pub scheme_in : KnownScheme → TypeScheme
scheme_in (Made scheme) = scheme
scheme_in (Lent scheme) = scheme.now
