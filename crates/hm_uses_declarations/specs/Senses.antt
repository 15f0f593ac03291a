-- The meaning of a use, as the program has it. No public clause names these.
use Rattle.std.specs.Prelude.{ℕ, List}
use Rattle.hm_types.specs.declared.Entity.{Entity}
use Rattle.hm_uses_declarations.specs.declared.uses.Meaning.{Meaning}
use Rattle.hm_uses_declarations.specs.declared.uses.Meaning.TheVariants as told
use Rattle.hm_uses.specs.Uses.{Sense, local_variable, type_variable, an_entity, a_module, a_prefix, unbound, ambiguous}

abbrev pub sense_of : Meaning → Sense
sense_of (told.Local p) = local_variable p.line p.column
sense_of (told.TypeVariable p) = type_variable p.line p.column
sense_of (told.Entity e) = an_entity e
sense_of (told.Module x) = a_module x.now
sense_of (told.Prefix x) = a_prefix x.now
sense_of told.Unbound = unbound
sense_of told.Ambiguous = ambiguous
