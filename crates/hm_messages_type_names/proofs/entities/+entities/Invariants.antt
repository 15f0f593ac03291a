use Rattle.hm_types.specs.Monotypes.{size, list_size}
use Rattle.hm_types.specs.Shape.{type_of, types_of}
use Rattle.hm_messages_type_names.proofs.entities.+entities.Given as goal

abbrev pub decreases-add_entities : goal.decreases-add_entities
decreases-add_entities l = size (type_of l.ty.now)

abbrev pub decreases-add_all : goal.decreases-add_all
decreases-add_all l = list_size (types_of l.types.now)
