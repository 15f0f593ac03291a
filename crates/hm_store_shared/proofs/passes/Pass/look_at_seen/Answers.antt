use Rattle.std.proofs.Common.{ap, sym, ◌∙◌}
use Rattle.std.specs.Arc.{arc_value}
use Rattle.std.specs.Option.{option_map}
use Rattle.hm_store_shared.proofs.Listing.{found_if_published}
use Rattle.hm_store_shared.proofs.passes.Pass.look_at_seen.Goals as goal

pub unreachable-requires : goal.unreachable-requires
unreachable-requires g c = found_if_published _ _ c.args.number c.requires.published c.look.ensures.list (sym (ap (option_map arc_value) c.in-Ok-None.field-0-is) ∙ c.in-Ok-None.ensures.reply)
