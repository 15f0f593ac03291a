use Rattle.hm_syntax.specs.Lists.{declarations}
use Rattle.hm_uses.specs.Scopes.{at_top}
use Rattle.hm_uses.proofs.AllFound.{all_found}
use Rattle.hm_uses.proofs.Existence.{knows}
use Rattle.hm_uses.proofs.Sound.{good_module}
use Rattle.hm_uses.proofs.Written.{declarations_named}
use Rattle.hm_uses.proofs.laws.found_uses.Goals as goal

pub returns : goal.returns
returns c = record { names = λ k m. declarations_named k Rattle.std.proofs.Common.[] at_top (declarations m.decls); meanings = good_module; all = all_found; known = knows }
