use Rattle.std.proofs.Common.{◌≡◌, ◌∷◌, ◌++◌, [], rules}
use Rattle.hm_infer_context.proofs.Placed.{last_forgotten, last_placed}
use Rattle.hm_infer_context.proofs.environment.forget_last.Goals as goal

pub returns-clause-placed : goal.returns-clause-placed
returns-clause-placed c = λ placed.
    let parted : c.args.items.now.items ≡ c.pop.new.self.items ++ c.in-Some.last ∷ [] = search rules in
    last_forgotten c.pop.new.self.items c.args.items.now.items c.in-Some.last c.args.innermost.now c.restore.new.places placed parted
    (c.restore.ensures (last_placed c.pop.new.self.items c.args.items.now.items c.in-Some.last c.args.innermost.now placed parted))
