use Rattle.std.proofs.Common.{◌≡◌, ◌≤◌, ap, ◌∙◌, length, arith}
use Rattle.std.proofs.lemmas.List.{length-take-le}
use Rattle.hm_infer_context.specs.Kept.{entries_of}
use Rattle.hm_infer_context.proofs.PlacedFirst.{cut_twice}
use Rattle.hm_infer_context.proofs.Tables.{truncated}
use Rattle.hm_infer_context.proofs.environment.Environment.truncate.Goals as goal

pub returns-then-self-depth : goal.returns-then-self-depth
returns-then-self-depth c = λ added base e l. ap entries_of c.truncate.ensures.items ∙ truncated c.self.inside.items.items c.args.depth c.args.self.now added base c.self.view_is e l

pub returns : goal.returns
returns c = λ added base e l.
    let n : length c.truncate-2.new.self.items ≡ c.self.inside.placed = ap length c.truncate-2.ensures.items ∙ length-take-le c.self.inside.placed c.self.inside.items.items c.self.invariant.within in
    let long : c.args.depth ≤ length c.truncate-2.new.self.items = omega (arith, n, c.if-self-depth.false) in
    ap entries_of (cut_twice c.self.inside.items.items c.truncate-2.new.self.items c.forget_from.new.items.items c.args.depth c.self.inside.placed c.truncate-2.ensures.items (c.forget_from.ensures.items long) (omega (arith, c.if-self-depth.false)))
    ∙ truncated c.self.inside.items.items c.args.depth c.args.self.now added base c.self.view_is e l
