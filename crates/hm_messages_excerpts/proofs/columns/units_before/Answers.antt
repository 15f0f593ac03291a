use Rattle.std.proofs.Common.{rules, ◌≡◌, ◌+◌, ◌-◌, ◌*◌, ◌/◌, ◌<◌, ℕ, List, length, get_or, take, subst, arith}
use Rattle.hm_messages_excerpts.specs.Columns.{stride, units_of}
use Rattle.hm_messages_excerpts.proofs.Counting.{units_more}
use Rattle.hm_messages_excerpts.proofs.columns.units_before.Goals as goal

pub returns : goal.returns
returns c =
    let source : List ℕ = c.args.source.now in
    let end : ℕ = c.args.end in
    let row : ℕ = end / stride in
    let low : row < length c.args.table.now = omega (arith, c.requires.within, c.requires.table.enough) in
    let sum : row * stride + (end - row * stride) ≡ end = omega arith in
    subst (λ (k : ℕ). c.plus.result ≡ units_of (take k source)) sum
    (units_more source (row * stride) (end - row * stride) (get_or c.args.table.now row c.units_in.result) c.units_in.result c.plus.result
    (c.requires.table.each row c.units_in.result low) c.units_in.ensures.units (search rules) (search rules))
