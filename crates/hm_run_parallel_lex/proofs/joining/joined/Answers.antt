use Rattle.std.proofs.Common.{◌≡◌, true, rules}
use Rattle.hm_run_tokens.proofs.Joins.{parts_join_after}
use Rattle.hm_run_parallel_lex.proofs.joining.joined.Goals as goal

pub returns-in-Ok : goal.returns-in-Ok
returns-in-Ok c = λ before text rest line short f l.
    let one = rw c.in-Some.is at f in
    let two = rw c.in-Some-later.is at l in
    let closed : c.in-Some.field-0.is_closed ≡ true = search rules in
    rw c.in-Ok.ensures.items (parts_join_after before text rest _ _ line (one.1 closed) short one.0 two)
