use Rattle.std.proofs.Common.{◌≤◌, ap, subst, arith, length, List}
use mathlib.Core.List.{IsPrefix}
use Rattle.hm_store_published.specs.declared.publication.Publication.{Publication}
use Rattle.hm_store_published.proofs.Beginnings.{shorter_begins}
use Rattle.hm_store_published.proofs.history.Front.longer.Goals as goal

pub returns-then-self-that-clause-begun : goal.returns-then-self-that-clause-begun
returns-then-self-that-clause-begun g c =
    let both = c.learn.new.self.log in
    let this : IsPrefix c.self.inside.seen.log both = subst (λ (l : List Publication). IsPrefix l both) (ap (λ s. s.log) c.again-both.ensures) c.learn.ensures.2 in
    let less : length c.self.inside.seen.log ≤ length c.that.inside.seen.log = omega (arith, c.self.invariant.0, c.that.invariant.0) in
    rw (c.again.ensures, ← c.self.view_is, ← c.that.view_is) (shorter_begins c.self.inside.seen.log c.that.inside.seen.log both this c.learn.ensures.3 less)

pub returns-clause-begun_by : goal.returns-clause-begun_by
returns-clause-begun_by g c =
    let both = c.learn.new.self.log in
    let this : IsPrefix c.self.inside.seen.log both = subst (λ (l : List Publication). IsPrefix l both) (ap (λ s. s.log) c.again-both.ensures) c.learn.ensures.2 in
    let less : length c.that.inside.seen.log ≤ length c.self.inside.seen.log = omega (arith, c.self.invariant.0, c.that.invariant.0) in
    rw (c.again-else-self-that.ensures, ← c.self.view_is, ← c.that.view_is) (shorter_begins c.that.inside.seen.log c.self.inside.seen.log both c.learn.ensures.3 this less)
