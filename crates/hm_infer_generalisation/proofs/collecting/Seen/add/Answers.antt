use Rattle.std.proofs.Common.{◌≡◌, ◌-◌, ◌∙◌, length, ap, sym, subst, arith, vec_len}
use Rattle.std.specs.Prelude.{nat_eq}
use Rattle.std.specs.Map.{lookup}
use Rattle.hm_types.specs.Schemes.{place}
use Rattle.hm_infer_generalisation.specs.Places.{with_number}
use Rattle.hm_infer_generalisation.proofs.Placed.{but_last, few_kept, one_noted, noted_same, not_added, is_added}
use Rattle.hm_infer_generalisation.proofs.collecting.Seen.add.Goals as goal

pub returns-then-place_in-count : goal.returns-then-place_in-count
returns-then-place_in-count c =
    let at : c.place_in.result ≡ place c.args.n c.self.inside.numbers.items = (rw c.deref.ensures.value at c.place_in.ensures) c.self.invariant in
    subst (λ xs. xs ≡ with_number c.args.n xs) c.self.view_is
    (not_added c.args.n c.place_in.result c.len-count.result c.self.inside.numbers.items at c.if-place_in-count.true (omega (arith, c.len-count.ensures, c.self.inside.numbers.ok.0)))

pub invariant_of-self-then-count-lt-FEW : goal.invariant_of-self-then-count-lt-FEW
invariant_of-self-then-count-lt-FEW c =
    few_kept c.self.inside.numbers.items c.push.new.self.items c.args.n c.self.inside.places c.self.invariant c.in_ok-push.ensures.items
    (omega (arith, c.if-count-lt-FEW.true, c.len-count.ensures, c.self.inside.numbers.ok.0))

pub returns-then-count-lt-FEW : goal.returns-then-count-lt-FEW
returns-then-count-lt-FEW c =
    let at : c.place_in.result ≡ place c.args.n c.self.inside.numbers.items = (rw c.deref.ensures.value at c.place_in.ensures) c.self.invariant in
    subst (λ xs. c.push.new.self.items ≡ with_number c.args.n xs) c.self.view_is
    (is_added c.args.n c.place_in.result c.len-count.result c.self.inside.numbers.items c.push.new.self.items at c.if-place_in-count.false (omega (arith, c.len-count.ensures, c.self.inside.numbers.ok.0)) c.in_ok-push.ensures.items)

pub invariant_of-self-in-Ok : goal.invariant_of-self-in-Ok
invariant_of-self-in-Ok c =
    let at : c.place_in.result ≡ place c.args.n c.self.inside.numbers.items = (rw c.deref.ensures.value at c.place_in.ensures) c.self.invariant in
    let count : c.len-count.result ≡ length c.self.inside.numbers.items = omega (arith, c.len-count.ensures, c.self.inside.numbers.ok.0) in
    one_noted c.self.inside.numbers.items c.push.new.self.items c.args.n c.place_in.result c.len-count.result c.self.inside.places c.insert.new.self c.self.invariant at c.if-place_in-count.false count c.in_ok-push.ensures.items
    (omega (arith, c.if-count-lt-FEW.false, count)) c.in-Ok.ensures.updates

pub returns-in-Ok : goal.returns-in-Ok
returns-in-Ok c =
    let at : c.place_in.result ≡ place c.args.n c.self.inside.numbers.items = (rw c.deref.ensures.value at c.place_in.ensures) c.self.invariant in
    subst (λ xs. c.push.new.self.items ≡ with_number c.args.n xs) c.self.view_is
    (is_added c.args.n c.place_in.result c.len-count.result c.self.inside.numbers.items c.push.new.self.items at c.if-place_in-count.false (omega (arith, c.len-count.ensures, c.self.inside.numbers.ok.0)) c.in_ok-push.ensures.items)

pub invariant_of-self-in-Err : goal.invariant_of-self-in-Err
invariant_of-self-in-Err c =
    let long : vec_len c.push.new.self - 1 ≡ length c.self.inside.numbers.items = omega (arith, c.in_ok-push.ensures.len, c.self.inside.numbers.ok.0) in
    noted_same c.self.inside.numbers.items c.pop.new.self.items c.self.inside.places c.insert.new.self c.self.invariant
    (sym (c.pop.ensures.rest ∙ but_last c.self.inside.numbers.items c.push.new.self.items c.args.n (vec_len c.push.new.self - 1) long c.in_ok-push.ensures.items))
    (λ q. ap (lookup (nat_eq q)) c.in-Err.ensures.err)
