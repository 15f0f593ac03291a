use Rattle.std.proofs.Common.{◌≡◌, ◌+◌, sym, ◌∙◌, ap, subst, refl, false}
use Rattle.std.specs.Prelude.{is_some, if◌then◌else◌}
use Rattle.std.specs.HashMap.{hash_map_len}
use Rattle.hm_types.specs.Types.{Var as leaf}
use Rattle.hm_types.specs.Monotypes.{var}
use Rattle.hm_types.specs.Numbers.{Numbers}
use Rattle.hm_types.specs.Schemes.{variables_after}
use Rattle.hm_types.proofs.Table.{seen_first}
use Rattle.hm_unify.proofs.Outer.{seen_among}
use Rattle.hm_unify.proofs.deeper.see.Goals as goal

pub returns-then-contains_key-clause-numbers : goal.returns-then-contains_key-clause-numbers
returns-then-contains_key-clause-numbers c =
    let here = sym (seen_among _ _ c.args.number c.requires) ∙ sym c.contains_key.ensures ∙ c.if-contains_key.true in
    rw (c.if-is_outer.false, here) refl

pub returns-clause-numbers : goal.returns-clause-numbers
returns-clause-numbers c =
    let there = sym (seen_among _ _ c.args.number c.requires) ∙ sym c.contains_key.ensures ∙ c.if-contains_key.false in
    rw (c.if-is_outer.false, there) c.in_ok-push.ensures.items

pub returns-clause-placed : goal.returns-clause-placed
returns-clause-placed c =
    let absent = sym c.contains_key.ensures ∙ c.if-contains_key.false in
    let there = sym (seen_among _ _ c.args.number c.requires) ∙ absent in
    let new : is_some c.in_ok-insert.field-0 ≡ false = ap is_some c.in_ok-insert.ensures.old ∙ absent in
    let more : variables_after c.args.seen.now.numbers.items (leaf (var c.args.number)) ≡ c.push.new.self.items = rw there (sym c.in_ok-push.ensures.items) in
    subst (Numbers c.insert.new.self) more
    (seen_first c.args.seen.now.places c.insert.new.self c.args.seen.now.numbers.items c.args.number c.len-place.result c.requires absent c.len-place.ensures.len c.in_ok-insert.ensures.updates
    (c.in_ok-insert.ensures.len ∙ ap (λ b. hash_map_len c.args.seen.now.places + (if b then 0 else 1)) new))
