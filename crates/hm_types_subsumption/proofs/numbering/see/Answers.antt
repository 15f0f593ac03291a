use Rattle.std.proofs.Common.{◌≡◌, ◌+◌, sym, ◌∙◌, ap, false}
use Rattle.std.specs.Prelude.{is_some, if◌then◌else◌}
use Rattle.std.specs.HashMap.{hash_map_len}
use Rattle.hm_types.proofs.Table.{seen_already, seen_first}
use Rattle.hm_types_subsumption.proofs.numbering.see.Goals as goal

pub returns-then-contains_key : goal.returns-then-contains_key
returns-then-contains_key c = λ xs n. seen_already _ xs _ n (sym c.contains_key.ensures ∙ c.if-contains_key.true)

pub returns : goal.returns
returns c = λ xs n.
    let absent = sym c.contains_key.ensures ∙ c.if-contains_key.false in
    let new : is_some c.in_ok-insert.field-0 ≡ false = ap is_some c.in_ok-insert.ensures.old ∙ absent in
    seen_first c.args.places.now c.insert.new.self xs c.args.n c.len-next.result n absent c.len-next.ensures.len c.in_ok-insert.ensures.updates
    (c.in_ok-insert.ensures.len ∙ ap (λ b. hash_map_len c.args.places.now + (if b then 0 else 1)) new)
