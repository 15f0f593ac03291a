use Rattle.std.proofs.Common.{rules, ◌≡◌, [], ◌∷◌, map}
use Rattle.hm_messages_details.specs.Parts.{part_of}
use Rattle.hm_messages_details.specs.Scopes.{IsUseWithin, Occurs, open_in}
use Rattle.hm_messages_details.proofs.InScopes.{near_found}
use Rattle.hm_messages_details.proofs.locals.near_local.Goals as goal

pub returns-in_ok-near_within-in-Some-2 : goal.returns-in_ok-near_within-in-Some-2
returns-in_ok-near_within-in-Some-2 c =
    let f = c.args.fault.now in
    let row = c.args.parts.now in
    let declared = c.in-Some.declared.now in
    let scopes = c.in-Some-2.scopes.items in
    let whole : row ≡ c.in-Some.field-0-0.now ∷ declared = search rules in
    let occurs : Occurs (IsUseWithin f (open_in scopes)) [] (map part_of declared) = search rules in
    let near = rw c.as_slice.ensures.value at c.in_ok-near_within-in-Some-2.ensures in
    near_found f row declared scopes c.in-Some.field-0-0.now whole occurs c.in_ok-near_within-in-Some-2.field-0 near
