use Rattle.std.proofs.Common.{[], ◌+◌, drop, inl, map, refl, subst, sym}
use Rattle.hm_messages_details.specs.Parts.{part_of}
use Rattle.hm_messages_details.specs.Scopes.{IsUseWithin, Reaches, further, open_in, start}
use Rattle.hm_messages_details.proofs.InScopes.{among, stepped}
use Rattle.hm_messages_details.proofs.locals.scopes_around.Goals as goal

pub parts-init : goal.parts-init
parts-init c = let parts = map part_of c.args.parts.now in subst (λ l. Reaches [] parts (open_in l) parts) (sym c.new-scopes.ensures.items) start

pub returns-then-is_use : goal.returns-then-is_use
returns-then-is_use c =
    let around = open_in c.parts.scopes.items in
    among (IsUseWithin c.args.fault.now around) [] (map part_of c.args.parts.now) around _
    (stepped c.args.parts.now c.parts.part-index c.part-item.result [] around (map part_of c.args.parts.now) c.parts-test.true c.part-item.is c.parts.invariant) (inl (refl, c.is_use.ensures c.if-is_use.true))

pub parts-preserved : goal.parts-preserved
parts-preserved c =
    let parts = map part_of c.args.parts.now in
    subst (λ ss. Reaches [] parts ss (map part_of (drop (c.parts.part-index + 1) c.args.parts.now))) (sym c.in_ok-pass.ensures)
    (further (stepped c.args.parts.now c.parts.part-index c.part-item.result [] (open_in c.parts.scopes.items) parts c.parts-test.true c.part-item.is c.parts.invariant))
