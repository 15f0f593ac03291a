use Rattle.std.proofs.Common.{rules, ◌≡◌, ◌+◌, ◌<◌, ◌++◌, ◌∷◌, [], suc, Some, length, map, take, slice_index_or, ap, sym, ◌∙◌, arith}
use Rattle.std.proofs.Math.Seq.{take-suc}
use Rattle.std.proofs.lemmas.List.{map-append}
use Rattle.std.specs.Arc.{arc_value}
use Rattle.hm_store_published.specs.Publications.{interface_in}
use Rattle.hm_store_published.proofs.Beginnings.{begins_through}
use Rattle.hm_store_shared.specs.Passes.{seen_of}
use Rattle.hm_store_shared.proofs.Listing.{same_if_published, still_published}
use Rattle.hm_store_shared.proofs.passes.Pass.look_at_all.Goals as goal

pub look_at_seen-requires-clause-published : goal.look_at_seen-requires-clause-published
look_at_seen-requires-clause-published g c =
    let i = c.loop-number.number-index in
    let lt : i < length c.args.numbers.now = search rules in
    still_published (seen_of c.args.self.now) (seen_of c.loop-number.self) (slice_index_or c.args.numbers.now i 0) (c.requires.published i 0 lt) c.loop-number.invariant.seen

pub loop-number-preserved : goal.loop-number-preserved
loop-number-preserved g c =
    let i = c.loop-number.number-index in
    let numbers = c.args.numbers.now in
    let n = slice_index_or numbers i 0 in
    let inv = c.loop-number.invariant in
    let before = seen_of c.args.self.now in
    let x = arc_value c.in_ok-interface.interface in
    let lt : i < length numbers = search rules in
    let one : interface_in before n ≡ Some x = same_if_published before (seen_of c.loop-number.self) n x (c.requires.published i 0 lt) inv.seen (sym c.in_ok-interface.ensures.reply) in
    let next : i + 1 ≡ suc i = omega arith in
    let more : map (interface_in before) (take (i + 1) numbers) ≡ map (interface_in before) (take i numbers) ++ interface_in before n ∷ [] = ap (λ k. map (interface_in before) (take k numbers)) next ∙ (ap (map (interface_in before)) (take-suc numbers i 0 lt) ∙ map-append (interface_in before) (take i numbers) (n ∷ [])) in
    record {
      seen = begins_through before (seen_of c.loop-number.self) (seen_of c.look_at_seen.new.self) inv.seen c.look_at_seen.ensures.list;
      reply = rw c.in-Ok.ensures.items (map-append (λ j. Some (arc_value j)) c.loop-number.interfaces.items (c.in_ok-interface.interface ∷ []) ∙ (ap (λ w. w ++ Some x ∷ []) inv.reply ∙ (ap (λ y. map (interface_in before) (take i numbers) ++ y ∷ []) (sym one) ∙ sym more)));
      known = c.look_at_seen.ensures.known ∙ inv.known;
      worker = c.look_at_seen.ensures.worker ∙ inv.worker;
      room = omega (arith, c.in_ok-interface.ensures.room, inv.room);
    }
