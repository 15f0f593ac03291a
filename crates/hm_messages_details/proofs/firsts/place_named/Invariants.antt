use Rattle.std.proofs.Common.{◌≡◌, drop, map}
use Rattle.hm_messages_details.specs.Firsts.{first_named}
use Rattle.hm_messages_details.proofs.firsts.place_named.Given as goal

abbrev pub invariant-names : goal.invariant-names
invariant-names l = first_named l.text (map (λ n. n.now) (drop l.name-index l.names)) ≡ first_named l.text (map (λ n. n.now) l.names)
