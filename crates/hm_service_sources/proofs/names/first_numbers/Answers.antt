use Rattle.std.proofs.Common.{◌≡◌, ℕ, List, Some, None, sym, ◌∙◌, bytes_eq, rules}
use Rattle.std.proofs.lemmas.Map.Text.{hash_map_updates_str}
use Rattle.std.specs.Map.{update}
use Rattle.hm_graph.specs.Imports.{name_at}
use Rattle.hm_graph.specs.Numbering.{number_of}
use Rattle.hm_graph.proofs.Numberings.{some_of, none_of}
use Rattle.hm_service_sources.specs.LeftOut.{outlines_of}
use Rattle.hm_service_sources.proofs.Firsts.{name_is, firsts_insert, firsts_old}
use Rattle.hm_service_sources.proofs.names.first_numbers.Goals as goal
use Rattle.hm_service_sources.proofs.names.first_numbers.Goals.{then-not-contains_key+in_ok-insert, else-not-contains_key}

pub modules-preserved : goal.modules-preserved
modules-preserved c =
    let modules = outlines_of c.args.located.now in
    let n = c.modules.number in
    let name = c.as_str-name.result.now in
    let is : name_at modules n ≡ name = name_is c.args.located.now n c.index-located-number.result c.modules-test.true ∙ sym c.as_str-name.ensures in
    elim c.if-not-contains_key.branch [
      | then-not-contains_key+in_ok-insert w ↦
          let absent : number_of c.modules.numbers name ≡ None = none_of (number_of c.modules.numbers name) (search rules) in
          let updated : (q : List ℕ) → number_of w.insert.new.self q ≡ update bytes_eq (number_of c.modules.numbers) name (Some n) q = hash_map_updates_str name c.modules.numbers w.insert.new.self (Some n) w.in_ok-insert.ensures.updates in
          rw w.numbers-is (firsts_insert modules n name c.modules.numbers w.insert.new.self is c.modules.invariant absent updated)
      | else-not-contains_key w ↦
          let found = some_of (number_of c.modules.numbers name) (search rules) in
          rw w.numbers-is (firsts_old modules n found.0 c.modules.numbers (rw is found.1) c.modules.invariant)
    ]
