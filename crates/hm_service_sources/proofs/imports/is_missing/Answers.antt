use Rattle.std.proofs.Common.{◌≡◌, ◌≢◌, Some, None, length, sym, rules}
use Rattle.std.proofs.lemmas.Bool.{both_ways}
use Rattle.hm_graph.specs.Imports.{prelude}
use Rattle.hm_graph.specs.Numbering.{number_of}
use Rattle.hm_service_sources.specs.LeftOut.{outlines_of}
use Rattle.hm_service_sources.proofs.Firsts.{absent_missing, found_not_missing}
use Rattle.hm_service_sources.proofs.imports.is_missing.Goals as goal

pub returns-in-Some : goal.returns-in-Some
returns-in-Some c =
    let found : number_of c.args.numbers.now c.args.name.now ≡ Some c.in-Some.field-0.now = sym c.in-Some.ensures.value in
    found_not_missing (outlines_of c.args.located.now) (length c.args.located.now) c.args.numbers.now c.requires c.args.name.now c.in-Some.field-0.now found

pub returns-in-None : goal.returns-in-None
returns-in-None c =
    let absent : number_of c.args.numbers.now c.args.name.now ≡ None = sym c.in-None.ensures.value in
    let other : c.args.name.now ≢ prelude = λ same. both_ways c.is_prelude.result c.if-is_prelude.false (c.is_prelude.ensures.1 same) in
    absent_missing (outlines_of c.args.located.now) (length c.args.located.now) c.args.numbers.now c.requires c.args.name.now other absent
