use Rattle.std.proofs.Common.{◌≡◌, ◌≢◌, Some, None, length, sym, rules}
use Rattle.std.proofs.lemmas.Bool.{both_ways}
use Rattle.hm_graph.specs.Imports.{prelude}
use Rattle.hm_graph.specs.Numbering.{number_of}
use Rattle.hm_service_sources.specs.LeftOut.{outlines_of}
use Rattle.hm_service_sources.proofs.Firsts.{found_first, none_taken}
use Rattle.hm_service_sources.proofs.imports.target_of.Goals as goal

pub returns-in-Some-clause-some : goal.returns-in-Some-clause-some
returns-in-Some-clause-some c =
    let found : number_of c.args.numbers.now c.args.name.now ≡ Some c.in-Some.number.now = sym c.in-Some.ensures.value in
    let other : c.args.name.now ≢ prelude = λ same. both_ways c.is_prelude.result c.if-is_prelude.false (c.is_prelude.ensures.1 same) in
    found_first (outlines_of c.args.located.now) (length c.args.located.now) c.args.numbers.now c.requires c.args.name.now c.in-Some.number.now other found

pub returns-in-None-clause-none : goal.returns-in-None-clause-none
returns-in-None-clause-none c =
    let absent : number_of c.args.numbers.now c.args.name.now ≡ None = sym c.in-None.ensures.value in
    none_taken (outlines_of c.args.located.now) (length c.args.located.now) c.args.numbers.now c.requires c.args.name.now absent
