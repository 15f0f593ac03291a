use Rattle.std.proofs.Common.{rules, ◌≡◌}
use Rattle.hm_types.specs.Monotypes.{Mono}
use Rattle.hm_types.specs.Schemes.{IsScheme}
use Rattle.hm_types.specs.Shape.{type_of}
use Rattle.hm_messages_trials.specs.PartTypes.{from_three}
use Rattle.hm_messages_trials.proofs.Given.{actual_given, expected_given}
use Rattle.hm_messages_trials.proofs.part_typing.may_have.Goals as goal

pub are_apart-requires-clause-left : goal.are_apart-requires-clause-left
are_apart-requires-clause-left c =
    let scheme = c.args.scheme.now in
    let own : Mono = type_of c.args.taken.now.own.now in
    let expected : Mono = type_of c.args.taken.now.expected.now in
    let actual : Mono = type_of c.args.taken.now.actual.now in
    let three : scheme.body ≡ from_three own expected actual = search rules in
    let valid : IsScheme scheme = search rules in
    let many : c.vars.result ≡ scheme.vars = search rules in
    expected_given scheme c.vars.result own expected actual valid three many

pub are_apart-requires-clause-right : goal.are_apart-requires-clause-right
are_apart-requires-clause-right c =
    let scheme = c.args.scheme.now in
    let own : Mono = type_of c.args.taken.now.own.now in
    let expected : Mono = type_of c.args.taken.now.expected.now in
    let actual : Mono = type_of c.args.taken.now.actual.now in
    let three : scheme.body ≡ from_three own expected actual = search rules in
    let valid : IsScheme scheme = search rules in
    let many : c.vars.result ≡ scheme.vars = search rules in
    actual_given scheme c.vars.result own expected actual valid three many
