use Rattle.std.proofs.Common.{rules, ◌≡◌, ◌<◌, ◌≤◌, All, length, subst}
use Rattle.std.proofs.lemmas.List.{take_all}
use Rattle.std.proofs.lemmas.List.Elements.{All-more}
use Rattle.hm_messages_types.specs.Lettered.{letter_of}
use Rattle.hm_messages_types.specs.declared.letters.Letter.{Letter}
use Rattle.hm_messages_types.proofs.letters.has_name.Goals as goal

pub letters-preserved : goal.letters-preserved
letters-preserved c =
    let without = λ (l : Letter). ¬ ((letter_of l).name ≡ c.args.name.now) in
    let within : c.letters.at < length c.args.letters.now = search rules in
    All-more without c.args.letters.now c.letters.at _ within c.letters.invariant (c.is_named.ensures c.if-is_named.false)

pub returns : goal.returns
returns c = λ e.
    let without = λ (l : Letter). ¬ ((letter_of l).name ≡ c.args.name.now) in
    let all : length c.args.letters.now ≤ c.letters.at = search rules in
    subst (All without) (take_all c.letters.at c.args.letters.now all) c.letters.invariant
