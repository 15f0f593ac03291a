use Rattle.std.proofs.Common.{rules, ◌≡◌, ◌<◌, ◌≤◌, All, length, subst}
use Rattle.std.proofs.lemmas.List.{take_all}
use Rattle.std.proofs.lemmas.List.Elements.{All-more}
use Rattle.hm_messages_types.specs.Lettered.{letter_of}
use Rattle.hm_messages_types.specs.declared.letters.Letter.{Letter}
use Rattle.hm_messages_types.proofs.letters.letter_for.Goals as goal

pub letters-preserved : goal.letters-preserved
letters-preserved c =
    let without = λ (l : Letter). ¬ ((letter_of l).text ≡ c.args.text.now) in
    let within : c.letters.at < length c.args.letters.now = search rules in
    All-more without c.args.letters.now c.letters.at _ within c.letters.invariant (c.has_text.ensures.hasnt c.if-has_text.false)

pub returns-clause-none : goal.returns-clause-none
returns-clause-none c =
    let without = λ (l : Letter). ¬ ((letter_of l).text ≡ c.args.text.now) in
    let all : length c.args.letters.now ≤ c.letters.at = search rules in
    subst (All without) (take_all c.letters.at c.args.letters.now all) c.letters.invariant
