use Rattle.std.proofs.Common.{rules, ◌≡◌, ◌++◌, ◌∷◌, List, [], All}
use Rattle.hm_messages_types.specs.Lettered.{letter_of}
use Rattle.hm_messages_types.specs.declared.letters.Letter.{Letter}
use Rattle.hm_messages_types.proofs.Differing.{apart_more}
use Rattle.hm_messages_types.proofs.letters.add_letter.Goals as goal

pub returns : goal.returns
returns c = λ apart.
    let before : List Letter = c.args.letters.now.items in
    let letter : Letter = record { name = c.args.name; text = c.args.text } in
    let unnamed : All (λ (l : Letter). ¬ ((letter_of l).name ≡ c.args.name.now)) before = search rules in
    let untexted : All (λ (l : Letter). ¬ ((letter_of l).text ≡ c.args.text.now)) before = search rules in
    let pushed : c.push.new.self.items ≡ before ++ letter ∷ [] = search rules in
    apart_more before letter c.push.new.self.items unnamed untexted pushed apart
