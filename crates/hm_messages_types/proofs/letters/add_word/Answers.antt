use Rattle.std.proofs.Common.{rules, ◌≡◌, ◌++◌, List, ℕ, All, inr, refl}
use Rattle.hm_messages_types.specs.Lettered.{letter_of}
use Rattle.hm_messages_types.specs.declared.letters.Letter.{Letter}
use Rattle.hm_messages_types.proofs.Differing.{no_letter}
use Rattle.hm_messages_types.proofs.letters.add_word.Goals as goal

-- another word as it is
pub returns : goal.returns
returns c =
    let letters : List Letter = c.args.letters.now in
    let word : List ℕ = c.first_word.result.word.now in
    let untexted : All (λ (l : Letter). ¬ ((letter_of l).text ≡ word)) letters = search rules in
    let unnamed : All (λ (l : Letter). ¬ ((letter_of l).name ≡ word)) letters = c.has_name.ensures c.if-has_name.false in
    let added : c.extend_from_slice-2.new.self.items ≡ c.args.shown.now.items ++ word = search rules in
    (record { name = word; text = word }, inr (refl, c.first_word.ensures.one, no_letter letters word untexted unnamed), c.first_word.ensures.parts, added, c.first_word.ensures.whole)
