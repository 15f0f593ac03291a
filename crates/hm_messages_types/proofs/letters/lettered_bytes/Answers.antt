use Rattle.std.proofs.Common.{rules, ◌≡◌, ◌++◌, ◌&&◌, false, length, map, subst}
use Rattle.std.specs.Prelude.{IfSome}
use Rattle.hm_messages_types.specs.Lettered.{letter_of}
use Rattle.hm_messages_types.specs.Letters.{IsWord}
use Rattle.hm_messages_types.specs.Shown.{NamedType, ends_name, starts_name}
use Rattle.hm_messages_types.proofs.Folding.{letters_ended, letters_grown}
use Rattle.hm_messages_types.proofs.letters.lettered_bytes.Goals as goal

pub loop-preserved : goal.loop-preserved
loop-preserved c =
    let letters = map letter_of c.args.letters.now in
    let added = subst (λ o. IfSome o (λ r. (p : NamedType) × IsWord letters p × (c.loop.rest.now ≡ p.text ++ r.now) × (c.add_word.new.shown.items ≡ c.loop.shown.items ++ p.name)
    × ((ends_name p.text && starts_name r.now) ≡ false))) c.in-Some.is c.in_ok-after.ensures in
    letters_grown letters c.args.text.now c.loop.rest.now c.in-Some.after.now c.loop.shown.items c.add_word.new.shown.items added.0 c.loop.invariant added.1 added.2 added.3 added.4

pub returns-then-is_empty : goal.returns-then-is_empty
returns-then-is_empty c =
    let nothing : length c.loop.rest.now ≡ 0 = search rules in
    letters_ended (map letter_of c.args.letters.now) c.args.text.now c.loop.rest.now c.loop.shown.items c.loop.invariant nothing
