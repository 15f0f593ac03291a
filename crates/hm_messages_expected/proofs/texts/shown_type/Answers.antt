use Rattle.std.proofs.Common.{rules, ◌≡◌, List, ℕ, string_bytes, inl, inr, refl}
use Rattle.hm_messages_types.specs.Letters.{HaveLetters}
use Rattle.hm_messages_expected.proofs.texts.shown_type.Goals as goal

pub returns-in-Some-2 : goal.returns-in-Some-2
returns-in-Some-2 c =
    let typed = c.args.typed in
    let here = string_bytes typed.here in
    let lettered = c.in-Some-2.lettered in
    let have : HaveLetters c.args.lexed.now.source.now (string_bytes typed.definition) (string_bytes typed.own) here here (string_bytes lettered.expected) (string_bytes lettered.actual) = search rules in
    inr (string_bytes lettered.actual, have)

pub returns : goal.returns
returns c = inl refl
