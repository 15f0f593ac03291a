use Rattle.std.proofs.Common.{rules, ◌≡◌, ◌∙◌, ◌++◌, List, ℕ, Some, ap, false, get_or, inl, inr, refl, string_bytes}
use Rattle.std.proofs.lemmas.Bool.Decides.{Decides-eqb}
use Rattle.std.proofs.lemmas.Slice.Eq.{strip_prefix_is}
use Rattle.hm_messages_types.specs.Aliases.{alias_of}
use Rattle.hm_messages_types.specs.Shown.{ends_name, starts_name}
use Rattle.hm_messages_types.proofs.Folding.{alias_there, and_no}
use Rattle.hm_messages_types.proofs.shown.add_piece.Goals as goal

-- a name in place of its type
pub returns-then-not-starts_name : goal.returns-then-not-starts_name
returns-then-not-starts_name c =
    let alias = c.index-aliases-number.result in
    let number = c.in-Some.number in
    let rest = c.in-Some-strip_prefix.rest in
    let front = c.as_bytes.result.now in
    let begins : c.args.text.now ≡ front ++ rest.now = strip_prefix_is Decides-eqb c.args.text.now front (Some rest) c.in-Some-strip_prefix.ensures.cases in
    let own : front ≡ string_bytes alias.text = search rules in
    let is : alias ≡ get_or c.args.aliases.now number alias = search rules in
    let ends : starts_name rest.now ≡ false = search rules in (
      alias_of alias,
      inr (alias_there c.args.aliases.now number alias (search rules) is),
      begins ∙ ap (λ (l : List ℕ). l ++ rest.now) own,
      search rules,
      and_no (ends_name (string_bytes alias.text)) (starts_name rest.now) ends,
    )

-- a word as it is
pub returns : goal.returns
returns c =
    let added = c.in_ok-add_word.ensures in
    (record { name = added.0; text = added.0 }, inl refl, added.1, added.2, added.3)
