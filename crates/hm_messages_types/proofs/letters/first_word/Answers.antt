use Rattle.std.proofs.Common.{rules, ◌≡◌, ◌∙◌, ◌++◌, ◌&&◌, ℕ, List, ap₂, drop, false, length, max, min, subst, sym, take, take-append-drop}
use Rattle.std.specs.List.{prefix_len}
use Rattle.hm_lex.specs.Bytes.{is_name_byte}
use Rattle.hm_messages_types.specs.Letters.{IsOneWord}
use Rattle.hm_messages_types.specs.Shown.{ends_name, starts_name}
use Rattle.hm_messages_types.proofs.Folding.{word_ends, word_is_one}
use Rattle.hm_messages_types.proofs.letters.first_word.Goals as goal

pub returns-clause-parts : goal.returns-clause-parts
returns-clause-parts c =
    let text = c.args.text.now in
    let n = c.min-len.result in
    let front : take n text ≡ c.split_at.result.0.now = search rules in
    let back : drop n text ≡ c.split_at.result.1.now = search rules in
    sym (take-append-drop n text) ∙ ap₂ (λ (l r : List ℕ). l ++ r) front back

pub returns-clause-one : goal.returns-clause-one
returns-clause-one c =
    let text = c.args.text.now in
    let n = c.min-len.result in
    let len : n ≡ min (max (prefix_len is_name_byte text) 1) (length text) = search rules in
    let front : take n text ≡ c.split_at.result.0.now = search rules in
    subst IsOneWord front (word_is_one text n len)

pub returns-clause-whole : goal.returns-clause-whole
returns-clause-whole c =
    let text = c.args.text.now in
    let n = c.min-len.result in
    let len : n ≡ min (max (prefix_len is_name_byte text) 1) (length text) = search rules in
    let front : take n text ≡ c.split_at.result.0.now = search rules in
    let back : drop n text ≡ c.split_at.result.1.now = search rules in
    subst (λ (l : List ℕ). (ends_name c.split_at.result.0.now && starts_name l) ≡ false) back (subst (λ (l : List ℕ). (ends_name l && starts_name (drop n text)) ≡ false) front (word_ends text n len))
