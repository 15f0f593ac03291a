use Rattle.std.proofs.Common.{rules, ◌≡◌, ◌∙◌, ◌++◌, List, ℕ, string_bytes, append_assoc, sym, ap}
use Rattle.std.specs.Prelude.{codes}
use Rattle.hm_types_display.specs.Texts.{scheme_text_of}
use Rattle.hm_messages_trials.proofs.Found.{found_so}
use Rattle.hm_messages_trials.proofs.part_typing.last_text.Goals as goal

pub returns : goal.returns
returns c =
    let first = c.args.own.now in
    let second = c.args.expected.now in
    let end = codes ") -> ()" in
    let in_row : first ++ (codes ", " ++ (second ++ codes ", ")) ≡ first ++ codes ", " ++ second ++ codes ", "
    = sym (append_assoc (first ++ codes ", ") second (codes ", ") ∙ append_assoc first (codes ", ") (second ++ codes ", ")) in
    let written : string_bytes c.in_ok-front.front ≡ codes "(" ++ (first ++ (codes ", " ++ (second ++ codes ", "))) = search rules in
    let front : c.as_bytes-2.result.now ≡ codes "(" ++ first ++ codes ", " ++ second ++ codes ", " = c.as_bytes-2.ensures.value ∙ (written ∙ ap (λ (x : List ℕ). codes "(" ++ x) in_row) in
    let whole : c.as_bytes.result.now ≡ scheme_text_of c.args.scheme.now = search rules in
    found_so (λ t. c.as_bytes.result.now ≡ c.as_bytes-2.result.now ++ (string_bytes t ++ end))
    (λ t. scheme_text_of c.args.scheme.now ≡ (codes "(" ++ first ++ codes ", " ++ second ++ codes ", ") ++ (string_bytes t ++ end))
    c.in_ok-between.field-0
    (λ t parts. sym whole ∙ (parts ∙ ap (λ (x : List ℕ). x ++ (string_bytes t ++ end)) front))
    c.in_ok-between.ensures
