use Rattle.std.proofs.Common.{rules, ◌≡◌, ◌∙◌, ℕ, ◌<◌, List, [], get_or, subst, sym}
use Rattle.std.specs.Borrow.{Bor}
use Rattle.std.proofs.lemmas.List.{get_or-map, length-map}
use Rattle.hm_messages_details.proofs.left_out.is_one_of.Goals as goal

pub returns-then-eq : goal.returns-then-eq
returns-then-eq c = λ is.
    let words = c.args.words.now in
    let at = c.loop-at.at in
    let low = c.loop-at-test.true in
    let none : Bor (List ℕ) = record { ref_ptr = (0, 0); now = [] } in
    let same : (get_or words at none).now ≡ c.args.text.now = search rules in
    (at, subst (λ n. at < n) (sym (length-map words (λ s. s.now))) low, get_or-map (λ (s : Bor (List ℕ)). s.now) words at none c.args.text.now low ∙ same)
