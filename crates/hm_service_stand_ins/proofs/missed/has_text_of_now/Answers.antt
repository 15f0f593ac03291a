use Rattle.std.proofs.Common.{◌≡◌, ◌∙◌, Some, ap, sym}
use Rattle.std.specs.Prelude.{option_map}
use Rattle.hm_service_stand_ins.specs.Missed.{text_at}
use Rattle.hm_service_stand_ins.proofs.Growing.{one_text}
use Rattle.hm_service_stand_ins.proofs.missed.has_text_of_now.Goals as goal

pub returns-clause-yes : goal.returns-clause-yes
returns-clause-yes c = λ t.
    let own : text_at c.args.held.now c.args.number ≡ Some c.in-Some.own.now = sym c.text_at.ensures ∙ ap (option_map (λ b. b.now)) c.in-Some.is in
    let other : text_at c.args.set.now c.args.number ≡ Some c.in-Some-text_at.other.now = sym c.text_at-2.ensures ∙ ap (option_map (λ b. b.now)) c.in-Some-text_at.is in
    (c.in-Some.own.now, (own, other ∙ ap Some (sym (c.is_same.ensures.yes t))))

pub returns-clause-no : goal.returns-clause-no
returns-clause-no c = λ apart h.
    let own : text_at c.args.held.now c.args.number ≡ Some c.in-Some.own.now = sym c.text_at.ensures ∙ ap (option_map (λ b. b.now)) c.in-Some.is in
    let other : text_at c.args.set.now c.args.number ≡ Some c.in-Some-text_at.other.now = sym c.text_at-2.ensures ∙ ap (option_map (λ b. b.now)) c.in-Some-text_at.is in
    let one = one_text (text_at c.args.held.now c.args.number) c.in-Some.own.now h.0 own h.1.0 in
    let two = one_text (text_at c.args.set.now c.args.number) c.in-Some-text_at.other.now h.0 other h.1.1 in
    c.is_same.ensures.no apart (one ∙ sym two)
