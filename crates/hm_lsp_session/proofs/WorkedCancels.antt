-- Worked examples of cancelled requests, by computing.
use Rattle.std.proofs.Common.{◌≡◌, ◌∙◌, ℕ, ℤ, Option, None, Some, ap, arith, codes, pos, refl, subst, sym}
use Rattle.serde_json.proofs.OnLiterals.{serde_json_on_literals}
use Rattle.serde_json.specs.Data.{number, string, unsigned}
use Rattle.serde_json.specs.Find.{pointer}
use Rattle.hm_lsp_session.specs.Cancelled.{IsOfId, IsSameId, number_of, numbers}
use Rattle.hm_lsp_session.specs.Worked.{CancelRow, cancel}
use Rattle.hm_lsp_session.proofs.Identifiers.{by_number}
use Rattle.hm_lsp_session.proofs.Taking.{one_message}

given : pointer (codes "/params/id") cancel ≡ Some (number (unsigned 7))
unfolding serde_json_on_literals
given = refl

seven : number_of (number (unsigned 7)) ≡ Some (pos 7)
seven = refl

eight : number_of (number (unsigned 8)) ≡ Some (pos 8)
eight = refl

natural : Option ℤ → ℕ
natural None = 0
natural (Some (pos n)) = n
natural (Some z) = 0

apart : Some (pos 8) ≡ Some (pos 7) → ⊥
unfolding natural
apart e = let z : 8 ≡ 7 = ap natural e in omega (arith, z)

not_other : IsOfId (number (unsigned 8)) cancel → ⊥
not_other (d, (at, same)) =
    let own : IsSameId (number (unsigned 7)) (number (unsigned 8)) = subst (λ x. IsSameId x (number (unsigned 8))) (one_message (pointer (codes "/params/id") cancel) d (number (unsigned 7)) at given) same in
    apart (sym eight ∙ by_number (number (unsigned 7)) (number (unsigned 8)) (pos 7) seven own)

nothing : (n : ℤ) → None ≡ Some n → ⊥
nothing n e = cc

pub worked_cancel : CancelRow
worked_cancel = record {
  own = (number (unsigned 7), (given, numbers {n = pos 7} seven seven));
  not_other = not_other;
  not_text = λ h. nothing (pos 7) (by_number (number (unsigned 7)) (string (codes "7")) (pos 7) seven h);
}
