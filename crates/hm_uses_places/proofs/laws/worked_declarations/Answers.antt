use Rattle.std.proofs.Common.{◌≡◌, ℕ, zero, suc, ◌<◌, All, length, take, get_or, codes, refl, arith}
use Rattle.hm_names.specs.Entities.{named}
use Rattle.hm_uses.specs.Uses.{UseOf}
use Rattle.hm_uses.specs.declared.name_kind.NameKind.TheVariants.{Variable}
use Rattle.hm_uses_places.specs.Declarations.{Declares}
use Rattle.hm_uses_places.specs.Worked.{clause_at, clauses}
use Rattle.hm_uses_places.proofs.laws.worked_declarations.Goals as goal

declares_f : (c : ℕ) → Declares Variable (named (codes "A") (codes "f")) (clause_at c)
declares_f c = record { binds = refl; of_kind = refl; means = refl }

not_second : (n : ℕ) → n < length clauses → All (λ u. ¬ (Declares Variable (named (codes "A") (codes "f")) u)) (take n clauses) → ((d : UseOf) → 28 ≡ (get_or clauses n d).mention.name.column) → ⊥
not_second zero within none column = let z : 28 ≡ 18 = column (clause_at 18) in absurd (omega (arith, z))
not_second (suc n) within none column = none 0 (clause_at 18) (omega arith) (declares_f 18)

pub returns : goal.returns
returns c = record {
  first = record { number = 0; inside = omega arith; declares = λ d. declares_f 18; none_before = λ k d l. absurd (omega (arith, l)); line = λ d. refl; column = λ d. refl };
  not_second = λ h. not_second h.number h.inside h.none_before h.column;
}
