-- The right sides of type synonyms (Haskell 98 Report, section 4.2.2).
use Rattle.std.specs.Prelude.{◌≡◌, ℕ, ◌<◌, true, refl}
use Rattle.std.specs.Coded.{Coded, code_by, coded×, coded_ℕ}
use Rattle.hm_types.specs.Monotypes.{Mono}
use Rattle.hm_types.specs.Codes.{coded_mono}
use Rattle.hm_types.specs.Substitution.{occurs}
use Rattle.hm_types.specs.Schemes.{HasArities, HasNoRigid}

-- a type over this many parameters: parameter number i is variable i
pub record TypeSynonym : Type 0 where
  pub parameters : ℕ
  pub body : Mono

abbrev pub coded_synonym : Coded TypeSynonym
coded_synonym = code_by (ℕ × Mono) (coded× coded_ℕ coded_mono) (λ s. (s.parameters, s.body)) (λ p. record { parameters = p.0; body = p.1 }) (λ _. refl)

-- each variable is a parameter, and none is rigid. A parameter need not occur
pub record IsSynonym (s : TypeSynonym) : Type 0 where
  pub closed : (n : ℕ) → occurs n s.body ≡ true → n < s.parameters
  pub not_rigid : HasNoRigid s.body
  pub arities : HasArities s.body
