-- Lexical faults, one more at the end.
use Rattle.std.proofs.Common.{◌≡◌, ℕ, List, [], ◌∷◌, ◌++◌, refl, subst, sym}
use Rattle.hm_lex.specs.Faults.{IsRefusal}
use Rattle.hm_lex.specs.declared.token.LexFault.TheVariants.{Lexeme}
use Rattle.hm_lex.specs.declared.token.Place.{Place}
use Rattle.hm_messages_lexemes.specs.Lexemes.{AreLaterLexemes, IsBlankedAt}

-- after these faults the source has become the other one, and the last fault is at a place of it
abbrev pub IsReached : List ℕ → Place → List Place → List ℕ → Place → Type 0
IsReached source place [] other last = (other ≡ source) × (last ≡ place)
IsReached source place (p ∷ ps) other last = (next : List ℕ) × IsBlankedAt source place next × IsRefusal next (Lexeme p) × IsReached next p ps other last

pub reached_more : (source : List ℕ) (place : Place) (ps : List Place) (other : List ℕ) (last : Place) (next : List ℕ) (p : Place) → IsReached source place ps other last
    → IsBlankedAt other last next → IsRefusal next (Lexeme p) → IsReached source place (ps ++ p ∷ []) next p
reached_more source place [] other last next p h blanked refused =
    (next, subst (λ (t : List ℕ). IsBlankedAt t place next) h.0 (subst (λ (q : Place). IsBlankedAt other q next) h.1 blanked), refused, (refl, refl))
reached_more source place (q ∷ qs) other last next p h blanked refused = (h.0, h.1, h.2, reached_more h.0 q qs other last next p h.3 blanked refused)

pub later_of : (source : List ℕ) (place : Place) (ps : List Place) (other : List ℕ) (last : Place) → IsReached source place ps other last → AreLaterLexemes source place ps
later_of source place [] other last h = tt
later_of source place (q ∷ qs) other last h = (h.0, h.1, h.2, later_of h.0 q qs other last h.3)
