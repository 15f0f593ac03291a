-- Patterns that bind the variable of a signature.
use Rattle.std.proofs.Common.{◌≡◌, ℕ, zero, suc, ◌<◌, List, [], ◌∷◌, arith, get_or, inl, inr, length, subst}
use Rattle.std.specs.Prelude.{Contains}
use Rattle.hm_syntax.specs.Names.{Identifier}
use Rattle.hm_syntax.specs.Lists.{declarations}
use Rattle.hm_syntax.specs.Trees.{Declaration, Declarations}
use Rattle.hm_names.specs.Faults.Lists.{signed_names}
use Rattle.hm_names.specs.declared.faults.Fault.{Fault}
use Rattle.hm_messages_details.specs.Firsts.{IsAt}
use Rattle.hm_messages_details.specs.PatternBindings.{HasPatternOf, IsPatternBound, IsPatternOf}

-- a declaration of a row, by its index
pub has_at : (x : List ℕ) (ds : List Declaration) (i : ℕ) (d : Declaration) → i < length ds → d ≡ get_or ds i d → IsPatternOf x d → HasPatternOf x (declarations ds)
has_at x [] i d within is of = absurd (omega (arith, within))
has_at x (e ∷ ds) zero d within is of = inl (subst (IsPatternOf x) is of)
has_at x (e ∷ ds) (suc i) d within is of = inr (has_at x ds i d (omega (arith, within)) is of)

-- the names of a list's signatures, by an equation
pub bound_by : (ds : Declarations) (f : Fault) (signed : List Identifier) (name : List ℕ) → signed ≡ signed_names ds → name ≡ f.name
    → (n : Identifier) × Contains signed n × IsAt f n → HasPatternOf name ds → IsPatternBound ds f
bound_by ds f signed name signed_is name_is at found = record {
  signed = at.0;
  among = subst (λ l. Contains l at.0) signed_is at.1;
  at_signed = at.2;
  bound = subst (λ y. HasPatternOf y ds) name_is found;
}
