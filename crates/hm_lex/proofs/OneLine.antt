-- Lexemes with no line end, and the places after them.
use Rattle.std.proofs.Common.{◌≡◌, ℕ, ◌+◌, Bool, true, false, List, [], ◌∷◌, ◌++◌, length, refl, sym, ap, ◌∙◌, arith, append_assoc, add-zero}
use Rattle.std.specs.Prelude.{IsTrue}
use Rattle.std.specs.List.{AllByRecursion}
use Rattle.std.proofs.lemmas.List.{append-nil}
use Rattle.std.proofs.lemmas.Bool.{eqb-true, false≢true}
use Rattle.hm_lex.specs.declared.byte_class.ByteClass.{ByteClass}
use Rattle.hm_lex.specs.declared.byte_class.ByteClass.TheVariants.{White, Small, Capital, Special}
use Rattle.hm_lex.specs.declared.token.Kind.{Kind}
use Rattle.hm_lex.specs.declared.token.Kind.TheVariants as kind
use Rattle.hm_lex.specs.declared.token.Place.{Place}
use Rattle.hm_lex.specs.Bytes.{class_of, is_of_name, is_name_byte, is_symbol, is_symbol_class}
use Rattle.hm_lex.specs.Names.{IsNameFrom}
use Rattle.hm_lex.specs.Cut.{is_line_end, place_after}
use Rattle.hm_lex.specs.Scan.{has_one_line}
use Rattle.hm_lex.specs.Shapes.{HasKind}
use Rattle.hm_lex.proofs.Places.{place, place_same, step_inside, place_after_push}
use Rattle.hm_lex.proofs.OneShape.{all_of}

class_of_line_end : class_of 10 ≡ White
unfolding class_of
class_of_line_end = refl

-- a byte that passes a test of classes which white space fails is no line end
inside : (test : ByteClass → Bool) (b : ℕ) → test White ≡ false → test (class_of b) ≡ true → is_line_end b ≡ false
inside test b w t = go (is_line_end b) refl
  where
    go : (x : Bool) → is_line_end b ≡ x → is_line_end b ≡ false
    go true e = absurd (false≢true (sym w ∙ ap test (sym class_of_line_end ∙ ap class_of (sym (eqb-true b 10 e))) ∙ t))
    go false e = e

abbrev pub IsOneLine : List ℕ → Type 0
IsOneLine text = AllByRecursion (λ b. is_line_end b ≡ false) text

names_inside : (text : List ℕ) → AllByRecursion (λ b. IsTrue (is_name_byte b)) text → IsOneLine text
names_inside [] a = tt
names_inside (b ∷ bs) a = (inside is_of_name b refl a.0, names_inside bs a.1)

symbols_inside : (text : List ℕ) → AllByRecursion (λ b. IsTrue (is_symbol b)) text → IsOneLine text
symbols_inside [] a = tt
symbols_inside (b ∷ bs) a = (inside is_symbol_class b refl a.0, symbols_inside bs a.1)

name_inside : (class : ByteClass) (text : List ℕ) → is_of_name class ≡ true → IsNameFrom class text → IsOneLine text
name_inside class [] t n = tt
name_inside class (b ∷ bs) t n = (inside is_of_name b refl (ap is_of_name n.0 ∙ t), names_inside bs n.1)

abbrev is_special_class : ByteClass → Bool
is_special_class Special = true
is_special_class _ = false

single_inside : (text : List ℕ) (b : ℕ) → class_of b ≡ Special → text ≡ b ∷ [] → IsOneLine text
single_inside [] b s e = tt
single_inside (c ∷ []) b s e = let heads : c ≡ b = cc in (inside is_special_class c refl (ap is_special_class (ap class_of heads ∙ s)), tt)
single_inside (c ∷ d ∷ rest) b s e = absurd cc

pub one_line : (k : Kind) (text : List ℕ) → has_one_line k ≡ true → HasKind k text → IsOneLine text
one_line kind.Word text t h = name_inside Small text refl h.0
one_line kind.VarId text t h = name_inside Small text refl h.0
one_line kind.ConId text t h = name_inside Capital text refl h
one_line kind.Op text t h = symbols_inside text (all_of is_symbol text h.0)
one_line kind.Special text t h = single_inside text h.0 h.1 h.2
one_line kind.QVarId text t h = absurd (false≢true t)
one_line kind.QConId text t h = absurd (false≢true t)
one_line kind.Integer text t h = absurd (false≢true t)
one_line kind.Character text t h = absurd (false≢true t)
one_line kind.Str text t h = absurd (false≢true t)

pub place_along : (text before : List ℕ) → IsOneLine text → place_after (before ++ text) ≡ place (place_after before).line ((place_after before).column + length text)
place_along [] before a =
    ap place_after (append-nil before) ∙ place_same (place_after before).line (place_after before).line (place_after before).column ((place_after before).column + 0) refl (sym (add-zero (place_after before).column))
place_along (b ∷ bs) before a =
    let line : ℕ = (place_after before).line in
    let column : ℕ = (place_after before).column in
    let step : place_after (before ++ b ∷ []) ≡ place line (column + 1) = place_after_push before b ∙ step_inside (place_after before) b a.0 in
    let columns : (column + 1) + length bs ≡ column + length (b ∷ bs) = omega arith in
    ap place_after (sym (append_assoc before (b ∷ []) bs)) ∙ place_along bs (before ++ b ∷ []) a.1 ∙ ap (λ (p : Place). place p.line (p.column + length bs)) step ∙ place_same line line ((column + 1) + length bs) (column + length (b ∷ bs)) refl columns

-- the same from what the code knows
pub behind_one_line : (k : Kind) (text before : List ℕ) (p : Place) → has_one_line k ≡ true → HasKind k text → p ≡ place_after before → place p.line (p.column + length text) ≡ place_after (before ++ text)
behind_one_line k text before p t h e = ap (λ (q : Place). place q.line (q.column + length text)) e ∙ sym (place_along text before (one_line k text t h))
