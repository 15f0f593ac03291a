-- Worked examples of where names are written.
use Rattle.std.proofs.Common.{◌≡◌, ◌<◌, ℕ, List, [], ◌∷◌, false, codes, take, arith, refl, sym, ap, subst}
use Rattle.std.proofs.lemmas.Bool.{cond-false, cond-true}
use Rattle.hm_lsp_positions.specs.Lines.{line_start}
use Rattle.hm_lsp_positions.specs.Positions.{IsColumn, IsOffsetOf, IsPositionOf}
use Rattle.hm_lsp_positions.specs.Units.{units}
use Rattle.hm_lsp_positions.specs.declared.units.Encoding.TheVariants.{Utf8, Utf16}
use Rattle.hm_lsp_values.specs.References.{kind_of}
use Rattle.serde_json.specs.Data.{Data, Members, member, null, object, string}
use Rattle.hm_lsp_values.specs.Renames.{IsReplacement, IsTargetValue, replacement_data, target_data}
use Rattle.hm_lsp_values.specs.Spans.{IsSpan}
use Rattle.hm_lsp_values.specs.Worked.{RenamesRow, SpanRow}
use Rattle.hm_uses_references.specs.declared.finding.Reference.{Reference}

later : (j : ℕ) → j ≡ 5 → 4 < units Utf8 (take j (codes "f = f"))
later j is = subst (λ k. 4 < units Utf8 (take k (codes "f = f"))) (sym is) (omega arith)

at_four : IsColumn Utf8 (codes "f = f") 4 4
at_four = record { between = record { within = omega arith; apart = refl }; most = omega arith; last = λ j after between. later j (omega (arith, after, between.within)) }

offset_four : IsOffsetOf Utf8 (codes "f = f") (record { line = 0; column = 4 }) 4
unfolding line_start
offset_four = (4, at_four, refl)

position_four : IsPositionOf Utf16 (codes "f = f") 4 (record { line = 0; column = 4 })
unfolding line_start
position_four = record { start = 0; starts = refl; after = omega arith; last = tt; column = refl }

position_five : IsPositionOf Utf16 (codes "f = f") 5 (record { line = 0; column = 5 })
unfolding line_start
position_five = record { start = 0; starts = refl; after = omega arith; last = tt; column = refl }

second : IsSpan Utf16 (codes "f = f") 1 5 1 (record { line = 0; column = 4 }) (record { line = 0; column = 5 })
second = record { offset = 4; at = offset_four; starts = position_four; ends = position_five }

three : (r : Reference) → r.binds ≡ false → kind_of r ≡ 3 → ⊥
three r is e = omega (arith, cond-false {A = ℕ} _ 3 2 is, e)

pub worked_spans : SpanRow
worked_spans = record { second = second; bound = λ r is. cond-true _ _ _ is; not_bound = three }

span_of : (r : Reference) → r.line ≡ 1 → r.column ≡ 5 → r.length ≡ 1 → IsSpan Utf16 (codes "f = f") r.line r.column r.length (record { line = 0; column = 4 }) (record { line = 0; column = 5 })
span_of r line column size =
    subst (λ n. IsSpan Utf16 (codes "f = f") n r.column r.length (record { line = 0; column = 4 }) (record { line = 0; column = 5 })) (sym line)
    (subst (λ n. IsSpan Utf16 (codes "f = f") 1 n r.length (record { line = 0; column = 4 }) (record { line = 0; column = 5 })) (sym column)
    (subst (λ n. IsSpan Utf16 (codes "f = f") 1 5 n (record { line = 0; column = 4 }) (record { line = 0; column = 5 })) (sym size) second))

replaced : (r : Reference) → r.line ≡ 1 → r.column ≡ 5 → r.length ≡ 1 → IsReplacement Utf16 (codes "f = f") (codes "g") r (replacement_data (codes "g") (record { line = 0; column = 4 }) (record { line = 0; column = 5 }))
replaced r line column size = record { start = record { line = 0; column = 4 }; end = record { line = 0; column = 5 }; span = span_of r line column size; whole = refl }

own_name : (r : Reference) → r.line ≡ 1 → r.column ≡ 5 → r.length ≡ 1 → IsTargetValue Utf16 (codes "f = f") (codes "f") r (target_data (codes "f") (record { line = 0; column = 4 }) (record { line = 0; column = 5 }))
own_name r line column size = record { start = record { line = 0; column = 4 }; end = record { line = 0; column = 5 }; span = span_of r line column size; whole = refl }

no_object : (ms : Members) → null ≡ object ms → ⊥
no_object ms e = cc

first_letter : List ℕ → ℕ
first_letter [] = 0
first_letter (letter ∷ text) = letter

letter_of : Data → ℕ
letter_of (object (member key (string text) more)) = first_letter text
letter_of d = 0

apart : (x y : ℕ) → x ≡ 103 → y ≡ 104 → x ≡ y → ⊥
apart x y a b e = omega (arith, a, b, e)

pub worked_renames : RenamesRow
unfolding first_letter letter_of
worked_renames = record { second = replaced; not_other = λ e. apart _ _ refl refl (ap letter_of e); whole = refl; target = own_name; not_target = λ r h. no_object _ h.whole }
