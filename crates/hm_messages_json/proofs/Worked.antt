-- The worked ranges and edits.
use Rattle.std.proofs.Common.{◌≡◌, Bool, false, true, ℕ, All, List, [], ◌∷◌, ◌++◌, length, None, Some, refl, sym, ap, subst, arith, ◌∙◌}
use Rattle.std.specs.Prelude.{codes}
use Rattle.std.proofs.lemmas.List.Elements.{All-from_recursion}
use Rattle.hm_lex.specs.Cut.{is_line_end}
use Rattle.hm_messages_excerpts.specs.Excerpts.{IsPlaceIn}
use Rattle.hm_messages_json.specs.Edits.{AreEditsOf}
use Rattle.hm_messages_json.specs.Positions.{IsPositionAt}
use Rattle.hm_messages_json.specs.Worked.{EditsRow, RangesRow, b, on_first, two_lines, x_for_b}
use Rattle.hm_messages_json.specs.declared.message.Edit.{Edit}

begins : IsPositionAt two_lines b.start (on_first 3 2)
begins = record {
  line_is = refl;
  columns_at = record {
    front = 195 ∷ 169 ∷ [];
    back = 98 ∷ [];
    line = record {
      before = [];
      after = 10 ∷ 99 ∷ [];
      whole = refl;
      placed = refl;
      begins = refl;
      ends = λ more. refl;
      front_plain = All-from_recursion (λ c. is_line_end c ≡ false) (195 ∷ 169 ∷ []) (refl, (refl, tt));
      back_plain = All-from_recursion (λ c. is_line_end c ≡ false) (98 ∷ []) (refl, tt);
    };
    bytes_are = refl;
    characters_are = refl;
    utf16_are = refl;
  };
}

ends : IsPositionAt two_lines b.end (on_first 4 3)
ends = record {
  line_is = refl;
  columns_at = record {
    front = 195 ∷ 169 ∷ 98 ∷ [];
    back = [];
    line = record {
      before = [];
      after = 10 ∷ 99 ∷ [];
      whole = refl;
      placed = refl;
      begins = refl;
      ends = λ more. refl;
      front_plain = All-from_recursion (λ c. is_line_end c ≡ false) (195 ∷ 169 ∷ 98 ∷ []) (refl, (refl, (refl, tt)));
      back_plain = All-from_recursion (λ c. is_line_end c ≡ false) [] tt;
    };
    bytes_are = refl;
    characters_are = refl;
    utf16_are = refl;
  };
}

start_in : IsPlaceIn two_lines b.start
start_in = record { before = 195 ∷ 169 ∷ []; after = 98 ∷ 10 ∷ 99 ∷ []; whole = refl; placed = refl }

end_in : IsPlaceIn two_lines b.end
end_in = record { before = 195 ∷ 169 ∷ 98 ∷ []; after = 10 ∷ 99 ∷ []; whole = refl; placed = refl }

pub worked_ranges : RangesRow
worked_ranges = record {
  part = (begins, ends);
  nothing = refl;
  not_lost = λ h. h (start_in, end_in);
  not_made_up = λ h. absurd (cc);
}

pub worked_edits : EditsRow
worked_edits = record {
  edit = λ e s n t c. (
    e,
    [],
    record { start_at = subst (IsPositionAt two_lines b.start) (sym s) begins; end_at = subst (IsPositionAt two_lines b.end) (sym n) ends; text_is = t; checked_is = c },
    refl,
    refl,
  );
  not_unchecked = λ e no h. let f : false ≡ true = sym no ∙ h.checked_is in absurd (cc);
  not_none = λ h. let f : [] ≡ h.0 ∷ h.1 = h.4 in absurd (cc);
}
