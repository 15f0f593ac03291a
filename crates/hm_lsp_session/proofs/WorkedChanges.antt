-- Worked examples of changes, by computing.
use Rattle.std.proofs.Common.{◌≡◌, ◌∷◌, [], ℕ, List, Option, Some, None, codes, get_or, refl, sym, ap, subst, ◌∙◌, arith}
use Rattle.serde_json.specs.Data.{no_members, object}
use Rattle.serde_json.specs.Find.{get}
use Rattle.serde_json.proofs.OnLiterals.{serde_json_on_literals}
use Rattle.hm_lsp_positions.specs.declared.changes.Change.{Change}
use Rattle.hm_lsp_session.specs.Params.{IsChangeIn, changed_files, IsRangeGiven, string_at}
use Rattle.hm_lsp_session.specs.Worked.{ChangesRow, FilesRow, two_files, whole_text}

text_is : string_at (codes "/text") whole_text ≡ Some (codes "x")
unfolding serde_json_on_literals
text_is = refl

no_range : get (codes "range") whole_text ≡ None
unfolding serde_json_on_literals
no_range = refl

first_of : Option (List ℕ) → ℕ
first_of None = 0
first_of (Some text) = get_or text 0 0

other : (change : Change) → change.text.items ≡ codes "y" → IsChangeIn whole_text change → ⊥
unfolding first_of
other change is h = let same : 120 ≡ 121 = ap first_of (sym text_is ∙ h.text) ∙ ap (λ (l : List ℕ). get_or l 0 0) is in omega (arith, same)

pub worked_changes : ChangesRow
worked_changes =
    record {
      whole = λ change none is. (record { text = text_is ∙ ap Some (sym is); range = subst (λ r. IsRangeGiven r change.range) (sym no_range) (subst (IsRangeGiven None) (sym none) tt) }, tt);
      not_other = λ change is h. other change is h.0;
      not_missing = λ h. h;
    }

files_are : changed_files two_files ≡ Some (codes "b" ∷ [])
unfolding serde_json_on_literals
files_are = refl

no_list : changed_files (object no_members) ≡ None
unfolding serde_json_on_literals
no_list = refl

none_some : (found : Option (List (List ℕ))) → found ≡ None → found ≡ Some [] → ⊥
none_some found one two = cc

pub worked_files : FilesRow
worked_files = record { named = files_are; not_listed = none_some (changed_files (object no_members)) no_list }
