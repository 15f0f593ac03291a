-- Worked examples of folders, by computing.
use Rattle.std.proofs.Common.{◌≡◌, ◌∙◌, ◌∷◌, [], ℕ, List, Option, None, Some, ap, arith, codes, get_or, refl, sym}
use Rattle.serde_json.proofs.OnLiterals.{serde_json_on_literals}
use Rattle.serde_json.specs.Data.{number, unsigned}
use Rattle.serde_json.specs.Find.{get}
use Rattle.hm_lsp_session.specs.Folders.{IsOpening, folders_in, sources_in}
use Rattle.hm_lsp_session.specs.Replies.{method_of}
use Rattle.hm_lsp_session.specs.Stages.{method_named}
use Rattle.hm_lsp_session.specs.Worked.{FoldersRow, cancel, first_message, one_source, root_alone, two_folders}
use Rattle.hm_lsp_session.specs.declared.stages.Method.TheVariants.{Initialize, Unknown}

listed_is : folders_in (Some two_folders) ≡ codes "b" ∷ []
unfolding serde_json_on_literals
listed_is = refl

root_is : folders_in (Some root_alone) ≡ codes "a" ∷ []
unfolding serde_json_on_literals
root_is = refl

sources_are : sources_in (Some one_source) ≡ Some (codes "c" ∷ [])
unfolding serde_json_on_literals
sources_are = refl

no_sources_are : sources_in (Some root_alone) ≡ None
unfolding serde_json_on_literals
no_sources_are = refl

named_is : method_of first_message ≡ Some (codes "initialize")
unfolding serde_json_on_literals
named_is = refl

has_id : get (codes "id") first_message ≡ Some (number (unsigned 1))
unfolding serde_json_on_literals
has_id = refl

letter : List (List ℕ) → ℕ
letter [] = 0
letter (text ∷ texts) = get_or text 0 0

other : folders_in (Some two_folders) ≡ codes "a" ∷ [] → ⊥
unfolding letter
other is = let same : 98 ≡ 97 = ap letter (sym listed_is ∙ is) in omega (arith, same)

cancel_is : method_of cancel ≡ Some (codes "$/cancelRequest")
unfolding serde_json_on_literals
cancel_is = refl

unknown : Unknown ≡ Initialize → ⊥
unknown e = cc

one_name : (found : Option (List ℕ)) (a b : List ℕ) → found ≡ Some a → found ≡ Some b → a ≡ b
one_name found a b e f = cc

of_cancel : method_named (codes "$/cancelRequest") ≡ Unknown
of_cancel = refl

no_opening : IsOpening cancel (number (unsigned 7)) → ⊥
no_opening h = unknown (sym of_cancel ∙ ap method_named (one_name (method_of cancel) (codes "$/cancelRequest") h.name cancel_is h.named) ∙ h.is)

pub worked_folders : FoldersRow
worked_folders = record {
  listed = listed_is;
  root = root_is;
  sources = sources_are;
  no_sources = no_sources_are;
  opens = record { name = codes "initialize"; named = named_is; is = refl; has = has_id };
  not_root = other;
  not_cancel = no_opening;
}
