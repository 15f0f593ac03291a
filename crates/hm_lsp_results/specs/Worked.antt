-- Worked examples: which symbols a query finds, which references are sent, and what is written of a name.
use Rattle.std.specs.Prelude.{◌≡◌, true, false, codes}
use Rattle.hm_lsp_results.specs.Asked.{Subject}
use Rattle.hm_lsp_results.specs.Completions.{IsNameStart}
use Rattle.hm_lsp_results.specs.Matches.{is_match}
use Rattle.hm_lsp_results.specs.References.{is_located}
use Rattle.hm_uses_references.specs.declared.finding.Reference.{Reference}

-- the letters are in the name, in their order
pub record MatchesRow : Type 0 where
  pub some : is_match (codes "fb") (codes "fooBar") ≡ true
  pub not_order : ¬ (is_match (codes "bf") (codes "fooBar") ≡ true)

-- a declaration is left out
pub record LocatedRow : Type 0 where
  pub not_declaration : (asked : Subject) (r : Reference) → r.binds ≡ true → ¬ (is_located asked false r ≡ true)

-- before the end of this text a qualified name is written, with its qualifier
pub record WrittenRow : Type 0 where
  pub qualified : IsNameStart (codes "=A.g") 4 1
  pub not_bare : ¬ (IsNameStart (codes "=A.g") 4 3)
  pub not_more : ¬ (IsNameStart (codes "=A.g") 4 0)
