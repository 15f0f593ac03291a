-- Worked examples of changes.
use Rattle.std.specs.Prelude.{◌≡◌, [], ◌∷◌, None, Some, codes}
use Rattle.hm_lex.specs.declared.token.Place.{Place}
use Rattle.hm_messages_details.specs.Details.{near, nothing}
use Rattle.hm_messages_hints.specs.declared.change.TokenChange.TheVariants.{Remove}
use Rattle.hm_messages_hints.specs.declared.mark.Mark.TheVariants.{Close, Then}
use Rattle.hm_messages_rewrites.specs.Names.{new_name}
use Rattle.hm_messages_rewrites.specs.Rewrites.{IsWritten, rewrite}
use Rattle.hm_messages_rewrites.specs.Tokens.{IsChangedBy, inserted}

abbrev pub third : Place
third = record { line = 1; column = 3 }

-- a near name keeps its qualifier; a word before a token is apart from what is next to it; a bracket at the end of a source is on a line of its own. No
-- detail says no name, and a token that is left out has no other text in its place
pub record RewritesRow : Type 0 where
  pub name : new_name (near (Some (codes "M")) (codes "lookup")) ≡ Some (codes "M.lookup")
  pub word : inserted Then (codes "(") ≡ codes " then "
  pub end : inserted Close [] ≡ codes "\n)"
  pub nameless : new_name nothing ≡ None
  pub left_out : ¬ (IsChangedBy Remove (codes "f )") third (codes ")") (rewrite third 1 (codes "(") ∷ []))
