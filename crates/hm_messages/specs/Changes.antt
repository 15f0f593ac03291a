-- The changes of the source that a message says.
use Rattle.std.specs.Prelude.{◌≡◌, ℕ, List, []}
use Rattle.hm_lex.specs.declared.token.Place.{Place}
use Rattle.hm_messages_json.specs.Edits.{Changed}
use Rattle.hm_messages_rewrites.specs.Names.{new_name}
use Rattle.hm_messages_rewrites.specs.Rewrites.{IsRewrittenBy}
use Rattle.hm_messages_rewrites.specs.Tokens.{IsTokenChanged}
use Rattle.hm_messages.specs.Subjects.{Subject, fault, missing, syntax_fault}

-- the changes that a message of this subject says at its place: the near name that it names in place of the fault's name or of a
-- missing module, or the change of a token. A message of another subject says none
abbrev pub AreSaid : List ℕ → Place → Subject → List Changed → Type 0
AreSaid source p (fault k x known other) changes = IsRewrittenBy source p x (new_name known) changes
AreSaid source p (syntax_fault h text other) changes = IsTokenChanged h source p text other changes
AreSaid source p (missing x y) changes = IsRewrittenBy source p x y changes
AreSaid source p subject changes = changes ≡ []
