-- A held set in which a source has another text.
use Rattle.std.specs.Prelude.{◌≡◌, ◌+◌, ℕ, List, ◌∷◌, ◌++◌, Some, drop, slice_get, take}
use Rattle.std.specs.List.{AllZip}
use Rattle.hm_service_sources.specs.Standing.{IsReadAs, StandsFor}
use Rattle.hm_service_sources.specs.declared.held.HeldSource.{HeldSource}

-- the sources have the same texts
pub record IsSameSource (h k : HeldSource) : Type 0 where
  pub text : k.text.items ≡ h.text.items
  pub standing : k.standing.items ≡ h.standing.items
  pub read : k.is_read ≡ h.is_read

-- a source after it gets a text. That text stands for it if it can be read. Otherwise the one that did before still does
pub record IsGiven (text : List ℕ) (h k : HeldSource) : Type 0 where
  pub text_is : k.text.items ≡ text
  pub read : IsReadAs text k.is_read
  pub standing : (earlier : List (List ℕ)) → StandsFor earlier h.standing.items → StandsFor (text ∷ earlier) k.standing.items

-- the set in which source number n has this text. The others are as they were
pub record IsChangedSet (held : List HeldSource) (n : ℕ) (text : List ℕ) (later : List HeldSource) : Type 0 where
  pub before : List HeldSource
  pub old : HeldSource
  pub new : HeldSource
  pub after : List HeldSource
  pub is : slice_get held n ≡ Some old
  pub whole : later ≡ before ++ new ∷ after
  pub first : AllZip IsSameSource (take n held) before
  pub given : IsGiven text old new
  pub rest : AllZip IsSameSource (drop (n + 1) held) after
