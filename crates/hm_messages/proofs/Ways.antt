-- The lines of a cycle, with those of one more import.
use Rattle.std.proofs.Common.{◌≡◌, ℕ, List, [], ◌∷◌, ◌++◌, refl, sym, subst, append-nil}
use Rattle.hm_messages.specs.Messages.{AreEach}
use Rattle.hm_messages.specs.Refused.{Way, IsWayStated}
use Rattle.hm_messages.specs.declared.heading.MessageFormat.{MessageFormat}
use Rattle.hm_messages.proofs.InOrder.{each_append}

module _ (format : MessageFormat) (files sources : List (List ℕ)) where
  -- the text has a line for each of some imports
  abbrev pub AreWaysStated : List ℕ → Type 0
  AreWaysStated text = (ways : List Way) × AreEach (IsWayStated format files sources) ways text

  pub one_way : (way : Way) (text : List ℕ) → IsWayStated format files sources way text → AreWaysStated text
  one_way way text h = (way ∷ [], (text, [], h, refl, sym (append-nil text)))

  pub more_ways : (text line next : List ℕ) → AreWaysStated text → AreWaysStated line → next ≡ text ++ line → AreWaysStated next
  more_ways text line next t l e =
      (t.0 ++ l.0, subst (AreEach (IsWayStated format files sources) (t.0 ++ l.0)) (sym e) (each_append (IsWayStated format files sources) t.0 l.0 text line t.1 l.1))
