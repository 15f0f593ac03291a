-- Worked examples: long texts, counts, messages that are left out, faults that aren't of these sources, the first faults of further sources, modules of one name, the module of a
-- message, and the places of refusals.
use Rattle.std.specs.Prelude.{◌≡◌, ◌≤◌, ◌<◌, ℕ, List, [], ◌∷◌, ◌++◌, Some, None, codes, length}
use Rattle.std.specs.Fmt.{decimal}
use Rattle.hm_lex.specs.Faults.{IsRefusal}
use Rattle.hm_lex.specs.declared.token.Place.{Place}
use Rattle.hm_lex.specs.declared.token.LexFault.TheVariants.{Lexeme}
use Rattle.hm_syntax.specs.declared.ast.Import.{Import}
use Rattle.hm_syntax.specs.declared.ast.Module.{Module}
use Rattle.hm_run_sources.specs.Origins.{AreLocated}
use Rattle.hm_parse_grammar.specs.declared.fault.ParseFault.TheVariants.{Syntax}
use Rattle.hm_run_sources.specs.Refusals.{lex, parse}
use Rattle.hm_run_sources.specs.SourceModules.{HasModules}
use Rattle.hm_run_sources.specs.declared.located.Located.{Located}
use Rattle.hm_messages_details.specs.Nearness.{AreNear}
use Rattle.hm_messages_json.specs.declared.message.Position.{Position}
use Rattle.hm_messages.specs.Cuts.{shortened}
use Rattle.hm_messages.specs.Foreign.{IsForeign}
use Rattle.hm_messages.specs.FurtherFaults.{AreLaterFaults, AreSourceFaults}
use Rattle.hm_messages.specs.Headings.{further_text}
use Rattle.hm_messages.specs.Messages.{IsMessage}
use Rattle.hm_messages.specs.Missing.{HasNearModule, IsImportable}
use Rattle.hm_messages.specs.ModuleStarts.{IsModuleAround, module_start}
use Rattle.hm_messages.specs.Refused.{IsNamedAt, IsPositionOf, IsRefusedAt, place_of}
use Rattle.hm_messages.specs.Subjects.{Subject}
use Rattle.hm_messages.specs.Twins.{IsTwinOf}
use Rattle.hm_messages.specs.declared.heading.MessageFormat.{MessageFormat}
use Rattle.hm_messages.specs.declared.heading.MessageFormat.TheVariants.{Plain}

-- an empty source has one place, and a message there isn't empty. A message at another place is left out
pub record MessageRow : Type 0 where
  pub outside : (format : MessageFormat) (file : List ℕ) (s : Subject) → IsMessage format file [] (record { line = 1; column = 2 }) s []
  pub inside : (format : MessageFormat) (file : List ℕ) (s : Subject) → ¬ (IsMessage format file [] (record { line = 1; column = 1 }) s [])

-- a fault of the second of two sources may be one of theirs. A fault of source 3 or 0 isn't
pub record ForeignRow : Type 0 where
  pub third : (s t : List ℕ) (p : Place) → IsForeign (s ∷ t ∷ []) (lex 3 (Lexeme p))
  pub no_number : (s t : List ℕ) (p : Place) → IsForeign (s ∷ t ∷ []) (lex 0 (Lexeme p))
  pub second : (s t : List ℕ) (p : Place) → ¬ (IsForeign (s ∷ t ∷ []) (lex 2 (Lexeme p)))

-- the second source spells modules, and the third has text that is no lexeme: its fault is that of source 3. Where no source is left, there is none. No fault
-- follows one of syntax in its source
pub record FurtherRow : Type 0 where
  pub third : (s t : List ℕ) (modules : List Module) (p : Place) → HasModules s modules → IsRefusal t (Lexeme p) → AreSourceFaults 2 (s ∷ t ∷ []) (lex 3 (Lexeme p) ∷ [])
  pub none_left : (p : Place) → ¬ (AreSourceFaults 2 [] (lex 2 (Lexeme p) ∷ []))
  pub none_after : (s : List ℕ) (p q : Place) → ¬ (AreLaterFaults s (parse 3 (Syntax p)) (lex 3 (Lexeme q) ∷ []))

-- Prelude is a near name, and so is the only module of the sources, if it has no imports. A module that imports Lists isn't one of Lists, and a set of no sources has no module List
pub record NearModuleRow : Type 0 where
  pub prelude : AreLocated [] [] → AreNear (codes "Prelud") (codes "Prelude") → HasNearModule [] (codes "Prelud") (Some (codes "Prelude"))
  pub own : (sources : List (List ℕ)) (l : Located) (y : List ℕ) → AreLocated sources (l ∷ []) → l.header.imports ≡ [] → AreNear y l.header.name.text → HasNearModule sources y (Some l.header.name.text)
  pub not_itself : (l : Located) (i : Import) → l.header.name.text ≡ codes "List" → l.header.imports ≡ i ∷ [] → i.name.text ≡ codes "Lists" → ¬ (IsImportable (l ∷ []) (codes "Lists") (codes "List"))
  pub none_there : ¬ (HasNearModule [] (codes "Lists") (Some (codes "List")))

-- without a place no position is named. The place of the first byte of an empty source has one, so its position isn't left out
pub record PositionRow : Type 0 where
  pub none : (source : List ℕ) → IsPositionOf source None None
  pub not_named : (source : List ℕ) (q : Position) → ¬ (IsPositionOf source None (Some q))
  pub not_left_out : ¬ (IsPositionOf [] (Some (record { line = 1; column = 1 })) None)

-- a text of up to 1,000 bytes is shown whole. Of a longer one at most 1,006 bytes are shown, so one that is longer than that isn't shown whole
pub record CutRow : Type 0 where
  pub whole : (text : List ℕ) → length text ≤ 1000 → shortened text ≡ text
  pub bounded : (text : List ℕ) → length (shortened text) ≤ 1006
  pub not_whole : (text : List ℕ) → 1006 < length text → ¬ (shortened text ≡ text)

-- a line about other skipped modules is there if there is one, and only then
pub record FurtherCountRow : Type 0 where
  pub some : further_text Plain 892 ≡ codes "note" ++ (codes ": further skipped modules: " ++ decimal 892 ++ codes "; they have no notes\n")
  pub none : further_text Plain 0 ≡ []
  pub not_none : ¬ (further_text Plain 1 ≡ [])

-- after the modules A and B, a second B has the twin B, and not A. A module C has none
pub record TwinRow : Type 0 where
  pub second : (a b : Located) → b.header.name.text ≡ codes "B" → IsTwinOf (codes "B") (a ∷ b ∷ []) (Some b)
  pub other : (a b : Located) → a.header.name.text ≡ codes "A" → ¬ (IsTwinOf (codes "B") (a ∷ b ∷ []) (Some a))
  pub none_there : (a b : Located) → a.header.name.text ≡ codes "A" → b.header.name.text ≡ codes "B" → IsTwinOf (codes "C") (a ∷ b ∷ []) None

-- a source spells a module A whose name is at 1:8, and then a module B whose name is at 9:8. The place 5:1 is in A, and not in B
pub record ModuleRow : Type 0 where
  pub first :
      (s : List ℕ) (a b : Module) → module_start a ≡ record { place = record { line = 1; column = 8 }; name = codes "A" } → module_start b ≡ record { place = record { line = 9; column = 8 }; name = codes "B" }
      → HasModules s (a ∷ b ∷ []) → IsModuleAround s (record { line = 5; column = 1 }) (Some (codes "A"))
  pub not_second :
      (s : List ℕ) (a b : Module) → module_start a ≡ record { place = record { line = 1; column = 8 }; name = codes "A" } → module_start b ≡ record { place = record { line = 9; column = 8 }; name = codes "B" }
      → HasModules s (a ∷ b ∷ []) → ¬ (IsModuleAround s (record { line = 5; column = 1 }) (Some (codes "B")))

-- a source spells one module without imports: its plan can be refused at the module's name, and at no other place. The lexical fault of the second of two
-- sources is in that source, and not in the first one
pub record PlaceRow : Type 0 where
  pub at_name : (s : List ℕ) (m : Module) → HasModules s (m ∷ []) → IsNamedAt (s ∷ []) 0 (place_of m.header.name)
  pub not_elsewhere : (s : List ℕ) (m : Module) (p : Place) → HasModules s (m ∷ []) → m.header.imports ≡ [] → ¬ (p ≡ place_of m.header.name) → ¬ (IsNamedAt (s ∷ []) 0 p)
  pub in_second : (s t : List ℕ) (p : Place) → IsRefusedAt (s ∷ t ∷ []) (lex 2 (Lexeme p)) 1 p
  pub not_in_first : (s t : List ℕ) (p : Place) → ¬ (IsRefusedAt (s ∷ t ∷ []) (lex 2 (Lexeme p)) 0 p)
