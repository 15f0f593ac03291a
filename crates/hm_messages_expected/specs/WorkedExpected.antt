-- Worked examples of the types that are expected of names.
use Rattle.std.specs.Prelude.{◌≡◌, ℕ, List, [], ◌∷◌, codes}
use Rattle.hm_types.specs.Interfaces.{Exports as Interface}
use Rattle.hm_names.specs.declared.faults.Fault.{Fault}
use Rattle.hm_names.specs.declared.faults.Kind.TheVariants.{Unbound, Untyped}
use Rattle.hm_messages_changes.specs.declared.data.SourceRange.{SourceRange}
use Rattle.hm_messages_expected.specs.Expected.{IsDefined, IsExpected, IsOpened, placeholder}
use Rattle.hm_messages_here.specs.TypesHere.{HasTypeAt}
use Rattle.hm_messages_trials.specs.Worked.{at_column, reported_by}

abbrev pub source : List ℕ
source = codes "module Main{f x =g x}"

-- g, which isn't in scope
abbrev pub g : SourceRange
g = record { from = 17; to = 18; start = at_column 18; end = at_column 18 }

abbrev pub faults : List Fault
faults = reported_by Unbound (codes "g") ∷ []

abbrev pub opened : List ℕ
opened = codes "module Main{f x =part'hole x ; part'hole = (let { h = h } in h)}"

-- The placeholder is in place of g, and gets a definition before the bracket that ends the module. No such source is empty. Of the names g and f only g may get a definition, and the placeholder
pub record OpenedRow : Type 0 where
  pub opened : IsOpened source faults g opened
  pub not_empty : ¬ (IsOpened source faults g [])
  pub out : IsDefined faults (codes "g")
  pub placeholder : IsDefined faults placeholder
  pub in_scope : ¬ (IsDefined faults (codes "f"))

-- If the placeholder has the type a -> b in place of g, that is expected of g. Of a definition without a type nothing is expected
pub record ExpectedRow : Type 0 where
  pub of_g : HasTypeAt opened (codes "Main") [] (at_column 18) placeholder (codes "f") (codes "a -> b") (codes "a -> b") → IsExpected source (codes "Main") [] faults (reported_by Unbound (codes "g")) (codes "a -> b")
  pub of_type_fault : (source name : List ℕ) (fs : List Interface) (faults : List Fault) (text : List ℕ) → ¬ (IsExpected source name fs faults (reported_by Untyped (codes "g")) text)
