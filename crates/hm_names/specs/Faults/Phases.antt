-- The phases, and the faults of a module.
use Rattle.std.specs.Prelude.{◌≡◌, ℕ, ◌<◌, List, [], ◌∷◌, ◌++◌, Option, None, Some, ◌⊎◌, ◌↔◌, codes, Contains}
use Rattle.hm_types.specs.Interfaces.{Exports as Interface}
use Rattle.hm_syntax.specs.Names.{Identifier}
use Rattle.hm_syntax.specs.declared.ast.Module.{Module}
use Rattle.hm_syntax.specs.declared.ast.Export.{Export}
use Rattle.hm_names.specs.declared.faults.Kind.{Kind}
use Rattle.hm_names.specs.declared.faults.Kind.TheVariants.{NotExported, Duplicate, NoBinding, Unbound, Ambiguous, ExportClash, NotImported, NonLinear, Arity, ClauseLength, Untyped, Recursive}
use Rattle.hm_names.specs.declared.faults.Fault.{Fault}
use Rattle.hm_names.specs.Walk.{Somewhere}
use Rattle.hm_names.specs.Faults.Imports.{ImportFault}
use Rattle.hm_names.specs.Faults.Lists.{ListFault}
use Rattle.hm_names.specs.Faults.Exports.{ExportFault, IsAtMost}
use Rattle.hm_names.specs.Faults.Names.{NameFault}
use Rattle.hm_names.specs.Faults.Arities.{ArityFault, SynonymFault}

-- imports; duplicates and signatures; exports; names and linearity; arities
pub data Phase : Type 0 where
  Importing : Phase
  Declaring : Phase
  Exporting : Phase
  Naming : Phase
  Counting : Phase

abbrev pub phase_number : Phase → ℕ
phase_number Importing = 1
phase_number Declaring = 2
phase_number Exporting = 3
phase_number Naming = 4
phase_number Counting = 5

-- the phase has a fault of kind k at the name n
abbrev pub FaultAt : Module → List Interface → Phase → Kind → Identifier → Type 0
FaultAt m fs Importing k n = ImportFault m fs k n
FaultAt m fs Declaring k n = Somewhere m (λ xs t. ListFault t k n)
FaultAt m fs Exporting k n = (es : List Export) × ((m.header.exports ≡ Some es) × ExportFault m fs es k n)
FaultAt m fs Naming k n = Somewhere m (λ xs t. NameFault m fs xs t k n)
FaultAt m fs Counting k n = Somewhere m (λ xs t. ArityFault m fs t k n) ⊎ SynonymFault m fs k n

-- a name as it is written
abbrev pub written_in : Option (List ℕ) → List ℕ → List ℕ
written_in None x = x
written_in (Some q) x = q ++ codes "." ++ x

abbrev pub written : Identifier → List ℕ
written n = written_in n.qualifier n.text

-- the fault of a kind at a name
abbrev pub fault : Kind → Identifier → Fault
fault k n = record { place = record { line = n.line; column = n.column }; kind = k; name = written n }

pub record HasFault (m : Module) (fs : List Interface) (p : Phase) (f : Fault) : Type 0 where
  pub kind : Kind
  pub name : Identifier
  pub stands : FaultAt m fs p kind name
  pub is : f ≡ fault kind name

-- no phase has a fault
abbrev pub IsWellFormed : Module → List Interface → Type 0
IsWellFormed m fs = (p : Phase) (f : Fault) → ¬ (HasFault m fs p f)

-- The order of faults: by place, then kind, then name

abbrev pub kind_number : Kind → ℕ
kind_number NotExported = 1
kind_number Duplicate = 2
kind_number NoBinding = 3
kind_number Unbound = 4
kind_number Ambiguous = 5
kind_number ExportClash = 6
kind_number NotImported = 7
kind_number NonLinear = 8
kind_number Arity = 9
kind_number ClauseLength = 10
kind_number Untyped = 11
kind_number Recursive = 12

-- less by the first number, or equal by it and less by the rest
abbrev pub By : ℕ → ℕ → Type 0 → Type 0
By a b Next = (a < b) ⊎ ((a ≡ b) × Next)

abbrev pub IsBefore : Fault → Fault → Type 0
IsBefore f g =
    By f.place.line g.place.line (By f.place.column g.place.column (By (kind_number f.kind) (kind_number g.kind) (IsAtMost f.name g.name × ¬ (f.name ≡ g.name))))

-- each fault is before the next, so none occurs twice
abbrev pub AreOrdered : List Fault → Type 0
AreOrdered [] = Unit {0}
AreOrdered (f ∷ []) = Unit {0}
AreOrdered (f ∷ g ∷ fs) = IsBefore f g × AreOrdered (g ∷ fs)

-- the faults of a module that isn't well-formed: exactly those of the first phase that has any, in order
pub record AreFaults (m : Module) (fs : List Interface) (found : List Fault) : Type 0 where
  pub phase : Phase
  pub some : ¬ (found ≡ [])
  pub exact : (f : Fault) → Contains found f ↔ HasFault m fs phase f
  pub first : (p : Phase) → phase_number p < phase_number phase → (f : Fault) → ¬ (HasFault m fs p f)
  pub ordered : AreOrdered found
