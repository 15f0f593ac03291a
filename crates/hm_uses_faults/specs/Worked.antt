-- Worked examples of headers, as trees: names that are faults, and names that aren't.
use Rattle.std.specs.Prelude.{ℕ, List, [], ◌∷◌, None, Some, codes, false}
use Rattle.hm_types.specs.Interfaces.{Exports as Interface}
use Rattle.hm_syntax.specs.declared.ast.Module.{Module}
use Rattle.hm_syntax.specs.declared.ast.Export.TheVariants as export
use Rattle.hm_syntax.specs.declared.ast.ImportItem.TheVariants as item
use Rattle.hm_syntax.specs.declared.ast.ImportList.TheVariants as list
use Rattle.hm_syntax.specs.declared.ast.SubItems.TheVariants as subs
use Rattle.hm_names.specs.Worked.{at, imports, lists_zz, module_of, with_x, x}
use Rattle.hm_uses.specs.Uses.{unbound}
use Rattle.hm_uses_faults.specs.Headers.{IsUnboundFault, IsUsedInHeader}

-- Prelude and B export an x each
abbrev pub of_two : List Interface
of_two = with_x (codes "Prelude") ∷ with_x (codes "B") ∷ []

abbrev pub zz : List ℕ
zz = codes "zz"

-- module A where { import B (x, zz) }: B exports x, and it doesn't export zz
abbrev pub MissingRow : Type 0
MissingRow = IsUsedInHeader lists_zz of_two (at 32 zz) unbound × IsUnboundFault lists_zz of_two (at 32 zz)

abbrev pub ExportedRow : Type 0
ExportedRow = ¬ (IsUsedInHeader lists_zz of_two (at 29 x) unbound)

-- module A where { import B hiding (zz) }: nothing is hidden, and that isn't a fault
abbrev pub hides_zz : Module
hides_zz = module_of (codes "A") None (imports false (codes "B") (list.Hiding (item.Var (at 35 zz) ∷ [])) ∷ []) []

abbrev pub HiddenRow : Type 0
HiddenRow = IsUsedInHeader hides_zz of_two (at 35 zz) unbound × ¬ (IsUnboundFault hides_zz of_two (at 35 zz))

-- module A (T(C)) where { }: T has a fault, and C doesn't have another one
abbrev pub exports_C : Module
exports_C = module_of (codes "A") (Some (export.Con (at 11 (codes "T")) (subs.Some (at 13 (codes "C") ∷ [])) ∷ [])) [] []

abbrev pub TypeRow : Type 0
TypeRow = IsUnboundFault exports_C of_two (at 11 (codes "T"))

abbrev pub ConstructorRow : Type 0
ConstructorRow = IsUsedInHeader exports_C of_two (at 13 (codes "C")) unbound × ¬ (IsUnboundFault exports_C of_two (at 13 (codes "C")))
