-- An import that doesn't bring a name into scope, though its module exports the name (Report 5.3).
use Rattle.std.specs.Prelude.{◌≡◌, ℕ, List, false, Contains}
use Rattle.hm_lex.specs.declared.token.Place.{Place}
use Rattle.hm_types.specs.declared.Entity.{Entity}
use Rattle.hm_types.specs.Interfaces.{Exports as Interface}
use Rattle.hm_syntax.specs.declared.ast.Import.{Import}
use Rattle.hm_syntax.specs.declared.ast.Module.{Module}
use Rattle.hm_names.specs.Scope.{Brings}
use Rattle.hm_names.specs.declared.namespace.Namespace.{Namespace}
use Rattle.hm_messages_exporters.specs.Exported.{IsExported}
use Rattle.hm_messages_exporters.specs.Missing.{IsMissing}

-- the module has this import, and the imported module exports the name x
pub record CanBring (m : Module) (fs : List Interface) (s : Namespace) (x : List ℕ) (i : Import) : Type 0 where
  pub written : Contains m.header.imports i
  pub interface : Interface
  pub among : Contains fs interface
  pub named : interface.name ≡ i.name.text
  pub exported : IsExported interface s x

-- no import brings a name that isn't in scope into it without a qualifier: its list leaves the name out or hides it, or it is qualified
abbrev pub LeftOutLaw : Type 0
LeftOutLaw = (m : Module) (fs : List Interface) (p : Place) (s : Namespace) (x : List ℕ) (i : Import) → IsMissing m fs p s x → Contains m.header.imports i
    → (g : Interface) (e : Entity) → Contains fs g → g.name ≡ i.name.text → i.qualified ≡ false → ¬ (Brings g i s x e)
