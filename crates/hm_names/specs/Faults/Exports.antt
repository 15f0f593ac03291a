-- Faults of the export list (Report 5.2).
use Rattle.std.specs.Prelude.{◌≡◌, ℕ, ◌<◌, List, [], ◌∷◌, ◌++◌, None, ◌⊎◌, Contains}
use Rattle.hm_types.specs.declared.Entity.{Entity}
use Rattle.hm_types.specs.Interfaces.{Exports as Interface}
use Rattle.hm_syntax.specs.Names.{Identifier}
use Rattle.hm_syntax.specs.declared.ast.Module.{Module}
use Rattle.hm_syntax.specs.declared.ast.Export.{Export}
use Rattle.hm_syntax.specs.declared.ast.Export.TheVariants as export
use Rattle.hm_syntax.specs.declared.ast.SubItems.{SubItems}
use Rattle.hm_syntax.specs.declared.ast.SubItems.TheVariants as subs
use Rattle.hm_names.specs.declared.namespace.Namespace.{Namespace}
use Rattle.hm_names.specs.declared.namespace.Namespace.TheVariants.{Types, Values}
use Rattle.hm_names.specs.declared.faults.Kind.{Kind}
use Rattle.hm_names.specs.declared.faults.Kind.TheVariants.{Unbound, Ambiguous, ExportClash, NotImported}
use Rattle.hm_names.specs.Scope.{IsUnbound, IsAmbiguous, Means}
use Rattle.hm_names.specs.Exports.{HasConstructor, IsModuleName, Gives}

-- the order of texts by bytes
abbrev pub IsAtMost : List ℕ → List ℕ → Type 0
IsAtMost [] ys = Unit {0}
IsAtMost (x ∷ xs) [] = ⊥
IsAtMost (x ∷ xs) (y ∷ ys) = (x < y) ⊎ ((x ≡ y) × IsAtMost xs ys)

abbrev pub item_name : Export → Identifier
item_name (export.Var n) = n
item_name (export.Con n s) = n
item_name (export.Whole n) = n

-- the item i gives the name x to an entity, and i or an earlier item gives it to another entity in the same namespace
pub record Clashes (m : Module) (fs : List Interface) (before : List Export) (i : Export) (x : List ℕ) : Type 0 where
  pub space : Namespace
  pub one : Entity
  pub given : Gives m fs x one i space
  pub item : Export
  pub stands : Contains before item ⊎ (item ≡ i)
  pub other : Entity
  pub given_too : Gives m fs x other item space
  pub differ : ¬ (one ≡ other)

-- a bare name at the place of another
abbrev pub bare_at : Identifier → List ℕ → Identifier
bare_at n x = record { qualifier = None; text = x; line = n.line; column = n.column }

-- unbound and ambiguous names; a constructor that isn't in scope, listed after a type that is; for each item its least clashing name; a module that
-- isn't imported
pub data ExportFault (m : Module) (fs : List Interface) (es : List Export) : Kind → Identifier → Type 0 where
  unbound_value : {n : Identifier} → Contains es (export.Var n) → IsUnbound m fs Values n → ExportFault m fs es Unbound n
  unbound_type : {n : Identifier} {s : SubItems} → Contains es (export.Con n s) → IsUnbound m fs Types n → ExportFault m fs es Unbound n
  ambiguous_value : {n : Identifier} → Contains es (export.Var n) → IsAmbiguous m fs Values n → ExportFault m fs es Ambiguous n
  ambiguous_type : {n : Identifier} {s : SubItems} → Contains es (export.Con n s) → IsAmbiguous m fs Types n → ExportFault m fs es Ambiguous n
  unbound_constructor : {n c : Identifier} {cs : List Identifier} {t : Entity} →
      Contains es (export.Con n (subs.Some cs)) → Means m fs Types n t → Contains cs c → ((k : Entity) → ¬ (HasConstructor m fs t c.text k)) → ExportFault m fs es Unbound c
  clash : (before after : List Export) {i : Export} {x : List ℕ} →
      es ≡ before ++ (i ∷ after) → Clashes m fs before i x → ((y : List ℕ) → Clashes m fs before i y → IsAtMost x y) → ExportFault m fs es ExportClash (bare_at (item_name i) x)
  not_imported : {n : Identifier} → Contains es (export.Whole n) → ¬ (IsModuleName m n.text) → ExportFault m fs es NotImported n
