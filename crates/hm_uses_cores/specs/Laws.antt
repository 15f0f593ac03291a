-- The laws of the crate, as statements.
use Rattle.std.specs.Prelude.{◌≡◌, Bool, List, true}
use Rattle.std.specs.List.{AllZip}
use Rattle.hm_types.specs.Interfaces.{Exports as Interface}
use Rattle.hm_syntax.specs.Names.{Identifier}
use Rattle.hm_syntax.specs.Trees.{TypeTree, Expression, typed_expression, Declaration}
use Rattle.hm_syntax.specs.declared.ast.Module.{Module}
use Rattle.hm_names.specs.Cores.{IsCore}
use Rattle.hm_names.specs.ModuleCores.{ModuleCore}
use Rattle.hm_uses.specs.declared.name_kind.NameKind.{NameKind}
use Rattle.hm_uses.specs.Mentions.{Mention}
use Rattle.hm_uses.specs.Scopes.{Around, Home, In, a_declaration, an_expression}
use Rattle.hm_uses.specs.Uses.{InDeclarations, Sense}
use Rattle.hm_uses_cores.specs.CoreNames.{InCore, core_module, is_value_of, values_of}
use Rattle.hm_uses_cores.specs.CoreTypes.{AreSynonymsOf, HasItsTypes, IsTypeThere, Synonyms}

-- at the place of n, the core has a name of this kind, and the name means this there
pub record HasThere (m : Module) (c : ModuleCore) (n : Identifier) (k : NameKind) (binds : Bool) (t : Sense) : Type 0 where
  pub name : Identifier
  pub line : name.line ≡ n.line
  pub column : name.column ≡ n.column
  pub means : InCore (core_module m c) name k binds t

-- each use of a variable or a constructor in the declarations of a module has its entity, or its local variable, in the core
abbrev pub CoresHaveUses : Type 0
CoresHaveUses = (m : Module) (fs : List Interface) (c : ModuleCore) → IsCore m fs c → (n : Identifier) (k : NameKind) (binds : Bool) (t : Sense) → is_value_of k binds ≡ true → InDeclarations m fs n k binds t → HasThere m c n k binds t

-- v is at the place of u, and means in the core what u means in the module
pub record MeansTheSame (m : Module) (fs : List Interface) (c : ModuleCore) (u v : Mention) : Type 0 where
  pub line : v.name.line ≡ u.name.line
  pub column : v.name.column ≡ u.name.column
  pub kind : v.kind ≡ u.kind
  pub binds : v.binds ≡ u.binds
  pub sense : Sense
  pub in_module : InDeclarations m fs u.name u.kind u.binds sense
  pub in_core : InCore (core_module m c) v.name v.kind v.binds sense

-- a core has no other variables and constructors: in the order of the text, they are those of its module, with their meanings
abbrev pub CoresKeepMeanings : Type 0
CoresKeepMeanings = (m : Module) (fs : List Interface) (c : ModuleCore) → IsCore m fs c → AllZip (MeansTheSame m fs c) (values_of m.decls) (values_of c.decls)

-- the types of a core, for these synonyms: those of its declarations, and those of its expressions
pub record HasTypes (m : Module) (fs : List Interface) (c : ModuleCore) (s : Synonyms) : Type 0 where
  pub synonyms : AreSynonymsOf m fs s
  pub of_declaration : {xs : Around} {h : Home} {d : Declaration} → In m xs (a_declaration h d) →
      (ys : Around) × ((w : Home) × ((k : Declaration) × (In (core_module m c) ys (a_declaration w k) × HasItsTypes m fs s d k)))
  pub of_expression : {xs : Around} {e : Expression} {t : TypeTree} → In m xs (an_expression (typed_expression e t)) →
      (ys : Around) × ((f : Expression) × ((u : TypeTree) × (In (core_module m c) ys (an_expression (typed_expression f u)) × IsTypeThere m fs s t u)))

-- each type of a module is in its core, with the entities that its type constructors mean, and with its synonyms expanded
abbrev pub CoresKeepTypes : Type 0
CoresKeepTypes = (m : Module) (fs : List Interface) (c : ModuleCore) → IsCore m fs c → (s : Synonyms) × HasTypes m fs c s
