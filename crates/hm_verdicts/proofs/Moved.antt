-- Cores for interfaces that are alike.
use Rattle.std.proofs.Common.{◌≡◌, List, [], ◌∷◌, ◌++◌, map, refl, sym, ap, ◌∙◌}
use Rattle.hm_types.specs.Interfaces.{Exports as Interface}
use Rattle.hm_typing.specs.Syntax.{Bindings}
use Rattle.hm_syntax.specs.declared.ast.Module.{Module}
use Rattle.hm_names.specs.Described.{first_of}
use Rattle.hm_names.specs.Special.{special_of}
use Rattle.hm_names.specs.Syntax.{bindings_of}
use Rattle.hm_names.specs.Types.{entity_of}
use Rattle.hm_syntax.specs.Lists.{declarations}
use Rattle.hm_names.specs.ModuleCores.{ModuleCore}
use Rattle.hm_names.specs.Cores.{IsCore, syntax_of, ConstructorScheme, declared_schemes, imported_schemes, scheme_or}
use Rattle.hm_verdicts.specs.Skeletons.{skeleton}
use Rattle.hm_verdicts.proofs.Alike.{Alike, alike, moved_well_formed, moved_resolver, moved_exported}

-- a core with other interfaces
abbrev pub with_interfaces : List Interface → ModuleCore → ModuleCore
with_interfaces gs c = record {
  name = c.name;
  decls = c.decls;
  interfaces = gs;
  exported_types = c.exported_types;
  exported_constructors = c.exported_constructors;
  exported_values = c.exported_values;
}

-- a core for some interfaces is one for others with the same skeletons
pub moved_core : (m : Module) (fs gs : List Interface) (c : ModuleCore) → map skeleton fs ≡ map skeleton gs → IsCore m fs c → IsCore m gs (with_interfaces gs c)
moved_core m fs gs c h is =
    let a : Alike fs gs = alike fs gs h in
    let b : Alike gs fs = alike gs fs (sym h) in
    record {
      well_formed = moved_well_formed m fs gs a is.well_formed;
      name = is.name;
      interfaces = refl;
      resolver = is.resolver;
      resolves = moved_resolver m fs gs a is.resolver is.resolves;
      trees = is.trees;
      exports = λ s x e. (λ k. moved_exported m fs gs a s x e ((is.exports s x e).0 k), λ k. (is.exports s x e).1 (moved_exported m gs fs b s x e k));
      ordered = is.ordered;
    }

skeleton_schemes : (fs : List Interface) → imported_schemes fs ≡ imported_schemes (map skeleton fs)
skeleton_schemes [] = refl
skeleton_schemes (f ∷ fs) = ap (λ r. map (λ t. record { entity = t.entity; scheme = t.scheme }) f.constructors ++ r) (skeleton_schemes fs)

pub same_schemes : (fs gs : List Interface) → map skeleton fs ≡ map skeleton gs → imported_schemes fs ≡ imported_schemes gs
same_schemes fs gs h = skeleton_schemes fs ∙ (ap imported_schemes h ∙ sym (skeleton_schemes gs))

-- and is typed as the same list
pub moved_syntax : (c : ModuleCore) (gs : List Interface) → map skeleton c.interfaces ≡ map skeleton gs → syntax_of c ≡ syntax_of (with_interfaces gs c)
moved_syntax c gs h = ap of (same_schemes c.interfaces gs h)
  where
    of : List ConstructorScheme → Bindings
    of imported = bindings_of (record { home = c.name; scheme = λ n. scheme_or (special_of n) (first_of (λ d. d.entity) (entity_of n) (declared_schemes c.name c.decls ++ imported)) }) (declarations c.decls) (declarations c.decls)
