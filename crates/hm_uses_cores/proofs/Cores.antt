-- The variables and constructors of a core mean what they mean in its module.
use Rattle.std.proofs.Common.{cond, List, [], ◌∷◌, map, inl, refl, sym, subst}
use Rattle.hm_types.specs.Interfaces.{Exports as Interface}
use Rattle.hm_syntax.specs.Lists.{declarations}
use Rattle.hm_syntax.specs.Names.{Identifier}
use Rattle.hm_syntax.specs.Trees.{unit_type, Declaration, data_declaration, newtype_declaration, synonym_declaration, signature, clause, pattern_binding, more_declarations, no_declarations}
use Rattle.hm_syntax.specs.declared.ast.Module.{Module}
use Rattle.hm_names.specs.Cores.{is_exported, kept}
use Rattle.hm_names.specs.declared.cores.Exported.{Exported}
use Rattle.hm_names.specs.Faults.Phases.{IsWellFormed}
use Rattle.hm_names.specs.ModuleCores.{ModuleCore}
use Rattle.hm_names.specs.Resolved.{Resolver, IsResolver, declaration_with, resolved, top, type_with}
use Rattle.hm_names.specs.Types.{entity_of}
use Rattle.hm_names.specs.Variables.{texts, bound_names}
use Rattle.hm_names.proofs.DeclaredPairs.{map_contains}
use Rattle.hm_names.proofs.Standing.{among_decides}
use Rattle.hm_uses.specs.Mentions.{declaration_mentions, declarations_mentions}
use Rattle.hm_uses.specs.Scopes.{In, a_declaration, at_top, some_declarations}
use Rattle.hm_uses.specs.Scopes as scopes
use Rattle.hm_uses.proofs.Existence.{top_decides}
use Rattle.hm_uses_cores.specs.CoreNames.{core_module}
use Rattle.hm_uses_cores.specs.Laws.{CoresKeepMeanings}
use Rattle.hm_uses_cores.proofs.Senses.{Same, same_both, same_silent}
use Rattle.hm_uses_cores.proofs.Trees.{Belong, Frame, declaration, first_belongs, others_belong, signed_bound, silent_synonym}

abbrev outside : Frame
outside = record { around = []; core = []; locals = []; texts_are = refl; bares_are = refl }

module _ (m : Module) (fs : List Interface) (c : ModuleCore) (wf : IsWellFormed m fs) (r : Resolver) (a : IsResolver m fs r) (es : List Exported) where
  -- a synonym may have lost its right side
  one : (d : Declaration) → Belong m at_top (more_declarations d no_declarations) → In m [] (a_declaration at_top d) → In (core_module m c) [] (a_declaration at_top (kept es (declaration_with r (top m) [] d))) →
      Same m fs c (declaration_mentions d) (declaration_mentions (kept es (declaration_with r (top m) [] d)))
  one (data_declaration n ps cs) b i j = declaration m fs c wf r a outside at_top at_top refl (data_declaration n ps cs) b i j
  one (newtype_declaration n ps k) b i j = declaration m fs c wf r a outside at_top at_top refl (newtype_declaration n ps k) b i j
  one (synonym_declaration n ps t) b i j = same_silent m fs c (declaration_mentions (synonym_declaration n ps t)) (declaration_mentions (kept es (declaration_with r (top m) [] (synonym_declaration n ps t)))) (silent_synonym ps t) (silent_synonym ps (cond (is_exported es (entity_of (top m n))) (type_with r t) unit_type))
  one (signature ns t) b i j = declaration m fs c wf r a outside at_top at_top refl (signature ns t) b i j
  one (clause n ps g) b i j = declaration m fs c wf r a outside at_top at_top refl (clause n ps g) b i j
  one (pattern_binding l k q g) b i j = declaration m fs c wf r a outside at_top at_top refl (pattern_binding l k q g) b i j

  all : (ds : List Declaration) → Belong m at_top (declarations ds) → In m [] (some_declarations at_top (declarations ds)) → In (core_module m c) [] (some_declarations at_top (declarations (map (kept es) (map (declaration_with r (top m) []) ds)))) →
      Same m fs c (declarations_mentions (declarations ds)) (declarations_mentions (declarations (map (kept es) (map (declaration_with r (top m) []) ds))))
  all [] b i j = tt
  all (d ∷ ds) b i j = same_both m fs c (declaration_mentions d) (declarations_mentions (declarations ds)) (declaration_mentions (kept es (declaration_with r (top m) [] d))) (declarations_mentions (declarations (map (kept es) (map (declaration_with r (top m) []) ds))))
      (one d (first_belongs m at_top d (declarations ds) b) (scopes.first_declaration i) (scopes.first_declaration j))
      (all ds (others_belong m at_top d (declarations ds) b) (scopes.later_declarations i) (scopes.later_declarations j))

  -- the names of the module's list are its own
  pub at_its_top : Belong m at_top (declarations m.decls)
  at_its_top = record {
    bound = λ n o. (top_decides m n.text).0 ((among_decides n.text (texts (bound_names (declarations m.decls)))).1 (map_contains (λ (y : Identifier). y.text) (bound_names (declarations m.decls)) n o));
    signed = λ n o. (top_decides m n.text).0 ((among_decides n.text (texts (bound_names (declarations m.decls)))).1 (signed_bound m fs c wf r a (declarations m.decls) (λ y q. inl q) n o));
  }

pub cores_keep_meanings : CoresKeepMeanings
cores_keep_meanings m fs c k =
    let es = c.exported_types in
    let trees = map (kept es) (resolved m k.resolver) in
    let j = subst (λ l. In (core_module m c) [] (some_declarations at_top (declarations l))) k.trees scopes.top in
    subst (λ l. Same m fs c (declarations_mentions (declarations m.decls)) (declarations_mentions (declarations l))) (sym k.trees)
    (all m fs c k.well_formed k.resolver k.resolves es m.decls (at_its_top m fs c k.well_formed k.resolver k.resolves es) scopes.top j)
