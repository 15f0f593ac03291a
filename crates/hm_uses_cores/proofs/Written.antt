-- The types of a core are those of its module, with entities and without synonyms.
use Rattle.std.proofs.Common.{◌≡◌, Bool, true, false, cond, List, [], ◌∷◌, map, Some, inl, ⊎_elim, refl, sym, ap, ◌∙◌, subst}
use Rattle.std.specs.List.{AllZip, Contains}
use Rattle.hm_types.specs.declared.Entity.{Entity}
use Rattle.hm_types.specs.Interfaces.{Exports as Interface}
use Rattle.hm_syntax.specs.Lists.{declarations}
use Rattle.hm_syntax.specs.Names.{Identifier}
use Rattle.hm_syntax.specs.Trees.{TypeTree, variable_type, constructor_type, function_type, tuple_type, list_type, unit_type, TypeTrees, no_types, more_types, DataConstructor, data_constructor, DataConstructors, no_constructors, more_constructors, Declaration, data_declaration, newtype_declaration, synonym_declaration, signature, clause, pattern_binding}
use Rattle.hm_syntax.specs.declared.ast.Module.{Module}
use Rattle.hm_names.specs.Cores.{IsCore, is_exported}
use Rattle.hm_names.specs.declared.namespace.Namespace.TheVariants.{Types}
use Rattle.hm_names.specs.declared.faults.Kind.TheVariants.{Ambiguous, Unbound}
use Rattle.hm_names.specs.Described.{TypeDescription, TypeMeaning, algebraic, declared_synonym, imported_synonym, type_meant}
use Rattle.hm_names.specs.Expansion.{as_entity, expanded}
use Rattle.hm_names.specs.Faults.Names.{NameFault, a_type_constructor}
use Rattle.hm_names.specs.Faults.Names as faults
use Rattle.hm_names.specs.Faults.Phases.{Naming}
use Rattle.hm_names.specs.ModuleCores.{ModuleCore}
use Rattle.hm_names.specs.Resolved.{Resolver, constructor_with, constructors_with, declaration_with, expression_with, synonym_meant, type_with, types_with}
use Rattle.hm_names.specs.Types.{entity_of}
use Rattle.hm_names.specs.Variables.{texts}
use Rattle.hm_names.specs.Scope.{Means}
use Rattle.hm_names.proofs.Existence.{has_meaning}
use Rattle.hm_names.proofs.Members.{cases, none_in}
use Rattle.hm_names.proofs.Synonyms.{is_declared}
use Rattle.hm_uses.specs.Scopes.{Around, Home, In, a_constructor as constructor_part, a_declaration, a_type, an_expression, at_top, local_to, some_constructors, some_declarations, some_types}
use Rattle.hm_uses.specs.Scopes as scopes
use Rattle.hm_uses.specs.Uses.{one}
use Rattle.hm_uses_faults.proofs.Up.{up}
use Rattle.hm_uses_cores.specs.CoreTypes.{AreConstructorsThere, AreSynonymsOf, AreTypesThere, HasItsTypes, IsAt, IsConstructorThere, IsSynonymThere, IsTypeThere, a_clause, a_constructor, a_data_type, a_function, a_hidden_synonym, a_list, a_newtype, a_pattern_binding, a_signature, a_synonym, a_tuple, a_variable, declared, imported, no_synonym, the_unit, with_types}
use Rattle.hm_uses_cores.specs.CoreTypes as types
use Rattle.hm_uses_cores.specs.Laws.{CoresKeepTypes, HasTypes}
use Rattle.hm_uses_cores.proofs.Binders.{bares}
use Rattle.hm_uses_cores.proofs.Places.{in_place, kept_at}
use Rattle.hm_uses_cores.proofs.Senses.{binder_column, binder_line, binders_at, home_in, no_fault}

-- a declaration of a list is in the module
is_in : (m : Module) (ds : List Declaration) (d : Declaration) → Contains ds d → In m [] (some_declarations at_top (declarations ds)) → In m [] (a_declaration at_top d)
is_in m [] d c i = absurd (none_in d c)
is_in m (k ∷ ds) d c i = ⊎_elim (λ e. subst (λ z. In m [] (a_declaration at_top z)) (sym e) (scopes.first_declaration i)) (λ o. is_in m ds d o (scopes.later_declarations i)) (cases k ds d c)

module _ (m : Module) (fs : List Interface) (c : ModuleCore) (k : IsCore m fs c) where
  abbrev r : Resolver
  r = k.resolver

  type_means : (xs : Around) (vs : List Identifier) (n : Identifier) (ts : TypeTrees) → In m xs (a_type vs (constructor_type n ts)) → (e : Entity) × Means m fs Types n e
  type_means xs vs n ts i = ⊎_elim
      (λ h. absurd (no_fault m fs k.well_formed Naming Unbound n (up m (λ ys z. NameFault m fs ys z Unbound n) i (inl (faults.unbound a_type_constructor h)))))
      (λ o. ⊎_elim (λ h. absurd (no_fault m fs k.well_formed Naming Ambiguous n (up m (λ ys z. NameFault m fs ys z Ambiguous n) i (inl (faults.ambiguous a_type_constructor h))))) (λ w. w) o)
      (has_meaning m fs Types n)

  mutual
    type_there : (xs : Around) (vs : List Identifier) (t : TypeTree) → In m xs (a_type vs t) → IsTypeThere m fs r.synonym t (type_with r t)
    type_there xs vs (variable_type n) i = a_variable
    type_there xs vs (constructor_type n ts) i =
        let w = type_means xs vs n ts i in
        let is : r.name Types [] n ≡ as_entity n w.0 = k.resolves.type [] n w.0 w.1 in
        a_constructor {e = w.0} (one w.1) (types_there xs vs ts (scopes.type_arguments i)) (ap (λ z. expanded (r.synonym (entity_of z)) z (types_with r ts)) is)
    type_there xs vs (function_type a b) i = a_function (type_there xs vs a (scopes.domain i)) (type_there xs vs b (scopes.range i))
    type_there xs vs (tuple_type ts) i = a_tuple (types_there xs vs ts (scopes.tuple_types i))
    type_there xs vs (list_type t) i = a_list (type_there xs vs t (scopes.element_type i))
    type_there xs vs unit_type i = the_unit

    types_there : (xs : Around) (vs : List Identifier) (ts : TypeTrees) → In m xs (some_types vs ts) → AreTypesThere m fs r.synonym ts (types_with r ts)
    types_there xs vs no_types i = types.none
    types_there xs vs (more_types t ts) i = types.more (type_there xs vs t (scopes.first_type i)) (types_there xs vs ts (scopes.later_types i))

  synonym_there : (e : Entity) (d : TypeDescription) → type_meant m.header.name.text m.decls fs e ≡ Some d → IsSynonymThere m fs r.synonym d.meaning (r.synonym e)
  synonym_there e d h = go d.meaning refl
    where
      go : (w : TypeMeaning) → d.meaning ≡ w → IsSynonymThere m fs r.synonym w (r.synonym e)
      go (algebraic j) q = subst (λ o. IsSynonymThere m fs r.synonym (algebraic j) o) (sym (k.resolves.synonym e d h ∙ ap (synonym_meant r) q)) no_synonym
      go (imported_synonym y) q = subst (λ o. IsSynonymThere m fs r.synonym (imported_synonym y) o) (sym (k.resolves.synonym e d h ∙ ap (synonym_meant r) q)) imported
      go (declared_synonym ps t) q =
          let b = is_declared m fs e d ps t h q in
          declared (type_there [] ps t (scopes.synonym_type (is_in m m.decls (synonym_declaration b.name ps t) b.stands scopes.top))) (k.resolves.synonym e d h ∙ ap (synonym_meant r) q)

  is_at : (w : Home) (n : Identifier) → IsAt n (binders_at m w n)
  is_at w n = (binder_line m fs c w n, binder_column m fs c w n)

  are_at : (w : Home) (ns : List Identifier) → AllZip IsAt ns (map (binders_at m w) ns)
  are_at w [] = tt
  are_at w (n ∷ ns) = (is_at w n, are_at w ns)

  constructor_there : (xs : Around) (vs : List Identifier) (w : Home) (b : DataConstructor) → In m xs (constructor_part vs b) → IsConstructorThere m fs r.synonym b (constructor_with r (binders_at m w) b)
  constructor_there xs vs w (data_constructor n ts) i = with_types (is_at w n) (types_there xs vs ts (scopes.arguments i))

  constructors_there : (xs : Around) (vs : List Identifier) (w : Home) (bs : DataConstructors) → In m xs (some_constructors vs bs) → AreConstructorsThere m fs r.synonym bs (constructors_with r (binders_at m w) bs)
  constructors_there xs vs w no_constructors i = types.none
  constructors_there xs vs w (more_constructors b bs) i = types.more (constructor_there xs vs w b (scopes.first_constructor i)) (constructors_there xs vs w bs (scopes.later_constructors i))

  hidden_or : (b : Bool) (n j : Identifier) (ps : List Identifier) (t u : TypeTree) → IsAt n j → IsTypeThere m fs r.synonym t u → HasItsTypes m fs r.synonym (synonym_declaration n ps t) (synonym_declaration j ps (cond b u unit_type))
  hidden_or true n j ps t u a h = a_synonym a h
  hidden_or false n j ps t u a h = a_hidden_synonym a

  declaration_there : (xs : Around) (w : Home) (d : Declaration) → In m xs (a_declaration w d) → HasItsTypes m fs r.synonym d (kept_at c.exported_types w (declaration_with r (binders_at m w) (texts xs) d))
  declaration_there xs w (data_declaration n ps bs) i = a_data_type (is_at w n) (constructors_there xs ps w bs (scopes.data_constructors i))
  declaration_there xs w (newtype_declaration n ps b) i = a_newtype (is_at w n) (constructor_there xs ps w b (scopes.newtype_constructor i))
  declaration_there xs at_top (synonym_declaration n ps t) i = hidden_or (is_exported c.exported_types (entity_of (binders_at m at_top n))) n (binders_at m at_top n) ps t (type_with r t) (is_at at_top n) (type_there xs ps t (scopes.synonym_type i))
  declaration_there xs (local_to bs) (synonym_declaration n ps t) i = a_synonym (is_at (local_to bs) n) (type_there xs ps t (scopes.synonym_type i))
  declaration_there xs w (signature ns t) i = a_signature (are_at w ns) (type_there xs _ t (scopes.signature_type i))
  declaration_there xs w (clause n ps g) i = a_clause
  declaration_there xs w (pattern_binding l j q g) i = a_pattern_binding

  has_types : HasTypes m fs c r.synonym
  has_types = record {
    synonyms = synonym_there;
    of_declaration = λ {xs} {h} {d} i. (bares xs, (home_in h, (kept_at c.exported_types h (declaration_with r (binders_at m h) (texts xs) d), (in_place m c r c.exported_types k.trees i, declaration_there xs h d i))));
    of_expression = λ {xs} {e} {t} i. (bares xs, (expression_with r (texts xs) e, (type_with r t, (in_place m c r c.exported_types k.trees i, type_there xs _ t (scopes.annotation i)))));
  }

pub cores_keep_types : CoresKeepTypes
cores_keep_types m fs c k = (k.resolver.synonym, has_types m fs c k)
