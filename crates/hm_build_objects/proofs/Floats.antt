-- No part of a module's object is a float.
use Rattle.std.proofs.Common.{◌≡◌, ◌||◌, ℕ, Bool, false, List, [], ◌∷◌, None, map, refl, subst, sym}
use Rattle.serde_json.specs.Data.{Data, string}
use Rattle.serde_json.specs.View.{items_of}
use Rattle.serde_json.specs.Written.{has_float, items_have_float}
use Rattle.hm_syntax.specs.Lists.{declarations}
use Rattle.hm_syntax.specs.Names.{Identifier}
use Rattle.hm_syntax.specs.Trees.{DataConstructor, DataConstructors, data_constructor, no_constructors, more_constructors, Declaration, data_declaration, newtype_declaration, synonym_declaration, signature, clause, pattern_binding}
use Rattle.hm_syntax.specs.declared.ast.Import.{Import}
use Rattle.hm_syntax.specs.declared.ast.Module.{Module}
use Rattle.hm_types.specs.Interfaces.{Exports as Interface}
use Rattle.hm_names.specs.Variables.{bound_names}
use Rattle.hm_verdicts.specs.Verdicts.{Status, Published, Failed, Skipped}
use Rattle.hm_build_objects.specs.Objects.{module_data, name_data, constr_data, constrs_data, declared_types, defines_data, interface_data, type_data, synonym_data, constructor_data, value_data, fault_data, runs}

neither : {a b : Bool} → a ≡ false → b ≡ false → (a || b) ≡ false
neither {a = a} {b = b} p q = subst (λ x. (x || b) ≡ false) (sym p) q

in_list : {X : Type 0} (f : X → Data) → ((x : X) → has_float (f x) ≡ false) → (xs : List X) → items_have_float (items_of (map f xs)) ≡ false
in_list f h [] = refl
in_list f h (x ∷ xs) = neither (h x) (in_list f h xs)

in_names : (ns : List Identifier) → items_have_float (items_of (map name_data ns)) ≡ false
in_names ns = in_list name_data (λ n. refl) ns

of_constr : (c : DataConstructor) → has_float (constr_data c) ≡ false
of_constr (data_constructor n ts) = refl

in_constrs : (cs : DataConstructors) → items_have_float (items_of (constrs_data cs)) ≡ false
in_constrs no_constructors = refl
in_constrs (more_constructors c cs) = neither (of_constr c) (in_constrs cs)

in_types : (ds : List Declaration) → items_have_float (items_of (declared_types ds)) ≡ false
in_types [] = refl
in_types (data_declaration n ps cs ∷ ds) = neither (neither (in_constrs cs) (neither (in_names ps) refl)) (in_types ds)
in_types (newtype_declaration n ps c ∷ ds) = neither (neither (neither (of_constr c) refl) (neither (in_names ps) refl)) (in_types ds)
in_types (synonym_declaration n ps t ∷ ds) = neither (neither (in_names ps) refl) (in_types ds)
in_types (signature ns t ∷ ds) = in_types ds
in_types (clause n ps r ∷ ds) = in_types ds
in_types (pattern_binding line column p r ∷ ds) = in_types ds

in_interface : (f : Interface) → has_float (interface_data f) ≡ false
in_interface f =
    neither (in_list constructor_data (λ e. refl) f.constructors)
    (neither (in_list synonym_data (λ e. refl) f.synonyms)
    (neither (in_list type_data (λ e. refl) f.types)
    (neither (in_list value_data (λ e. refl) f.values) refl)))

in_defines : (ds : List Declaration) → has_float (defines_data ds) ≡ false
in_defines ds = neither (in_types ds) (neither (in_names (runs None (bound_names (declarations ds)))) refl)

in_imports : (is : List Import) → items_have_float (items_of (map (λ i. name_data i.name) is)) ≡ false
in_imports is = in_list (λ i. name_data i.name) (λ i. refl) is

in_texts : (xs : List (List ℕ)) → items_have_float (items_of (map string xs)) ≡ false
in_texts xs = in_list string (λ x. refl) xs

pub no_floats : (file : List ℕ) (m : Module) (status : Status) (blamed : List (List ℕ)) → has_float (module_data file m status blamed) ≡ false
no_floats file m (Published f) blamed = neither (in_defines m.decls) (neither (in_imports m.header.imports) (neither (in_interface f) (neither (in_texts blamed) refl)))
no_floats file m (Failed found) blamed = neither (in_defines m.decls) (neither (in_list fault_data (λ e. refl) found) (neither (in_imports m.header.imports) (neither (in_texts blamed) refl)))
no_floats file m Skipped blamed = neither (in_defines m.decls) (neither (in_imports m.header.imports) (neither (in_texts blamed) refl))
