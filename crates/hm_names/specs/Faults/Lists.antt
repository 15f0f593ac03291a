-- Faults of declaration lists: duplicates, and signatures without a binding (Report 4.2, 4.4.1, 4.4.3).
use Rattle.std.specs.Prelude.{◌≡◌, ℕ, cond, ◌&&◌, ◌==◌, not, Bool, true, false, List, [], ◌∷◌, ◌++◌, map, Option, None, Some, ◌⊎◌, Contains}
use Rattle.hm_syntax.specs.Names.{Identifier}
use Rattle.hm_syntax.specs.Trees.{Patterns, no_patterns, more_patterns, Declarations, no_declarations, more_declarations, data_declaration, newtype_declaration, synonym_declaration, signature, clause, pattern_binding}
use Rattle.hm_names.specs.declared.faults.Kind.{Kind}
use Rattle.hm_names.specs.declared.faults.Kind.TheVariants.{Duplicate, NoBinding}
use Rattle.hm_names.specs.Texts.{same_text, is_text_among}
use Rattle.hm_names.specs.Variables.{texts, pattern_variables, pattern_count, clause_names}
use Rattle.hm_names.specs.Entities.{constructor_list, constructor_name}
use Rattle.hm_names.specs.Walk.{Node, at_parameters, at_list}

-- n comes after another name with the same text
abbrev pub Repeats : List Identifier → Identifier → Type 0
Repeats [] n = ⊥
Repeats (k ∷ ks) n = (Contains ks n × (n.text ≡ k.text)) ⊎ Repeats ks n

-- the names that are the first with their text, and whose text wasn't seen before
abbrev pub firsts : List (List ℕ) → List Identifier → List Identifier
firsts seen [] = []
firsts seen (n ∷ ns) = cond (is_text_among n.text seen) (firsts seen ns) (n ∷ firsts (n.text ∷ seen) ns)

-- The names that a list declares

abbrev pub type_names : Declarations → List Identifier
type_names no_declarations = []
type_names (more_declarations (data_declaration n ps cs) ds) = n ∷ type_names ds
type_names (more_declarations (newtype_declaration n ps c) ds) = n ∷ type_names ds
type_names (more_declarations (synonym_declaration n ps t) ds) = n ∷ type_names ds
type_names (more_declarations (signature ns t) ds) = type_names ds
type_names (more_declarations (clause n ps r) ds) = type_names ds
type_names (more_declarations (pattern_binding line column p r) ds) = type_names ds

abbrev pub constructor_names : Declarations → List Identifier
constructor_names no_declarations = []
constructor_names (more_declarations (data_declaration n ps cs) ds) = map constructor_name (constructor_list cs) ++ constructor_names ds
constructor_names (more_declarations (newtype_declaration n ps c) ds) = constructor_name c ∷ constructor_names ds
constructor_names (more_declarations (synonym_declaration n ps t) ds) = constructor_names ds
constructor_names (more_declarations (signature ns t) ds) = constructor_names ds
constructor_names (more_declarations (clause n ps r) ds) = constructor_names ds
constructor_names (more_declarations (pattern_binding line column p r) ds) = constructor_names ds

abbrev pub signed_names : Declarations → List Identifier
signed_names no_declarations = []
signed_names (more_declarations (data_declaration n ps cs) ds) = signed_names ds
signed_names (more_declarations (newtype_declaration n ps c) ds) = signed_names ds
signed_names (more_declarations (synonym_declaration n ps t) ds) = signed_names ds
signed_names (more_declarations (signature ns t) ds) = ns ++ signed_names ds
signed_names (more_declarations (clause n ps r) ds) = signed_names ds
signed_names (more_declarations (pattern_binding line column p r) ds) = signed_names ds

-- Adjacent clauses of one variable with at least one pattern are one binding. A clause without patterns is a binding alone (Report 4.4.3.1)

abbrev pub has_patterns : Patterns → Bool
has_patterns no_patterns = false
has_patterns (more_patterns p ps) = true

-- the binding that the next clause may continue: its variable, and the number of patterns of its first clause
abbrev pub OpenBinding : Type 0
OpenBinding = Option (List ℕ × ℕ)

abbrev pub opened : Identifier → Patterns → OpenBinding
opened n ps = cond (has_patterns ps) (Some (n.text, pattern_count ps)) None

abbrev pub goes_on : OpenBinding → Identifier → Patterns → Bool
goes_on None n ps = false
goes_on (Some b) n ps = same_text b.0 n.text && has_patterns ps

-- the variables of the bindings of a list, after an open one: that of each clause that begins a binding, and those of each pattern binding. A
-- variable that occurs twice in a pattern counts once
abbrev pub binding_names : OpenBinding → Declarations → List Identifier
binding_names b no_declarations = []
binding_names b (more_declarations (data_declaration n ps cs) ds) = binding_names None ds
binding_names b (more_declarations (newtype_declaration n ps c) ds) = binding_names None ds
binding_names b (more_declarations (synonym_declaration n ps t) ds) = binding_names None ds
binding_names b (more_declarations (signature ns t) ds) = binding_names None ds
binding_names b (more_declarations (clause n ps r) ds) = cond (goes_on b n ps) (binding_names b ds) (n ∷ binding_names (opened n ps) ds)
binding_names b (more_declarations (pattern_binding line column p r) ds) = firsts [] (pattern_variables p) ++ binding_names None ds

abbrev pub has_other_length : OpenBinding → Patterns → Bool
has_other_length None ps = false
has_other_length (Some b) ps = not (b.1 == pattern_count ps)

-- the clauses that continue a binding, but have another number of patterns than its first clause
abbrev pub other_lengths : OpenBinding → Declarations → List Identifier
other_lengths b no_declarations = []
other_lengths b (more_declarations (data_declaration n ps cs) ds) = other_lengths None ds
other_lengths b (more_declarations (newtype_declaration n ps c) ds) = other_lengths None ds
other_lengths b (more_declarations (synonym_declaration n ps t) ds) = other_lengths None ds
other_lengths b (more_declarations (signature ns t) ds) = other_lengths None ds
other_lengths b (more_declarations (clause n ps r) ds) =
    cond (goes_on b n ps) (cond (has_other_length b ps) (n ∷ other_lengths b ds) (other_lengths b ds)) (other_lengths (opened n ps) ds)
other_lengths b (more_declarations (pattern_binding line column p r) ds) = other_lengths None ds

-- the faults: a second type, constructor, binding or signature of a name in one list; a second parameter; and a signature whose variable
-- has no binding by clauses in the same list (the Report's 4.4.1 also allows signatures of a pattern binding's variables)
pub data ListFault : Node → Kind → Identifier → Type 0 where
  second_type : {ds : Declarations} {n : Identifier} → Repeats (type_names ds) n → ListFault (at_list ds) Duplicate n
  second_constructor : {ds : Declarations} {n : Identifier} → Repeats (constructor_names ds) n → ListFault (at_list ds) Duplicate n
  second_binding : {ds : Declarations} {n : Identifier} → Repeats (binding_names None ds) n → ListFault (at_list ds) Duplicate n
  second_signature : {ds : Declarations} {n : Identifier} → Repeats (signed_names ds) n → ListFault (at_list ds) Duplicate n
  second_parameter : {n : Identifier} {ps vs : List Identifier} → Repeats ps n → ListFault (at_parameters ps vs) Duplicate n
  no_binding : {ds : Declarations} {n : Identifier} → Contains (signed_names ds) n → ¬ (Contains (texts (clause_names ds)) n.text) → ListFault (at_list ds) NoBinding n
