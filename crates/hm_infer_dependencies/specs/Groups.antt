-- The nodes of a list by their names in the typing's syntax.
use Rattle.std.specs.Prelude.{ℕ, cond, List, [], ◌∷◌, ◌++◌, map, slice_index_or}
use Rattle.hm_syntax.specs.Trees.{Declaration, data_declaration, newtype_declaration, synonym_declaration, signature, clause, pattern_binding, Declarations, no_declarations, more_declarations}
use Rattle.hm_typing.specs.Names.{Identifier, local, binding}
use Rattle.hm_names.specs.Syntax.{Known, is_continued, declaration_count}
use Rattle.hm_names_keys.specs.Variables.{variable_of, identifier}
use Rattle.hm_infer_dependencies.specs.References.{pattern_variables}
use Rattle.hm_infer_dependencies.specs.Nodes.{is_signed}

-- the names of the nodes in the typing's syntax
abbrev pub new_names : Known → Declarations → Declaration → Declarations → List Identifier
new_names k all (data_declaration n ps cs) ds = []
new_names k all (newtype_declaration n ps c) ds = []
new_names k all (synonym_declaration n ps t) ds = []
new_names k all (signature ns t) ds = []
new_names k all (clause n ps r) ds = cond (is_continued n.text ps ds) [] (cond (is_signed all n.text) [] (identifier (variable_of n) ∷ []))
new_names k all (pattern_binding l c p r) ds = map identifier (pattern_variables p) ++ binding k.home (declaration_count ds) ∷ []

abbrev pub node_names : Known → Declarations → Declarations → List Identifier
node_names k all no_declarations = []
node_names k all (more_declarations d ds) = node_names k all ds ++ new_names k all d ds

-- the name of a node of a whole list
abbrev pub node_name : Known → Declarations → ℕ → Identifier
node_name k all j = slice_index_or (node_names k all all) j (local [])
