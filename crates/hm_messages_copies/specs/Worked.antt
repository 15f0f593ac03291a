-- Worked examples of changed sources.
use Rattle.std.specs.Prelude.{◌≡◌, ℕ, ◌+◌, List, [], ◌∷◌, None, Some, codes}
use Rattle.hm_messages_changes.specs.declared.data.Span.{Span}
use Rattle.hm_messages_copies.specs.Changes.{AreNested, Definition, Place, function_of, variable_of, with_declaration}
use Rattle.hm_messages_copies.specs.declared.data.Point.TheVariants.{Expression, Variable}
use Rattle.hm_messages_copies.specs.declared.data.Scoped.TheVariants.{After, Let, Where}

abbrev pub span : ℕ → ℕ → Span
span from to = record { from = from; to = to }

-- the definition with these bytes, whose copy has its name
abbrev pub plain : List ℕ → ℕ → ℕ → Definition
plain name from to = record { whole = span from to; name = name; value = name; local = record { name = name; before = []; after = [] } }

-- one with a signature, whose name at its first byte is written anew
abbrev pub signed : List ℕ → ℕ → ℕ → Definition
signed name from to = record { whole = span from to; name = name; value = name; local = record { name = codes "part'local"; before = span from (from + 1) ∷ []; after = [] } }

-- f x = f x, where the part is the second x, or the first one
abbrev pub f : List ℕ
f = codes "f x = f x"

-- a let in a definition, where the part is the second y, the first y or g
abbrev pub h : List ℕ
h = codes "h = let { g y = y } in g"

-- The whole of f is copied, and its part has a value beside it. With a signature the copy has another name. A parameter is equal to a value in a `where`. A local definition is
-- copied inside of the copy, and its name is equal to a value after it
pub record FunctionsRow : Type 0 where
  pub argument : function_of f (plain (codes "f") 0 9) [] (Expression (span 8 9))
      ≡ codes " ; part'types (part'own, part'here) = case part'own : f : (let { f x = f (case part'here : (x) : [] of { part'same : _ -> part'same }) } in f) : [] of { _ -> () }"
  pub with_signature : function_of f (signed (codes "f") 0 9) [] (Expression (span 8 9))
      ≡ codes " ; part'types (part'own, part'here) = case part'own : f : (let { part'local x = f (case part'here : (x) : [] of { part'same : _ -> part'same }) } in part'local) : [] of { _ -> () }"
  pub parameter : function_of f (plain (codes "f") 0 9) [] (Variable (span 2 3) 9 Where)
      ≡ codes " ; part'types (part'own, part'here) = case part'own : f : (let { f x = f x where { part'same = case part'here : x : [] of { _ -> () } } } in f) : [] of { _ -> () }"
  pub inside : function_of h (plain (codes "h") 0 24) (plain (codes "g") 10 17 ∷ []) (Expression (span 16 17))
      ≡ codes " ; part'types (part'own, part'here) = case part'own : h : (let { h = let { g y = y ; part'copy = case g : (let { g y = (case part'here : (y) : [] of { part'same : _ -> part'same }) } in g) : [] of { _ -> () } } in g } in h) : [] of { _ -> () }"
  pub local_name : function_of h (plain (codes "h") 0 24) [] (Variable (span 10 11) 17 After)
      ≡ codes " ; part'types (part'own, part'here) = case part'own : h : (let { h = let { g y = y ; part'same = case part'here : g : [] of { _ -> () } } in g } in h) : [] of { _ -> () }"

-- the declaration is before the last brace, and the variable in the export list if there is one
pub record SourcesRow : Type 0 where
  pub exported : with_declaration (codes "module A (f) where { f = 1 }") (record { exported = Some 10; names = []; at = 27 }) (variable_of (codes "A.f"))
      ≡ codes "module A (part'types , f) where { f = 1  ; part'types = A.f}"
  pub whole : with_declaration (codes "module A where { f = 1 }") (record { exported = None; names = []; at = 23 }) (variable_of (codes "A.f"))
      ≡ codes "module A where { f = 1  ; part'types = A.f}"
  pub not_listed : ¬ (with_declaration (codes "module A where { f = 1 }") (record { exported = None; names = []; at = 23 }) (variable_of (codes "A.f"))
      ≡ codes "module A (part'types , f) where { f = 1  ; part'types = A.f}")

-- y is in g, and g in h. x isn't in the first six bytes
pub record NestedRow : Type 0 where
  pub inside : AreNested h 0 24 (plain (codes "h") 0 24 ∷ plain (codes "g") 10 17 ∷ []) (Expression (span 16 17))
  pub outside : ¬ (AreNested f 0 9 (plain (codes "f") 0 6 ∷ []) (Expression (span 8 9)))
