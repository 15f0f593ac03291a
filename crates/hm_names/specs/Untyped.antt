-- Type faults of a core: a fault for each unit without a type, named after its first binding in the text (Report 4.5.1).
use Rattle.std.specs.Prelude.{◌≡◌, ℕ, List, [], ◌∷◌, length, None, ◌↔◌, Contains, codes}
use Rattle.hm_typing.specs.Names.{Identifier as Name, IsOneOf, binding}
use Rattle.hm_typing.specs.Verdicts.{AreTypeFaults}
use Rattle.hm_syntax.specs.Names.{Identifier}
use Rattle.hm_syntax.specs.Trees.{Pattern, Patterns, RightSide, Declaration, clause, pattern_binding}
use Rattle.hm_names.specs.ModuleCores.{ModuleCore}
use Rattle.hm_names.specs.declared.faults.Fault.{Fault}
use Rattle.hm_names.specs.declared.faults.Kind.TheVariants.{Untyped}
use Rattle.hm_names.specs.Variables.{pattern_variables}
use Rattle.hm_names.specs.Syntax.{name_of}
use Rattle.hm_names.specs.Cores.{syntax_of, assumptions}
use Rattle.hm_names.specs.Faults.Phases.{AreOrdered, fault}

abbrev pub bare : ℕ → ℕ → List ℕ → Identifier
bare line column x = record { qualifier = None; text = x; line = line; column = column }

-- the text of the first name, or _
abbrev pub first_text : List Identifier → List ℕ
first_text [] = codes "_"
first_text (n ∷ ns) = n.text

-- the binding of x begins with this declaration, which has k declarations after it, and its fault has the name n: that of the clause or, for a
-- pattern binding, its first variable at the place of the pattern. x is one of its variables, or its own name
pub data Begins (c : ModuleCore) (x : Name) : Declaration → ℕ → Identifier → Type 0 where
  by_clause : {n : Identifier} {ps : Patterns} {r : RightSide} {k : ℕ} → x ≡ name_of n → Begins c x (clause n ps r) k (bare n.line n.column n.text)
  by_pattern : {line column : ℕ} {p : Pattern} {r : RightSide} {k : ℕ} {n : Identifier} →
      Contains (pattern_variables p) n → x ≡ name_of n → Begins c x (pattern_binding line column p r) k (bare line column (first_text (pattern_variables p)))
  by_number : {line column : ℕ} {p : Pattern} {r : RightSide} {k : ℕ} → x ≡ binding c.name k → Begins c x (pattern_binding line column p r) k (bare line column (first_text (pattern_variables p)))

-- n is the name that the first declaration of the binding of x gives
pub data IsTold (c : ModuleCore) (x : Name) : List Declaration → Identifier → Type 0 where
  here : {d : Declaration} {ds : List Declaration} {n : Identifier} → Begins c x d (length ds) n → IsTold c x (d ∷ ds) n
  behind : {d : Declaration} {ds : List Declaration} {n : Identifier} → ((o : Identifier) → ¬ (Begins c x d (length ds) o)) → IsTold c x ds n → IsTold c x (d ∷ ds) n

-- the faults of these units of a core, each with the first name of the unit, in order
pub record AreToldAs (c : ModuleCore) (units : List Name) (found : List Fault) : Type 0 where
  pub some : ¬ (found ≡ [])
  pub exact : (f : Fault) → Contains found f ↔ ((x : Name) × ((n : Identifier) × (IsOneOf x units × IsTold c x c.decls n × (f ≡ fault Untyped n))))
  pub ordered : AreOrdered found

-- the faults of a core that has type faults: one for each unit without a type
pub record AreUntyped (c : ModuleCore) (found : List Fault) : Type 0 where
  pub units : List Name
  pub faulty : AreTypeFaults (assumptions c) (syntax_of c) units
  pub told : AreToldAs c units found
