-- Worked examples of holes, parts, verdicts, sources and mends.
use Rattle.std.specs.Prelude.{◌≡◌, ℕ, ◌+◌, List, [], ◌∷◌, Contains, codes}
use Rattle.hm_lex.specs.declared.token.Place.{Place}
use Rattle.hm_types.specs.Interfaces.{Exports as Interface}
use Rattle.hm_types.specs.StandardPrelude.{prelude_interface}
use Rattle.hm_syntax.specs.declared.ast.Module.{Module}
use Rattle.hm_run_sources.specs.SourceModules.{HasModules}
use Rattle.hm_names.specs.declared.faults.Fault.{Fault}
use Rattle.hm_names.specs.declared.faults.Kind.{Kind}
use Rattle.hm_names.specs.declared.faults.Kind.TheVariants.{Arity, Untyped}
use Rattle.hm_verdicts.specs.ModuleVerdicts.{Good, Faulty, IsVerdict}
use Rattle.hm_verdicts.specs.Worked.{module_A, module_B}
use Rattle.hm_messages_trials.specs.TypedSources.{AreTyped, HasTypesIn}
use Rattle.hm_messages_changes.specs.Holes.{IsPartOf, with_hole, without}
use Rattle.hm_messages_changes.specs.Wildcards.{IsInside, bindings, with_wildcard}
use Rattle.hm_messages_changes.specs.Constructors.{with_constructor}
use Rattle.hm_messages_changes.specs.Exchanges.{with_exchanged}
use Rattle.hm_messages_changes.specs.Insertions.{with_insertion}
use Rattle.hm_messages_changes.specs.declared.insertions.Insertion.TheVariants.{Brackets, ListBrackets, Argument, Semicolon, Comma}
use Rattle.hm_messages_changes.specs.declared.data.Frame.TheVariants.{Where, Front}
use Rattle.hm_messages_changes.specs.declared.data.Span.{Span}
use Rattle.hm_messages_changes.specs.declared.data.SourceRange.{SourceRange}

-- with the hole in place of x, and before x in place of no bytes
pub record HolesRow : Type 0 where
  pub argument : with_hole (codes "f x") 2 3 ≡ codes "f (let { h = h } in h)"
  pub nothing : ¬ (with_hole (codes "f x") 2 2 ≡ codes "f (let { h = h } in h)")

abbrev pub at_column : ℕ → Place
at_column column = record { line = 1; column = column }

-- x is the part from byte 2 to byte 3. No bytes are not a part
pub record PartsRow : Type 0 where
  pub argument : IsPartOf (codes "f x") (record { from = 2; to = 3; start = at_column 3; end = at_column 3 })
  pub empty : ¬ (IsPartOf (codes "f x") (record { from = 2; to = 2; start = at_column 3; end = at_column 2 }))

abbrev pub reported_by : Kind → List ℕ → Fault
reported_by kind name = record { place = at_column 18; kind = kind; name = name }

-- f has a type if the module is good, or has only a type fault of g. It has none if f is a type fault, and none by this definition if g has a fault of
-- another kind
pub record VerdictsRow : Type 0 where
  pub good : (f : Interface) → AreTyped (codes "f" ∷ []) (Good f)
  pub elsewhere : AreTyped (codes "f" ∷ []) (Faulty (reported_by Untyped (codes "g") ∷ []))
  pub here : ¬ (AreTyped (codes "f" ∷ []) (Faulty (reported_by Untyped (codes "f") ∷ [])))
  pub of_names : ¬ (AreTyped (codes "f" ∷ []) (Faulty (reported_by Arity (codes "g") ∷ [])))

-- the module A has only x = 'c' and is good, and the module B exports a module that it doesn't import. In a source of A alone each definition of A has a
-- type, and none of a module B has one. In a source of B alone none has one, because the fault of B is of another kind. A definition that is a type fault
-- of the only module has no type
pub record TypesRow : Type 0 where
  pub good : (source : List ℕ) (names : List (List ℕ)) → HasModules source (module_A ∷ []) → HasTypesIn source (codes "A") [] names
  pub unnamed : (source : List ℕ) (names : List (List ℕ)) → HasModules source (module_A ∷ []) → ¬ (HasTypesIn source (codes "B") [] names)
  pub of_names : (source : List ℕ) (names : List (List ℕ)) → HasModules source (module_B ∷ []) → ¬ (HasTypesIn source (codes "B") [] names)
  pub untyped : (source name : List ℕ) (fs : List Interface) (names : List (List ℕ)) (m : Module) (found : List Fault) (f : Fault) → HasModules source (m ∷ [])
      → IsVerdict m (prelude_interface ∷ fs) (Faulty found) → Contains found f → Contains names f.name → ¬ (HasTypesIn source name fs names)

abbrev pub span : ℕ → ℕ → Span
span from to = record { from = from; to = to }

abbrev pub part : ℕ → ℕ → SourceRange
part from to = record { from = from; to = to; start = at_column (from + 1); end = at_column to }

-- Without its pattern [x], f has x in a where of its own; where it has one, x is the first of it. With x and y exchanged, each is in brackets. With y left
-- out, x stays. Each text is put in around a part: brackets around g x aren't brackets around g
pub record MendsRow : Type 0 where
  pub own : with_wildcard (codes "f [x] = x") 2 5 9 (bindings (codes "f [x] = x") Where (span 3 4 ∷ [])) ≡ codes "f _ = x where { x = (let { h = h } in h) ; }"
  pub there : with_wildcard (codes "f [x] = y where {y = x}") 2 5 17 (bindings (codes "f [x] = y where {y = x}") Front (span 3 4 ∷ [])) ≡ codes "f _ = y where { x = (let { h = h } in h) ; y = x}"
  pub inside : IsInside (part 2 5) (span 3 4)
  pub outside : ¬ (IsInside (part 2 5) (span 8 9))
  pub exchanged : with_exchanged (codes "f x y") (part 2 3) (part 4 5) ≡ codes "f (y) (x)"
  pub stays : ¬ (with_exchanged (codes "f x y") (part 2 3) (part 4 5) ≡ codes "f (x) (y)")
  pub left : without (codes "f x y") 4 5 ≡ codes "f x "
  pub other : ¬ (without (codes "f x y") 2 3 ≡ codes "f x ")
  pub brackets : with_insertion (codes "f g x") Brackets (part 2 5) ≡ codes "f (g x)"
  pub elsewhere : ¬ (with_insertion (codes "f g x") Brackets (part 2 3) ≡ codes "f (g x)")
  pub list : with_insertion (codes "f x") ListBrackets (part 2 3) ≡ codes "f [x]"
  pub argument : with_insertion (codes "f x") Argument (part 0 3) ≡ codes "(f x (let { h = h } in h))"
  pub semicolon : with_insertion (codes "x y :: T") Semicolon (part 2 3) ≡ codes "x ; y :: T"
  pub comma : with_insertion (codes "[x y]") Comma (part 3 4) ≡ codes "[x , y]"

-- Just in front of x, which is in brackets, and so isn't Just x without brackets
pub record WrappedRow : Type 0 where
  pub just : with_constructor (codes "f x") (codes "Just") (part 2 3) ≡ codes "f (Just (x))"
  pub plain : ¬ (with_constructor (codes "f x") (codes "Just") (part 2 3) ≡ codes "f Just (x)")
