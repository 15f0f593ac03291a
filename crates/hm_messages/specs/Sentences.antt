-- The rule that a fault breaks.
use Rattle.std.specs.Prelude.{Bool, ℕ, List, [], codes, cond}
use Rattle.hm_names.specs.declared.faults.Kind.{Kind}
use Rattle.hm_names.specs.declared.faults.Kind.TheVariants.{NotExported, Duplicate, NoBinding, Unbound, Ambiguous, ExportClash, NotImported, NonLinear, Arity, ClauseLength, Untyped, Recursive}

abbrev pub fault_sentence : Kind → List ℕ
fault_sentence NotExported = codes "The imported module doesn't export this name, or not as a constructor of this type.\n"
fault_sentence Duplicate = codes "A name has one declaration, one signature and one parameter in a list; the clauses of a function must stand together.\n"
fault_sentence NoBinding = codes "A variable with a signature needs clauses in the same list; a variable of a pattern can't have a signature.\n"
fault_sentence Unbound = codes "No declaration, import or parameter gives this name a meaning here.\n"
fault_sentence Ambiguous = codes "Several things in scope have this name. Write a qualifier that only one has, or hide the others in their imports.\n"
fault_sentence ExportClash = codes "An export list gives each name to one thing.\n"
fault_sentence NotImported = codes "`module N` in an export list exports what the imports called N give.\n"
fault_sentence NonLinear = codes "The patterns of one clause, lambda, alternative or binding have each variable once.\n"
fault_sentence Arity = codes "A type, synonym or constructor takes as many arguments as its declaration gives it.\n"
fault_sentence ClauseLength = codes "Each clause of a function has as many patterns as the first one.\n"
fault_sentence Untyped = codes "No types fit this definition and those that refer back to it. All others that it refers to have types or signatures.\n"
fault_sentence Recursive = codes "A synonym is replaced by its right side, so that would never end; use `data` or `newtype`.\n"

-- two types that are equal only if a type contains itself (the occurs check)
abbrev pub types_sentence : Bool → List ℕ
types_sentence infinite = cond infinite (codes "No type is both: it would contain itself, and so be infinite.\n") []
