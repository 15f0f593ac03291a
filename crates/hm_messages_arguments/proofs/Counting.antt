-- Numbers of arguments of what the code has found.
use Rattle.std.proofs.Common.{◌≡◌, ℕ, List, Contains, flat_map, subst, sym}
use Rattle.hm_lex.specs.declared.token.Place.{Place}
use Rattle.hm_names.specs.Faults.Phases.{written}
use Rattle.hm_run_sources.specs.SourceModules.{HasModules}
use Rattle.hm_syntax.specs.declared.ast.Module.{Module}
use Rattle.hm_messages_arguments.specs.Applied.{applied_of, module_applied}
use Rattle.hm_messages_arguments.specs.Counts.{HasArguments, place_of}
use Rattle.hm_messages_arguments.specs.declared.applied.Applied.{Applied}

pub counted : (source : List ℕ) (modules : List Module) (a : Applied) (p : Place) (f : List ℕ) (n : ℕ) → HasModules source modules
    → Contains (flat_map module_applied modules) (applied_of a) → p ≡ place_of a.name.now → f ≡ written a.name.now → n ≡ a.arguments → HasArguments source p f n
counted source modules a p f n read there placed named same = record {
  modules = modules;
  read = read;
  name = a.name.now;
  applied = subst (λ k. Contains (flat_map module_applied modules) (record { name = a.name.now; arguments = k })) (sym same) there;
  placed = placed;
  named = named;
}
