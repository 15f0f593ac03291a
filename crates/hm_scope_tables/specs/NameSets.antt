-- Sets of names. No public clause names them.
use Rattle.std.specs.Prelude.{ℕ, List, Option, map, option_map}
use Rattle.hm_names.specs.declared.namespace.Namespace.{Namespace}
use Rattle.hm_scope_tables.specs.declared.keys.Key.{Key}

-- a name, bare or qualified, in a namespace
pub record FullName : Type 0 where
  pub space : Namespace
  pub qualifier : Option (List ℕ)
  pub text : List ℕ

abbrev pub full_name : Key → FullName
full_name k = record { space = k.space; qualifier = option_map (λ q. q.now) k.qualifier; text = k.text.now }

abbrev pub full_names : List Key → List FullName
full_names ks = map full_name ks
