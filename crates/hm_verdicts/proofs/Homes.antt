-- The module that a name is of.
use Rattle.std.proofs.Common.{◌≡◌, ℕ, List, inl, inr, refl, sym, subst}
use Rattle.hm_types.specs.Interfaces.{Exports as Interface}
use Rattle.hm_typing.specs.Names.{Identifier, local, global, binding, IsOneOf}
use Rattle.hm_typing.specs.Syntax.{names}
use Rattle.hm_syntax.specs.declared.ast.Module.{Module}
use Rattle.hm_names.specs.ModuleCores.{ModuleCore}
use Rattle.hm_names.specs.Cores.{IsCore, syntax_of}
use Rattle.hm_names.specs.Laws.{IsOwn}
use Rattle.hm_names.proofs.TopVariables.{own_names_of_core}

-- a name of the module that is called so
abbrev pub IsOf : List ℕ → Identifier → Type 0
IsOf m (local x) = ⊥
IsOf m (global e) = e.«module» ≡ m
IsOf m (binding n k) = n ≡ m

is_of : (m : Module) (x : Identifier) → IsOwn m x → IsOf m.header.name.text x
is_of m x (inl q) = subst (λ z. IsOf m.header.name.text z) (sym q.1) refl
is_of m x (inr q) = subst (λ z. IsOf m.header.name.text z) (sym q.1) refl

pub home : (m : Module) (fs : List Interface) (c : ModuleCore) → IsCore m fs c → (x : Identifier) → IsOneOf x (names (syntax_of c)) → IsOf m.header.name.text x
home m fs c is x o = is_of m x (own_names_of_core m fs c is x o)
