-- Names in the modules of a set, and which of them mean the same.
use Rattle.std.specs.Prelude.{◌≡◌, ⊤, ℕ}
use Rattle.hm_uses.specs.Uses.{Sense, UseOf, local_variable, type_variable, an_entity, a_module, a_prefix, unbound, ambiguous}

-- a name that is written in a module of a set, with the number of the module and that of the source that the module is in
pub record SetName : Type 0 where
  pub number : ℕ
  pub source : ℕ
  pub used : UseOf

abbrev pub name_in : ℕ → ℕ → UseOf → SetName
name_in number source u = record { number = number; source = source; used = u }

-- names of modules i and j can have this meaning: an entity and a module are those of the whole set, and all else is bound in one module.
-- What isn't bound, or is ambiguous, is no meaning that names share
abbrev pub IsShared : ℕ → ℕ → Sense → Type 0
IsShared i j (local_variable l c) = i ≡ j
IsShared i j (type_variable l c) = i ≡ j
IsShared i j (an_entity e) = ⊤
IsShared i j (a_module x) = ⊤
IsShared i j (a_prefix x) = i ≡ j
IsShared i j unbound = ⊥
IsShared i j ambiguous = ⊥

-- the names mean the same. The kind matters because a type and a constructor may be called alike
pub record IsSame (m n : SetName) : Type 0 where
  pub kind : m.used.mention.kind ≡ n.used.mention.kind
  pub sense : m.used.sense ≡ n.used.sense
  pub shared : IsShared m.number n.number m.used.sense
