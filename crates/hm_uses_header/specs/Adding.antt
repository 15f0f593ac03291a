-- The uses that a walk over a header adds. No public clause names these.
use Rattle.std.specs.Prelude.{◌≡◌, true, List, ◌++◌, map, All}
use Rattle.hm_types.specs.Interfaces.{Exports as Interface}
use Rattle.hm_syntax.specs.declared.ast.Module.{Module}
use Rattle.hm_syntax.specs.declared.ast.Header.{Header}
use Rattle.hm_uses.specs.declared.name_kind.NameKind.TheVariants.{ModuleName}
use Rattle.hm_uses.specs.Mentions.{Mention, mention, export_list_mentions, imports_mentions}
use Rattle.hm_uses.specs.Uses.{IsUse, UseOf}

-- the new uses have these mentions besides those of the old ones, in order, each with a meaning that it has if P holds
pub record Adds (old new : List UseOf) (ms : List Mention) (P : Module → List Interface → Type 0) : Type 0 where
  pub names : map (λ u. u.mention) new ≡ map (λ u. u.mention) old ++ ms
  pub meanings : (m : Module) (fs : List Interface) → P m fs → All (IsUse m fs) old → All (IsUse m fs) new

-- the same within a row of names with the mentions ms, of which the last ones are left
pub record Leaves (old new : List UseOf) (left ms : List Mention) (P : Module → List Interface → Type 0) : Type 0 where
  pub names : map (λ u. u.mention) new ++ left ≡ map (λ u. u.mention) old ++ ms
  pub meanings : (m : Module) (fs : List Interface) → P m fs → All (IsUse m fs) old → All (IsUse m fs) new

-- the names of a header
abbrev pub header_mentions : Header → List Mention
header_mentions h = mention ModuleName true h.name ++ (export_list_mentions h.exports ++ imports_mentions h.imports)
