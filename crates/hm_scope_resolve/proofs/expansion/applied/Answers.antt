use Rattle.std.proofs.Common.{◌≡◌, sym, subst, arith}
use Rattle.hm_syntax.specs.Trees.{unit_type}
use Rattle.hm_syntax.specs.Lists.{types}
use Rattle.hm_names.specs.Expansion.{applied_at}
use Rattle.hm_scope_resolve.proofs.Expanded.{few}
use Rattle.hm_scope_resolve.proofs.expansion.applied.Goals as goal

pub returns-then-len-lt2 : goal.returns-then-len-lt2
returns-then-len-lt2 c =
    subst (λ h. unit_type ≡ applied_at c.args.name.now h (types c.args.parts.items)) (sym c.in-Arrow.is)
    (few c.args.parts.items (omega (arith, c.args.parts.ok.0, c.len.ensures, c.if-len-lt2.true)))
