use Rattle.std.proofs.Common.{refl, Contains}
use Rattle.hm_scope_imports.specs.Gathered.{bare}
use Rattle.hm_scope_imports.proofs.SelectionLemmas.{not_tells}
use Rattle.hm_scope_imports.proofs.selections.Selection.selects.Goals as goal

pub returns-in-Every : goal.returns-in-Every
returns-in-Every c = rw c.in-Every.is (λ _. tt, λ _. refl)

pub returns-in-Only : goal.returns-in-Only
returns-in-Only c = rw c.in-Only.is c.contains.ensures

pub returns-in-Hiding : goal.returns-in-Hiding
returns-in-Hiding c = rw c.in-Hiding.is (not_tells c.contains-in-Hiding.result (Contains c.in-Hiding.names (bare c.args.space c.args.text.now)) c.contains-in-Hiding.ensures)
