use Rattle.std.proofs.Common.{ap, ◌∙◌, List, ℕ}
use Rattle.hm_names.specs.Entities.{named}
use Rattle.hm_scope_imports.proofs.in_scope.add_own.Goals as goal

pub returns : goal.returns
returns c =
    let m : List ℕ = c.args.module_name.now in
    let t = c.as_str-text.ensures in
    let home = c.as_str.ensures in
    let entity = c.new.ensures ∙ ap (λ (x : List ℕ). named m x) c.as_text.ensures in
    rw home at (rw t at (rw entity at c.in_ok-add_both.ensures))
