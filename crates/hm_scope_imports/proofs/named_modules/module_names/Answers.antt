use Rattle.std.proofs.Common.{◌≡◌, ℕ, List, subst, true, false, ◌∙◌, sym}
use Rattle.hm_names.specs.Bindings.{Adds}
use Rattle.hm_scope_imports.proofs.WholeNames.{names_with, names_without}
use Rattle.hm_scope_imports.proofs.named_modules.module_names.Goals as goal

pub returns-then-names_prelude : goal.returns-then-names_prelude
returns-then-names_prelude c = λ x.
    let m = c.args.program.now in
    let is = c.as_slice-imports.ensures in
    names_with m x c.new-names.result c.add_name.new.names c.add_imports.new.names c.new-names.ensures
    (subst (λ (t : List ℕ). Adds c.new-names.result c.add_name.new.names (λ y. t ≡ y)) c.as_str.ensures c.in_ok-add_name.ensures)
    (rw is at c.in_ok-add_imports.ensures)
    ((rw is at c.names_prelude.ensures).0 c.if-names_prelude.true)

pub returns : goal.returns
returns c = λ x.
    let m = c.args.program.now in
    let is = c.as_slice-imports.ensures in
    names_without m x c.new-names.result c.add_name.new.names c.add_imports.new.names c.add_name-2.new.names c.new-names.ensures
    (subst (λ (t : List ℕ). Adds c.new-names.result c.add_name.new.names (λ y. t ≡ y)) c.as_str.ensures c.in_ok-add_name.ensures)
    (rw is at c.in_ok-add_imports.ensures)
    c.in_ok-add_name-2.ensures
    (λ h. let t : false ≡ true = sym c.if-names_prelude.false ∙ (rw is at c.names_prelude.ensures).1 h in cc)
