use Rattle.std.proofs.Common.{◌∙◌, ap, sym, subst, map, All}
use Rattle.hm_uses.specs.Uses.{IsUse, UseOf}
use Rattle.hm_uses.specs.Found.{Known}
use Rattle.hm_uses_declarations.proofs.Steps.{found_in_module}
use Rattle.hm_uses_declarations.proofs.module_walk.declaration_uses.Goals as goal

pub returns-clause-names : goal.returns-clause-names
returns-clause-names c =
    let k : Known = record { home = c.as_text.result.now; top = c.in_ok-top.top; pairs = c.args.scope.now } in
    let found = found_in_module k c.args.program.now.decls c.as_slice.result.now c.new-walk.result c.decl_row.new.self c.into_found.result.items c.new-walk.ensures c.as_slice.ensures c.in_ok-decl_row.ensures c.into_found.ensures in
    ap (map (λ (u : UseOf). u.mention)) found ∙ c.found_uses.ensures.names k c.args.program.now

pub returns-clause-meanings : goal.returns-clause-meanings
returns-clause-meanings c = λ fs scope.
    let k : Known = record { home = c.as_text.result.now; top = c.in_ok-top.top; pairs = c.args.scope.now } in
    let found = found_in_module k c.args.program.now.decls c.as_slice.result.now c.new-walk.result c.decl_row.new.self c.into_found.result.items c.new-walk.ensures c.as_slice.ensures c.in_ok-decl_row.ensures c.into_found.ensures in
    subst (All (IsUse c.args.program.now fs)) (sym found) (c.found_uses.ensures.meanings c.args.program.now fs k (record { home = c.as_text.ensures; top = c.in_ok-top.ensures; scope = scope }))
