use Rattle.std.proofs.Common.{◌≡◌, ◌∙◌, ◌++◌, sym, ap, subst, List, ℕ}
use Rattle.hm_syntax.specs.Names.{Identifier}
use Rattle.hm_syntax.specs.Views.OfExpressions.{declaration_of}
use Rattle.hm_names.specs.Bindings.{Adds}
use Rattle.hm_names.specs.Variables.{pattern_variables}
use Rattle.hm_scope_interface_entries.proofs.BoundNames.{binds_clause, binds_pattern}
use Rattle.hm_scope_tables.proofs.AddedTexts.{text_added}
use Rattle.hm_scope_interface_entries.proofs.known_exports.add_bound.Goals as goal

pub returns-in_ok-insert-in-Clause : goal.returns-in_ok-insert-in-Clause
returns-in_ok-insert-in-Clause c =
    let seen = ap declaration_of (sym c.in-Clause.is) ∙ c.decl.view_is in
    (binds_clause c.in-Clause.name c.args.decl.now c.args.out.now c.insert.new.self seen (subst (λ (t : List ℕ). Adds c.args.out.now c.insert.new.self (λ x. t ≡ x)) c.as_str.ensures (text_added c.as_str.result.now c.args.out.now c.insert.new.self c.in_ok-insert-in-Clause.ensures.texts)))

pub returns-in_ok-add_names-in-Pattern : goal.returns-in_ok-add_names-in-Pattern
returns-in_ok-add_names-in-Pattern c =
    let seen = ap declaration_of (sym c.in-Pattern.is) ∙ c.decl.view_is in
    let all = c.as_slice.ensures ∙ (c.in_ok-add_pattern-in-Pattern.ensures ∙ ap (λ (l : List Identifier). l ++ pattern_variables c.in-Pattern.pat) c.new-names.ensures) in
    (binds_pattern c.in-Pattern.pat c.args.decl.now c.as_slice.result.now c.args.out.now c.add_names.new.out seen all c.in_ok-add_names-in-Pattern.ensures)
