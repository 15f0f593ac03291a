use Rattle.std.proofs.Common.{◌≡◌, ◌∙◌, ◌++◌, ap, arith, length, map, refl, subst, sym, true}
use Rattle.hm_syntax.specs.Lists.{patterns}
use Rattle.hm_syntax.specs.Trees.{more_declarations}
use Rattle.hm_syntax.specs.Views.OfExpressions.{declaration_of}
use Rattle.hm_names.proofs.Rows.{patterns_counted}
use Rattle.hm_names.specs.Faults.Lists.{goes_on}
use Rattle.hm_messages_details.specs.Counts.{later_clauses}
use Rattle.hm_messages_details.specs.Parts.{later_of}
use Rattle.hm_messages_details.proofs.LaterClauses.{later_more}
use Rattle.hm_messages_details.proofs.lengths.add_later.Goals as goal

pub returns-in_ok-push-in-Clause : goal.returns-in_ok-push-in-Clause
returns-in_ok-push-in-Clause c = λ ds.
    let b = c.args.begun in
    let n = c.in-Clause.name in
    let row = c.in-Clause.pats.items in
    let old = c.args.out.now.items in
    let new = c.push.new.self.items in
    let goes : goes_on b n (patterns row) ≡ true =
    subst (λ l. goes_on b n (patterns l) ≡ true) c.deref.ensures.value (sym c.goes_on.ensures ∙ c.if-not-goes_on.false) in
    let counted : c.len.result ≡ length row = omega (arith, c.len.ensures, c.in-Clause.pats.ok.0) in
    subst (λ d. map later_of new ++ later_clauses b ds ≡ map later_of old ++ later_clauses b (more_declarations d ds)) (ap declaration_of (sym c.in-Clause.is) ∙ c.decl.view_is)
    (later_more b n (patterns row) c.in-Clause.rhs ds old new _ c.in_ok-push-in-Clause.ensures.items goes refl (counted ∙ sym (patterns_counted row)) c.first_length.ensures)
