use Rattle.std.proofs.Common.{rules, ◌≡◌, Some, codes, subst}
use Rattle.std.proofs.lemmas.Bool.{both_ways}
use Rattle.std.specs.List.{Any}
use Rattle.serde_json.specs.Find.{get}
use Rattle.serde_json.specs.Read.{read}
use Rattle.serde_json.specs.View.{view}
use Rattle.hm_lsp_session.specs.Cancelled.{IsOfId, IsRequest, cancels_of}
use Rattle.hm_lsp_session.proofs.Taking.{one_message}
use Rattle.hm_lsp_session.proofs.cancelling.Cancelled.reply.Goals as goal

pub returns-in_default-id_of-clause-none : goal.returns-in_default-id_of-clause-none
returns-in_default-id_of-clause-none c message id utf8 is h =
    let own : read c.args.body.now ≡ Some (view c.in-Some.message) = search rules in
    c.in_default-id_of.ensures.none id (subst (λ m. IsRequest m id) (one_message (read c.args.body.now) message (view c.in-Some.message) is own) h.0)

pub returns-then-not-has-clause-none : goal.returns-then-not-has-clause-none
returns-then-not-has-clause-none c message id utf8 is h =
    let own : read c.args.body.now ≡ Some (view c.in-Some.message) = search rules in
    let asked : IsRequest (view c.in-Some.message) id = subst (λ m. IsRequest m id) (one_message (read c.args.body.now) message (view c.in-Some.message) is own) h.0 in
    let mine : IsRequest (view c.in-Some.message) (view c.in-Some-id_of.id.now) = c.in-Some-id_of.ensures.some in
    let same = one_message (get (codes "id") (view c.in-Some.message)) id (view c.in-Some-id_of.id.now) asked.has mine.has in
    both_ways c.has.result c.if-not-has.true (c.has.ensures.1 (subst (λ x. Any (IsOfId x) (cancels_of c.args.self.now)) same h.1))
