use Rattle.std.proofs.Common.{◌≡◌, ◌∙◌, ◌++◌, IfOk, string_bytes, subst}
use Rattle.std.specs.Prelude.{codes}
use Rattle.hm_messages_here.proofs.Sharing.{shared_all, shares}
use Rattle.hm_messages_here.proofs.patterns.all_shared.Goals as goal

pub returns : goal.returns
returns c =
    let names = c.args.names.now in
    let whole : string_bytes c.names.all ≡ shares c.args.«module».now names = shared_all c.args.«module».now names c.names.name-index (string_bytes c.names.all) _ c.names-test.false c.names.invariant in
    subst (λ t. IfOk c.format.result (λ text. string_bytes text ≡ codes "case ()" ++ (t ++ codes " : [] of { _ -> () }"))) (c.as_str-all.ensures.value ∙ whole) c.format.ensures.ok
