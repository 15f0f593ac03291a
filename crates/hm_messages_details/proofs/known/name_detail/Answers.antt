use Rattle.std.proofs.Common.{subst, IfSome}
use Rattle.std.specs.Prelude.{Contains}
use Rattle.hm_names.specs.Bindings.{Pair}
use Rattle.hm_messages_details.specs.Details.{IsEntityFor}
use Rattle.hm_messages_details.proofs.known.name_detail.Goals as goal

pub returns-in-Some : goal.returns-in-Some
returns-in-Some c =
    let space = c.in-Some.space in
    let found : (pair : Pair) × Contains c.pairs.result.now pair × IsEntityFor c.as_str.result.now space pair =
    subst (λ o. IfSome o (λ s. (pair : Pair) × Contains c.pairs.result.now pair × IsEntityFor c.as_str.result.now s pair)) c.in-Some.is c.space_of.ensures in
    λ fs scope. (
      c.requires,
      record {
        pair = found.0;
        in_scope = (scope found.0).0 (subst (λ ps. Contains ps found.0) c.pairs.ensures found.1);
        named = subst (λ x. IsEntityFor x space found.0) c.as_str.ensures found.2;
      },
    )
