use Rattle.std.proofs.Common.{◌-◌, ℕ, IfSome, arith, length, map, subst}
use Rattle.std.specs.Prelude.{Contains, ◌≡◌}
use Rattle.hm_syntax.specs.Names.{Identifier}
use Rattle.hm_messages_details.specs.Nearness.{AreNear}
use Rattle.hm_messages_details.proofs.InScopes.{near_scope}
use Rattle.hm_messages_details.proofs.locals.near_within.Goals as goal

pub returns-in-Some : goal.returns-in-Some
returns-in-Some c =
    let scopes = c.args.scopes.now in
    let place : ℕ = length scopes - 1 - c.scopes.from_end in
    near_scope c.args.fault.now scopes place c.index-scopes-place.result c.in_ok-names.names (map (λ n. n.now) c.as_slice.result.now) c.as_str.result.now c.in-Some.near.now (omega (arith, c.scopes-test.true)) c.index-scopes-place.is c.in_ok-names.ensures
    c.as_slice.ensures c.as_str.ensures
    (subst (λ o. IfSome o (λ x. (n : Identifier) × Contains (map (λ n. n.now) c.as_slice.result.now) n × (n.text ≡ x.now) × AreNear c.as_str.result.now x.now)) c.in-Some.is c.in_ok-near.ensures)
