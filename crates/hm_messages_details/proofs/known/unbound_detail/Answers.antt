use Rattle.std.proofs.Common.{◌≡◌, sym, subst, map, IfSome}
use Rattle.std.specs.Prelude.{Contains}
use Rattle.hm_names.specs.Bindings.{Pair}
use Rattle.hm_messages_details.specs.Details.{IsNearPair}
use Rattle.hm_syntax.specs.declared.ast.Module.{Module}
use Rattle.hm_messages_details.specs.NearLocals.{HasNearLocal}
use Rattle.hm_messages_details.specs.Parts.{module_parts, part_of}
use Rattle.hm_messages_details.proofs.known.unbound_detail.Goals as goal

pub returns-in-Some : goal.returns-in-Some
returns-in-Some c = λ fs scope. (
  c.requires.unbound,
  subst (λ o. IfSome o (λ x. (m : Module) → map part_of c.args.parts.now ≡ module_parts m.decls → HasNearLocal m c.args.fault.now x.now)) c.in-Some.is c.in_ok-near.ensures c.args.site.now.program.now c.requires.parts,
)

pub returns-in-Some-2 : goal.returns-in-Some-2
returns-in-Some-2 c =
    let role = c.args.role in
    let p : Pair = c.in-Some-2.pair.now in
    let found : Contains c.pairs.result.now p × IsNearPair role c.as_str-2.result.now p =
    subst (λ o. IfSome o (λ pair. Contains c.pairs.result.now pair.now × IsNearPair role c.as_str-2.result.now pair.now)) c.in-Some-2.is c.in_ok-pair.ensures in
    λ fs scope. (
      c.requires.unbound,
      record {
        role = role;
        stands = c.requires.stands;
        pair = p;
        in_scope = (scope p).0 (subst (λ ps. Contains ps p) c.pairs.ensures found.0);
        qualifier_is = sym c.qualifier.ensures;
        text_is = sym c.text.ensures;
        is_near = subst (λ x. IsNearPair role x p) c.as_str-2.ensures found.1;
      },
    )
