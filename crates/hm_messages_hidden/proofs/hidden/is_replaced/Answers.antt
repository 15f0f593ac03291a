use Rattle.std.proofs.Common.{rules, take, subst}
use Rattle.std.specs.Prelude.{slice_range}
use Rattle.hm_lex.specs.Cut.{place_after}
use Rattle.hm_lex.specs.declared.token.Place.{Place}
use Rattle.hm_messages_hidden.specs.Hidden.{BeginWith, HaveUnbound}
use Rattle.hm_messages_hidden.proofs.hidden.is_replaced.Goals as goal

pub returns : goal.returns
returns c so =
    let source = c.args.source.now in
    let d = c.args.definition.now in
    let faults = c.args.faults.now in
    let begins : BeginWith (slice_range source d.from d.to) d.name.now = search rules in
    let between : HaveUnbound faults c.place_of_byte-start.result c.place_of_byte-end.result = c.have_unbound.ensures so in
    record {
      ordered = search rules;
      named = begins;
      unbound = subst (λ (p : Place). HaveUnbound faults p (place_after (take d.to source))) c.place_of_byte-start.ensures
          (subst (λ (p : Place). HaveUnbound faults c.place_of_byte-start.result p) c.place_of_byte-end.ensures between);
    }
