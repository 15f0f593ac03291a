use Rattle.std.proofs.Common.{Some}
use Rattle.std.proofs.lemmas.Bool.Decides.{Decides-eqb}
use Rattle.std.proofs.lemmas.Slice.Eq.{strip_prefix_is}
use Rattle.hm_messages_hidden.proofs.hidden.begin_with.Goals as goal

pub returns : goal.returns
returns c so =
    let rest = c.in-Some.rest in
    record {
      rest = rest.now;
      whole = strip_prefix_is Decides-eqb c.args.bytes.now c.args.name.now (Some rest) c.in-Some.ensures.cases;
    }
