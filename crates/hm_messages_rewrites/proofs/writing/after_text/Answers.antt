use Rattle.std.proofs.lemmas.Bool.Decides.{Decides-eqb}
use Rattle.std.proofs.lemmas.Slice.Eq.{strip_prefix_is}
use Rattle.hm_messages_rewrites.proofs.Begins.{found, missed}
use Rattle.hm_messages_rewrites.proofs.writing.after_text.Goals as goal

pub returns-clause-some : goal.returns-clause-some
returns-clause-some c =
    let bytes = c.args.bytes.now in
    let text = c.args.text.now in
    found bytes text c.strip_prefix.result (strip_prefix_is Decides-eqb bytes text c.strip_prefix.result c.strip_prefix.ensures.cases)

pub returns-clause-none : goal.returns-clause-none
returns-clause-none c =
    let bytes = c.args.bytes.now in
    let text = c.args.text.now in
    missed bytes text c.strip_prefix.result (strip_prefix_is Decides-eqb bytes text c.strip_prefix.result c.strip_prefix.ensures.cases)
