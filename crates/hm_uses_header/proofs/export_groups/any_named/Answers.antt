use Rattle.std.proofs.Common.{sym, subst, ◌∙◌}
use Rattle.std.proofs.lemmas.List.{take_all}
use Rattle.hm_uses_header.proofs.Exported.{NoneNamed, one_more}
use Rattle.hm_uses_header.proofs.export_groups.any_named.Goals as goal

pub exports-preserved : goal.exports-preserved
exports-preserved c = one_more c.args.exports.now c.exports.export-index c.export-item.result c.exports-test.true c.export-item.is (sym c.parts_named.ensures ∙ c.if-parts_named.false) c.exports.invariant

pub returns : goal.returns
returns c = λ e. subst NoneNamed (take_all c.exports.export-index c.args.exports.now c.exports-test.false) c.exports.invariant
