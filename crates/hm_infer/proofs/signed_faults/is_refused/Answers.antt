use Rattle.std.proofs.Common.{refl, sym}
use Rattle.hm_infer_context.specs.Constructors.{known_of}
use Rattle.hm_infer_generalisation.proofs.MostGeneral.{most_general}
use Rattle.hm_infer.proofs.SignedFaults.{clause_refused, clause_typed}
use Rattle.hm_infer.proofs.signed_faults.is_refused.Goals as goal

pub returns-in-Ok-clause-told : goal.returns-in-Ok-clause-told
returns-in-Ok-clause-told c = λ all a.
    let s = c.check_signed.new.inference.solver in
    let e = c.has_solution.ensures in
    clause_typed (known_of c.args.list.now.constructors.now) all c.args.decl.now c.args.is_waiting c.args.inference.now.environment c.args.inference.now.environment c.renewed.result s c.if-is_waiting.false refl c.requires.closed (most_general s e.equations e.general.unifies e.absorbed e.only) (c.in-Ok.ensures.answers all a)

pub returns-in-Err-Clash-clause-told : goal.returns-in-Err-Clash-clause-told
returns-in-Err-Clash-clause-told c = λ all a.
    clause_refused (known_of c.args.list.now.constructors.now) all c.args.decl.now c.args.is_waiting c.args.inference.now.environment c.args.inference.now.environment c.renewed.result c.in-Err-Clash.field-0 c.if-is_waiting.false refl c.requires.closed c.renewed.ensures c.in-Err-Clash.field-0-is (c.in-Err-Clash.ensures.answers all a)

pub returns-in-Err-Clash-clause-same : goal.returns-in-Err-Clash-clause-same
returns-in-Err-Clash-clause-same c = let k = c.in-Err-Clash.ensures.kept in c.truncate.ensures k.0 c.args.inference.now.environment k.1 (sym c.len-outside.ensures)
