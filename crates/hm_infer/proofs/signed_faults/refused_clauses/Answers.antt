use Rattle.std.proofs.Common.{◌<◌, ◌≤◌, length, get_or, false, subst, ◌∙◌, arith}
use Rattle.hm_syntax.specs.Trees.{Declarations}
use Rattle.hm_infer_context.specs.Constructors.{known_of}
use Rattle.hm_infer_context.specs.Environments.{assumptions}
use Rattle.hm_infer_expressions.specs.SignedLists.{AreSignatures}
use Rattle.hm_infer.specs.SignedFaults.{Refuses}
use Rattle.hm_infer.proofs.SignedFaults.{flagged_step, flagged_all}
use Rattle.hm_infer.proofs.signed_faults.refused_clauses.Goals as goal

pub decls-preserved : goal.decls-preserved
decls-preserved c =
    let low : c.decls.i < length c.args.list.now.decls.now = (let h = c.decls-test.true in omega (arith, h)) in
    record {
      told = flagged_step (λ p d b. (all : Declarations) → AreSignatures all c.args.list.now.signatures.now → Refuses (get_or c.args.waiting.now p false) b (known_of c.args.list.now.constructors.now) all (assumptions c.args.inference.now.environment) d)
          c.args.list.now.decls.now c.decls.i _ c.in_ok-is_refused.is_refused c.decls.refused.items c.push.new.self.items low c.index-decls-i.is c.in_ok-push.ensures.items (λ all a. subst (λ es. Refuses (get_or c.args.waiting.now c.decls.i false) c.in_ok-is_refused.is_refused (known_of c.args.list.now.constructors.now) all (assumptions es) c.index-decls-i.result) c.decls.invariant.same (c.in_ok-is_refused.ensures.told all a)) c.decls.invariant.told;
      inside = (omega (arith, low));
      same = c.in_ok-is_refused.ensures.same ∙ c.decls.invariant.same;
    }

pub returns-clause-told : goal.returns-clause-told
returns-clause-told c = λ all a.
    let last : length c.args.list.now.decls.now ≤ c.decls.i = (let h = c.decls-test.false in omega (arith, h)) in
    let flags = flagged_all (λ p d b. (all : Declarations) → AreSignatures all c.args.list.now.signatures.now → Refuses (get_or c.args.waiting.now p false) b (known_of c.args.list.now.constructors.now) all (assumptions c.args.inference.now.environment) d)
    c.args.list.now.decls.now c.decls.i c.decls.refused.items last c.decls.invariant.inside c.decls.invariant.told in
    record { sized = flags.0; each = λ p d g. flags.1 p d g all a }
