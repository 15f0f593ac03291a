use Rattle.std.proofs.Common.{◌-◌, drop, length}
use Rattle.hm_syntax.specs.Lists.{declarations}
use Rattle.hm_infer_expressions.specs.SignedLists.{AreSignatures}
use Rattle.hm_infer_expressions.proofs.signed.signatures_of.Given as goal

abbrev pub invariant-decls : goal.invariant-decls
invariant-decls l = AreSignatures (declarations (drop (length l.decls - l.behind) l.decls)) l.signatures
