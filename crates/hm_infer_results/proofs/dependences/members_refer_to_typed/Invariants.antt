use Rattle.std.proofs.Common.{◌≡◌, take, true}
use Rattle.hm_infer_expressions.specs.Dependences.{TellsMembers}
use Rattle.hm_infer_results.proofs.dependences.members_refer_to_typed.Given as goal

abbrev pub invariant-members : goal.invariant-members
invariant-members l = record {
  shown : l.shown ≡ l.initial.shown;
  told : TellsMembers true l.list.found.now.numbers l.typed l.list.decls.now (take l.j l.members);
}
