use Rattle.hm_typing.specs.Laws.{ProgramsDecideGenerality}
use Rattle.hm_typing.proofs.Programs.{decided}
use Rattle.hm_typing.proofs.schemes.programs_decide_generality.Goals as goal

proof : ProgramsDecideGenerality
proof special general ns ng = decided special general ns ng

pub returns : goal.returns
returns c = proof
