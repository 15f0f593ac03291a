use Rattle.std.proofs.Common.{rules, append_assoc}
use Rattle.hm_messages.proofs.heading.title.Goals as goal

pub returns-in-Step : goal.returns-in-Step
returns-in-Step c = rw c.in-Step.is (simp append_assoc (search rules))

pub returns-in-TypeVariable : goal.returns-in-TypeVariable
returns-in-TypeVariable c = rw c.in-TypeVariable.is (simp append_assoc (search rules))

pub returns-in-LeftOut : goal.returns-in-LeftOut
returns-in-LeftOut c = rw c.in-LeftOut.is (simp append_assoc (search rules))

pub returns-in-Private : goal.returns-in-Private
returns-in-Private c = rw c.in-Private.is (simp append_assoc (search rules))

pub returns-in-Importable : goal.returns-in-Importable
returns-in-Importable c = rw c.in-Importable.is (simp append_assoc (search rules))

pub returns-in-UnboundType : goal.returns-in-UnboundType
returns-in-UnboundType c = rw c.in-UnboundType.is (simp append_assoc (search rules))
