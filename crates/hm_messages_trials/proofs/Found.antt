-- What is so of what is found.
use Rattle.std.proofs.Common.{Option, None, Some, IfSome}

pub found_so : {X : Type 0} (P Q : X → Type 0) (o : Option X) → ((x : X) → P x → Q x) → IfSome o P → IfSome o Q
found_so P Q None f h = tt
found_so P Q (Some x) f h = f x h
