-- Imported variables, assumed one by one. No public clause names it.
use Rattle.std.specs.Prelude.{List, [], ◌∷◌}
use Rattle.hm_types.specs.declared.entries.ValueEntry.{ValueEntry}
use Rattle.hm_typing.specs.Assumptions.{Assumptions, bind}
use Rattle.hm_typing.specs.Names.{global}
use Rattle.hm_typing.specs.Programs.{scheme_of}

-- the entries are assumed inside A, with the first innermost
abbrev pub assumed_inside : List ValueEntry → Assumptions → Assumptions
assumed_inside [] A = A
assumed_inside (r ∷ rs) A = bind (global r.entity) (scheme_of r.scheme) (assumed_inside rs A)
