use Rattle.hm_build.proofs.building.build_here.Given as goal

abbrev pub ghosts-worked-L-Ledger : goal.ghosts-worked-L-Ledger
ghosts-worked-L-Ledger g a = record { name = a.brands.blank.name; parts = a.brands.blank.parts }

abbrev pub ghosts-worked-L-Naming : goal.ghosts-worked-L-Naming
ghosts-worked-L-Naming g a = record { book = a.brands.opened.seen.book; table = a.brands.unnamed.seat.table_id; modules = a.fresh.store.modules; plan = a.fresh.store.given.imports }
