use Rattle.test_calls.proofs.turns.claimed_modules_end_behind_a_stop.Given as goal

abbrev pub ghosts-play-L-Ledger : goal.ghosts-play-L-Ledger
ghosts-play-L-Ledger g a = record { name = a.brands.blank.name; parts = a.brands.blank.parts }

abbrev pub ghosts-play-L-Naming : goal.ghosts-play-L-Naming
ghosts-play-L-Naming g a = record { book = a.brands.opened.seen.book; table = a.brands.unnamed.seat.table_id; modules = a.store.modules; plan = a.store.given.imports }
