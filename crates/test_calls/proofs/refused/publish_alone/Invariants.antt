use Rattle.test_calls.proofs.refused.publish_alone.Given as goal

abbrev pub ghosts-published-L-Ledger : goal.ghosts-published-L-Ledger
ghosts-published-L-Ledger g a = record { name = a.brands.blank.name; parts = a.brands.blank.parts }

abbrev pub ghosts-published-L-Naming : goal.ghosts-published-L-Naming
ghosts-published-L-Naming g a = record { book = a.brands.opened.seen.book; table = a.brands.unnamed.seat.table_id; modules = a.store.modules; plan = a.store.given.imports }
