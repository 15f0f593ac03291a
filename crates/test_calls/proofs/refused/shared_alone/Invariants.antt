use Rattle.test_calls.proofs.refused.shared_alone.Given as goal

abbrev pub ghosts-shared_and_back-L-Ledger : goal.ghosts-shared_and_back-L-Ledger
ghosts-shared_and_back-L-Ledger g a = record { name = a.brands.blank.name; parts = a.brands.blank.parts }

abbrev pub ghosts-shared_and_back-L-Naming : goal.ghosts-shared_and_back-L-Naming
ghosts-shared_and_back-L-Naming g a = record { book = a.brands.opened.seen.book; table = a.brands.unnamed.seat.table_id; modules = a.store.modules; plan = a.store.given.imports }
