-- Worked examples, by computing.
use Rattle.std.proofs.Common.{refl}
use Rattle.hm_uses_symbols.specs.Worked.{ClausesRow, KindsRow, TwiceRow}

pub worked_clauses : ClausesRow
worked_clauses = record { first = refl; not_each = λ e. cc }

pub worked_kinds : KindsRow
worked_kinds = record { all = refl }

pub worked_twice : TwiceRow
worked_twice = record { first = refl }
