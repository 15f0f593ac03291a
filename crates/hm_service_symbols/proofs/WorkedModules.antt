-- Worked examples, by computing.
use Rattle.std.proofs.Common.{refl}
use Rattle.hm_service_symbols.specs.Worked.{ModulesRow, SymbolsRow}

pub worked_modules : ModulesRow
worked_modules = record { of_first = refl; of_second = refl; not_index = λ e. cc }

pub worked_symbols : SymbolsRow
worked_symbols = record { all = refl }
