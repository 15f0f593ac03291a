use Rattle.std.proofs.Common.{map, Bor}
use Rattle.hm_types.specs.Interfaces.{Exports as Interface}
use Rattle.hm_scope_tables.specs.KnownTables.{known_arity, known_imported}
use Rattle.hm_scope_entities.proofs.FirstDescriptions.{types_of_module, constructors_of_module}
use Rattle.hm_scope_entities.proofs.tables.Tables.of.Goals as goal

pub returns : goal.returns
returns c =
    let fs = map (λ (f : Bor Interface). f.now) c.args.interfaces.now in
    record {
      types = types_of_module c.args.program.now fs _ _ (map known_arity c.in_ok-known.known.types.entries) (map known_imported c.in_ok-known.known.imported.entries) c.new.result.entries
          c.as_str-home.ensures c.as_slice-decls.ensures c.new.ensures.empty c.in_ok-known.ensures;
      constructors = constructors_of_module c.args.program.now fs _ _ (map known_arity c.in_ok-constructors.constructors.entries) c.as_str-home.ensures c.as_slice-decls.ensures c.in_ok-constructors.ensures;
    }
