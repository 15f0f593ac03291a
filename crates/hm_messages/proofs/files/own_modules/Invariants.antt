use Rattle.std.proofs.Common.{◌≡◌, ◌++◌, drop, take_while}
use Rattle.hm_messages.specs.ModuleStarts.{is_from}
use Rattle.hm_messages.proofs.files.own_modules.Given as goal

abbrev pub invariant-run : goal.invariant-run
invariant-run l = take_while (is_from l.source) l.rest ≡ l.modules.items ++ take_while (is_from l.source) (drop l.start-index l.rest)
