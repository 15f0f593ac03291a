use Rattle.std.proofs.Common.{rules, ◌≡◌, ◌∷◌, ◌++◌, ◌∙◌, ap, filter, get_or, map, take}
use Rattle.std.proofs.lemmas.List.{take_all}
use Rattle.hm_names.specs.Scope.{prelude_name}
use Rattle.hm_run_sources.specs.declared.located.Located.{Located}
use Rattle.hm_messages.specs.Missing.{import_of, module_names, names_none, set_import, set_imports}
use Rattle.hm_messages.proofs.Gathering.{filtered_same, gathered}
use Rattle.hm_messages.proofs.missing.missing_imports.Goals as goal

pub loop-here-preserved : goal.loop-here-preserved
loop-here-preserved c =
    let ls = c.args.located.now in
    let l : Located = c.here-item.result in
    let names = c.in_ok-names.names in
    let old = map import_of c.loop-here.found.items in
    let new = map import_of c.add_missing.new.found.items in
    let is : l ≡ get_or ls c.loop-here.here-index l = search rules in
    let more : new ≡ old ++ filter (names_none names) (map (set_import l.source) l.header.imports) = search rules in
    gathered names ls c.loop-here.here-index l old new c.loop-here-test.true is c.loop-here.invariant more

pub returns : goal.returns
returns c =
    let ls = c.args.located.now in
    let names = c.in_ok-names.names in
    let all : take c.loop-here.here-index ls ≡ ls = take_all _ _ (search rules) in
    c.loop-here.invariant ∙ (ap (λ k. filter (names_none names) (set_imports k)) all ∙ filtered_same names (prelude_name ∷ module_names ls) (set_imports ls) c.in_ok-names.ensures)
