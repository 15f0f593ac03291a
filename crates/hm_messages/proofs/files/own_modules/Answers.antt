use Rattle.std.proofs.Common.{rules, ◌≡◌, ◌∷◌, ◌++◌, [], get_or, take_while}
use Rattle.std.proofs.lemmas.List.{get_or_default}
use Rattle.hm_messages.specs.ModuleStarts.{is_from}
use Rattle.hm_messages.specs.declared.starts.ModuleStart.{ModuleStart}
use Rattle.hm_messages.proofs.Grouping.{run_more}
use Rattle.hm_messages.proofs.files.own_modules.Goals as goal

pub run-preserved : goal.run-preserved
run-preserved c =
    let rest = c.args.rest.now in
    let none : ModuleStart = record { source = 0; place = record { line = 0; column = 0 }; name = record { ref_ptr = (0, 0); now = [] } } in
    let start : ModuleStart = get_or rest c.run.start-index none in
    let old = c.run.modules.items in
    let pushed : c.push.new.self.items ≡ old ++ start ∷ [] = search rules in
    let same : start.source ≡ c.args.source = search rules in
    run_more c.args.source rest c.run.start-index start (take_while (is_from c.args.source) rest) old c.push.new.self.items c.run-test.true (get_or_default rest c.run.start-index none start c.run-test.true) same c.run.invariant pushed
