use Rattle.std.proofs.Common.{rules, ◌≡◌, cond, ◌∷◌, ◌++◌, [], get_or}
use Rattle.hm_names.specs.Scope.{prelude_name}
use Rattle.hm_names.specs.Texts.{is_text_among}
use Rattle.hm_run_sources.specs.declared.located.Located.{Located}
use Rattle.hm_messages.proofs.Gathering.{named_more}
use Rattle.hm_messages.proofs.missing.known_names.Goals as goal

pub loop-here-preserved : goal.loop-here-preserved
loop-here-preserved c = λ x.
    let ls = c.args.located.now in
    let l : Located = c.here-item.result in
    let set = c.loop-here.names in
    let is : l ≡ get_or ls c.loop-here.here-index l = search rules in
    let put : c.insert-in-loop-here.new.self ≡ cond (is_text_among l.header.name.text set) set (set ++ l.header.name.text ∷ []) = search rules in
    named_more prelude_name ls c.loop-here.here-index l set c.insert-in-loop-here.new.self x c.loop-here-test.true is put (c.loop-here.invariant x)
