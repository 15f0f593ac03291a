use Rattle.std.proofs.Common.{◌<◌, rules, sym, ◌∙◌, length, refl, None}
use Rattle.std.proofs.lemmas.List.{get_or_read}
use Rattle.hm_types_subsumption.proofs.Found.{matches_found, matches_free}
use Rattle.hm_types_subsumption.proofs.instances.match_variable.Goals as goal

pub returns-in-Some-clause-matches : goal.returns-in-Some-clause-matches
returns-in-Some-clause-matches c =
    let below : c.args.n < length c.args.found.now.items = search rules in
    matches_found c.is_same.result c.args.found.now.items c.args.n c.in-Some.t _ (sym (get_or_read _ _ _ below c.index.ensures None) ∙ c.in-Some.is) c.is_same.ensures

pub returns-in_ok-copy-in-None-clause-matches : goal.returns-in_ok-copy-in-None-clause-matches
returns-in_ok-copy-in-None-clause-matches c =
    let below : c.args.n < length c.args.found.now.items = search rules in
    matches_free c.args.found.now.items _ c.args.n c.in_ok-copy-in-None.field-0 _ below (sym (get_or_read _ _ _ below c.index.ensures None) ∙ c.in-None.is) c.in_ok-copy-in-None.ensures refl
