use Rattle.std.proofs.Common.{◌≡◌, ◌∙◌, ◌++◌, ap, map, rules, sym}
use Rattle.std.proofs.lemmas.List.{take-map}
use Rattle.hm_service_candidates.proofs.InRange.{all_of, first_more}
use Rattle.hm_service_candidates.specs.Candidates.{most_tried}
use Rattle.hm_service_candidates.specs.Ranges.{tried, tried_of}
use Rattle.hm_service_candidates.proofs.ranges.candidates_in.Goals as goal

pub messages-preserved : goal.messages-preserved
messages-preserved c =
    let f = c.index-told-number.result in
    let own = map (λ d. d.now) c.in_ok-own.own.items in
    first_more c.args.told.now c.args.range.now c.messages.number f own (map tried_of c.messages.found.items) (map tried_of c.add_all.new.found.items) c.messages-test.true c.index-told-number.is c.messages.invariant c.in_ok-own.ensures
    (c.in_ok-add_all.ensures ∙ ap (λ l. map tried_of c.messages.found.items ++ map (tried f) (map (λ d. d.now) l)) c.as_slice.ensures.value)

pub returns : goal.returns
returns c =
    all_of c.args.told.now c.args.range.now c.messages.number (map tried_of c.messages.found.items) (map tried_of c.truncate.new.self.items) (search rules) c.messages.invariant
    (ap (map tried_of) c.truncate.ensures.items ∙ sym (take-map tried_of most_tried c.messages.found.items))
