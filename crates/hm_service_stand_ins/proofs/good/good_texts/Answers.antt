use Rattle.std.proofs.Common.{rules, ◌≡◌, ◌∙◌, ◌∷◌, [], ℕ, List, Option, Vec, Global, ap, length, map, subst}
use Rattle.std.proofs.lemmas.List.{map-append}
use Rattle.std.specs.Prelude.{option_map}
use Rattle.hm_service_stand_ins.specs.Findings.{findings_of}
use Rattle.hm_service_stand_ins.specs.GoodTexts.{IsGoodAfter}
use Rattle.hm_service_stand_ins.proofs.Growing.{good_begin, good_end, good_more}
use Rattle.hm_service_stand_ins.proofs.good.good_texts.Goals as goal

pub sources-init : goal.sources-init
sources-init c =
    let of : Option (Vec ℕ Global) → Option (List ℕ) = option_map (λ t. t.items) in
    let none : c.new-after.result.items ≡ [] = search rules in
    good_begin (findings_of c.args.said.now) c.args.held.now (map of c.args.before.now) (map of c.new-after.result.items) (ap (map of) none)

pub sources-preserved : goal.sources-preserved
sources-preserved c =
    let f = findings_of c.args.said.now in
    let of : Option (Vec ℕ Global) → Option (List ℕ) = option_map (λ t. t.items) in
    let text = c.in_ok-text.text in
    let here = subst (λ (b : Option (List ℕ)). IsGoodAfter f c.sources.number c.index-held-number.result b (of text)) c.good_at.ensures c.in_ok-text.ensures in
    good_more f c.args.held.now (map of c.args.before.now) c.sources.number c.index-held-number.result (map of c.sources.after.items) (map of c.push.new.self.items) (of text) (search rules) c.index-held-number.is here
    (ap (map of) c.in_ok-push.ensures.items ∙ map-append of c.sources.after.items (text ∷ [])) c.sources.invariant

pub returns : goal.returns
returns c =
    let ends : c.sources.number ≡ length c.args.held.now = search rules in
    good_end (findings_of c.args.said.now) c.args.held.now (map (option_map (λ t. t.items)) c.args.before.now) c.sources.number (map (option_map (λ t. t.items)) c.sources.after.items) ends c.sources.invariant
