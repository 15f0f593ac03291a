use Rattle.std.proofs.Common.{◌≡◌, true, false, sym, ◌∙◌, ap, subst, option_map, Option, List, ℕ, ◌++◌, ◌∷◌, [], Some}
use Rattle.hm_scope_exports.specs.ExportItems.{IsLeastOf}
use Rattle.hm_scope_exports.proofs.ExportClashes.{least_kept, least_first, least_less, least_more, at_most_test, at_most_not}
use Rattle.hm_scope_exports.proofs.exports.lesser.Goals as goal

pub returns-then-not-is_several : goal.returns-then-not-is_several
returns-then-not-is_several c = λ all seen table least. least_kept all seen c.args.pair.now (option_map (λ x. x.now) c.args.least)
    (λ s. let f : true ≡ false = sym ((c.is_several.ensures all table).1 s) ∙ c.if-not-is_several.true in cc) least

pub returns-in_default : goal.returns-in_default
returns-in_default c = λ all seen table least.
    subst (λ (x : List ℕ). IsLeastOf all (seen ++ c.args.pair.now ∷ []) (Some x)) (sym c.text.ensures)
    (least_first all seen c.args.pair.now ((c.is_several.ensures all table).0 c.if-not-is_several.false) (subst (λ (o : Option (List ℕ)). IsLeastOf all seen o) (ap (option_map (λ x. x.now)) c.in_default.is) least))

pub returns-then-lt : goal.returns-then-lt
returns-then-lt c = λ all seen table least.
    subst (λ (x : List ℕ). IsLeastOf all (seen ++ c.args.pair.now ∷ []) (Some x)) (sym c.text-then-lt.ensures)
    (least_less all seen c.args.pair.now c.in-Some.text.now ((c.is_several.ensures all table).0 c.if-not-is_several.false)
    (rw c.text-2.ensures at (at_most_test c.text-2.result.now c.in-Some.text.now (sym c.lt.ensures ∙ c.if-lt.true)))
    (subst (λ (o : Option (List ℕ)). IsLeastOf all seen o) (ap (option_map (λ x. x.now)) c.in-Some.is) least))

pub returns : goal.returns
returns c = λ all seen table least.
    least_more all seen c.args.pair.now c.in-Some.text.now
    (rw c.text-2.ensures at (at_most_not c.text-2.result.now c.in-Some.text.now (sym c.lt.ensures ∙ c.if-lt.false)))
    (subst (λ (o : Option (List ℕ)). IsLeastOf all seen o) (ap (option_map (λ x. x.now)) c.in-Some.is) least)
