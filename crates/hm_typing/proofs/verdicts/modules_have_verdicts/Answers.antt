use Rattle.std.proofs.Common.{◌≡◌, Bool, true, false, inl, inr, refl, sym, true≢false}
use Rattle.hm_typing.specs.Laws.{GoodIsDecided, IsOneOfThree, NotGoodAndSkipped, NotSkippedAndFaulty, NotGoodAndFaulty}
use Rattle.hm_typing.specs.Verdicts.{imported}
use Rattle.hm_typing.proofs.Ordering.{layout}
use Rattle.hm_typing.proofs.Unifying.{unification}
use Rattle.hm_typing.proofs.SetVerdicts.{not_both}
use Rattle.hm_typing.proofs.Settling.{is_good, verdict_of}
use Rattle.hm_typing.proofs.verdicts.modules_have_verdicts.Goals as goal

is_true : (b : Bool) → Dec (b ≡ true)
is_true true = yes refl
is_true false = no (λ e. true≢false (sym e))

decided : GoodIsDecided
decided set prelude well table i law = elim (is_good set prelude law (λ k. well k ≡ true) table (λ k. is_true (well k)) i) [ yes g ↦ inl g | no n ↦ inr n ]

three : IsOneOfThree
three set prelude well table i law d w = verdict_of set prelude law (λ k. well k ≡ true) table (λ k. is_true (well k)) i d w

good_skipped : NotGoodAndSkipped
good_skipped set prelude well table i g s = s.2 (record {
  well_formed = λ k q. g.well_formed k (imported s.1 q);
  assignment = g.assignment;
  valid = record { given = g.valid.given; typed = λ k q. g.valid.typed k (imported s.1 q) };
})

skipped_faulty : NotSkippedAndFaulty
skipped_faulty set prelude well table i xs s f = s.2 (f.imports_good s.0 s.1)

good_faulty : NotGoodAndFaulty
good_faulty set prelude well table i xs law d g f = not_both unification layout set prelude law (λ k. well k ≡ true) table i d xs g f

pub returns : goal.returns
returns c = record { good_is_decided = decided; one_of_three = three; not_good_and_skipped = good_skipped; not_skipped_and_faulty = skipped_faulty; not_good_and_faulty = good_faulty }
