use Rattle.std.proofs.Common.{List, ℕ, refl, subst, sym}
use Rattle.hm_service_fixes.specs.Judged.{JudgedSet}
use Rattle.hm_service_offers.specs.Judged.{AreSources}
use Rattle.hm_store.specs.Builds.{set_of}
use Rattle.hm_store.specs.Settlements.{settlement}
use Rattle.hm_service_offers.proofs.judging.is_shown.Goals as goal

pub returns : goal.returns
returns c =
    let old = c.args.set.now.checked.now in
    let new = c.args.checked.now in
    let before : JudgedSet = record { set = set_of old.build.store; status = settlement old.build.store; sources = c.as_slice.result.now; checked = c.is_checked.result } in
    let after : JudgedSet = record { set = set_of new.build.store; status = settlement new.build.store; sources = c.as_slice-2.result.now; checked = c.is_checked-2.result } in
    record {
      before = before;
      after = after;
      was = record { set = refl; status = refl; sources = subst (AreSources old) (sym c.as_slice.ensures.value) c.in_ok-sources.ensures; checked = c.is_checked.ensures };
      will_be = record { set = refl; status = refl; sources = subst (AreSources new) (sym c.as_slice-2.ensures.value) c.in_ok-later.ensures; checked = c.is_checked-2.ensures };
      is = c.is_fix.ensures;
    }
