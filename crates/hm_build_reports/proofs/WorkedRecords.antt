-- The worked records.
use Rattle.std.proofs.Common.{◌≡◌, ◌<◌, ◌∙◌, ℕ, zero, suc, Bool, true, false, List, [], ◌∷◌, ◌++◌, All, inl, inr, Option, None, map, length, refl, sym, ap, subst, arith}
use Rattle.std.proofs.lemmas.Bool.{false≢true}
use Rattle.std.proofs.lemmas.List.{append_assoc}
use Rattle.std.specs.List.{flat_map}
use Rattle.std.specs.Prelude.{cond, slice_index_or}
use Rattle.std.specs.declared.alloc.Global.{Global}
use Rattle.std.specs.declared.sync.Arc.{Arc}
use Rattle.hm_types.specs.declared.interfaces.Interface.{Interface}
use Rattle.hm_syntax.specs.declared.ast.Module.{Module}
use Rattle.hm_verdicts.specs.Outcomes.{Checked}
use Rattle.hm_store.specs.Builds.{Build, IsAllSettled}
use Rattle.hm_store.specs.Worked.{begins, begun, call, done, found}
use Rattle.hm_store.specs.declared.record.Act.TheVariants.{Publish, Done, Look}
use Rattle.hm_store.specs.declared.record.Record.{Record}
use Rattle.hm_build_reports.specs.FinishedBuilds.{AreNumbered}
use Rattle.hm_build_reports.specs.Rounds.{Deed, Claimed, Found, Settled, Left, Other, deed, round, IsInRounds, IsWorked}
use Rattle.hm_store.proofs.WorkedBuilds as builds
use Rattle.hm_build_reports.specs.Worked.{plan, FinishedRow, OneWorkerFinishes, RoundsRow, NumberedRow}

-- two deeds that a truth value tells apart, and lists that have one
is_left : Deed → Bool
is_left (Claimed m) = false
is_left (Found m) = false
is_left (Settled m) = false
is_left Left = true
is_left Other = false

has_left : List Deed → Bool
has_left [] = false
has_left (d ∷ ds) = cond (is_left d) true (has_left ds)

is_other : Deed → Bool
is_other (Claimed m) = false
is_other (Found m) = false
is_other (Settled m) = false
is_other Left = false
is_other Other = true

has_other : List Deed → Bool
has_other [] = false
has_other (d ∷ ds) = cond (is_other d) true (has_other ds)

begins_claimed : List Deed → Bool
begins_claimed [] = false
begins_claimed (Claimed m ∷ ds) = true
begins_claimed (Found m ∷ ds) = false
begins_claimed (Settled m ∷ ds) = false
begins_claimed (Left ∷ ds) = false
begins_claimed (Other ∷ ds) = false

left_at_end : (ds : List Deed) → has_left (ds ++ (Left ∷ [])) ≡ true
unfolding has_left is_left
left_at_end [] = refl
left_at_end (Claimed m ∷ ds) = left_at_end ds
left_at_end (Found m ∷ ds) = left_at_end ds
left_at_end (Settled m ∷ ds) = left_at_end ds
left_at_end (Left ∷ ds) = refl
left_at_end (Other ∷ ds) = left_at_end ds

no_other_row : (row : List ℕ) (rest : List Deed) → has_other (map Found row ++ rest) ≡ has_other rest
unfolding has_other is_other
no_other_row [] rest = refl
no_other_row (m ∷ row) rest = no_other_row row rest

no_other : (ms : List ℕ) → has_other (flat_map (round plan) ms ++ (Left ∷ [])) ≡ false
unfolding has_other is_other
no_other [] = refl
no_other (m ∷ ms) =
    let row = map Found (slice_index_or plan m []) in
    let rounds = flat_map (round plan) ms in
    ap has_other (append_assoc (row ++ (Settled m ∷ [])) rounds (Left ∷ []) ∙ append_assoc row (Settled m ∷ []) (rounds ++ (Left ∷ []))) ∙ (no_other_row (slice_index_or plan m []) (Settled m ∷ (rounds ++ (Left ∷ []))) ∙ no_other ms)

unfinished : (f : Arc Interface Global) → ¬ (IsWorked plan (begins ++ (found f ∷ call 3 (Publish 0) ∷ [])))
unfolding deed has_left is_left
unfinished f (ms, is) = false≢true (ap has_left is ∙ left_at_end (flat_map (round plan) ms))

blind : ¬ (IsWorked plan (begins ++ (call 3 (Look 1 None) ∷ call 3 (Publish 0) ∷ call 4 Done ∷ [])))
unfolding deed has_other is_other
blind (ms, is) = false≢true (sym (ap has_other is ∙ no_other ms))

unclaimed : ¬ (IsWorked plan (call 0 (Publish 1) ∷ call 1 Done ∷ []))
unfolding deed begins_claimed
unclaimed ([], is) = let e : 2 ≡ 1 = ap length is in absurd (omega (arith, e))
unclaimed (m ∷ ms, is) = false≢true (ap begins_claimed is)

pub rounds : RoundsRow
unfolding deed
rounds = record {
  worked = λ f. (1 ∷ 0 ∷ [], refl);
  idle = λ r none. inl none;
  unfinished = unfinished;
  blind = blind;
  unclaimed = unclaimed;
}

both : (r s : Record) → r.worker ≡ 0 → s.worker ≡ 1 → AreNumbered 2 (r ∷ s ∷ [])
both r s first second = record { len = refl; each = each }
  where
    each : (k : ℕ) (d : Record) → k < 2 → (slice_index_or (r ∷ s ∷ []) k d).worker ≡ k
    each zero d lt = first
    each (suc zero) d lt = second
    each (suc (suc k)) d lt = absurd (omega (arith, lt))

pub numbered : NumberedRow
numbered = record {
  both = both;
  exchanged = λ r s first h. let e : 1 ≡ 0 = sym first ∙ h.each 0 r (omega arith) in absurd (omega (arith, e));
  missing = λ r h. let e : 1 ≡ 2 = h.len in absurd (omega (arith, e));
}

settled : (modules : List Module) (kept : List (Option Checked)) → IsAllSettled (done 0 modules kept)
settled modules kept zero lt = refl
settled modules kept (suc zero) lt = refl
settled modules kept (suc (suc m)) lt = refl

alone : (P : Record → Type 0) (r : Record) → P r → All P (r ∷ [])
alone P r p zero d lt = p
alone P r p (suc k) d lt = absurd (omega (arith, lt))

first : (r : Record) → r.worker ≡ 0 → AreNumbered 1 (r ∷ [])
first r is = record { len = refl; each = each }
  where
    each : (k : ℕ) (d : Record) → k < 1 → (slice_index_or (r ∷ []) k d).worker ≡ k
    each zero d lt = is
    each (suc k) d lt = absurd (omega (arith, lt))

whole : OneWorkerFinishes
whole sources modules kept f r read legal here is = record {
  read = read;
  legal = legal;
  running = refl;
  settled = settled modules kept;
  agree = builds.one_record.whole modules kept f here r is;
  numbered = first r is.0;
  rounds = alone (IsInRounds plan) r (inr (subst (IsWorked plan) (sym is.1) (rounds.worked f)));
}

pub finished : FinishedRow
finished = record {
  whole = whole;
  claimed = λ sources workers a b kept rs h. let e : false ≡ true = h.settled 0 (omega arith) in false≢true e;
  stopped = λ sources workers modules kept rs h. let e : true ≡ false = h.running in false≢true (sym e);
  missing = λ sources b r h. let e : 1 ≡ 2 = h.numbered.len in absurd (omega (arith, e));
  ended = λ sources workers b rs h. record { running = h.running; settled = h.settled; agree = h.agree; numbered = h.numbered; rounds = h.rounds };
  not_ended = λ workers modules kept rs h. let e : true ≡ false = h.running in false≢true (sym e);
}
