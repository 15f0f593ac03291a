use Rattle.std.proofs.Common.{rules, ◌≡◌, ◌++◌, ◌∷◌, [], map, take, get_or, sym, ap, subst, ◌∙◌, arith, IfSome, ◌≤◌, vec_len, Err}
use Rattle.std.proofs.Math.ListN.{set}
use Rattle.std.proofs.lemmas.Result.{err_from_is_err_and}
use Rattle.std.proofs.lemmas.List.{take_all, map-append, places, get_or_default}
use Rattle.std.specs.Prelude.{All}
use Rattle.hm_run_io.specs.Watching.{device_of, failures_of, given_of, IsReadWhole, IsReadWithin}
use Rattle.hm_run_io.specs.Reads.{ReadsAll}
use Rattle.hm_run_io.specs.declared.faults.RunFault.TheVariants.{Memory}
use Rattle.hm_run_io.specs.Sources.{IsReadUp, Tell, held_of}
use Rattle.hm_run_io.proofs.ReadUp.{all_more, all_set, all_taken, answered, given_more, read_up_more, set_past, stops, told_more}
use Rattle.hm_run_io.proofs.Runs.{reads_ended, reads_stopped, reads_stopped_by_memory}
use Rattle.hm_run_io.proofs.reading.read_all.Goals as goal

pub loop-index-preserved : goal.loop-index-preserved
loop-index-preserved g c =
    let d = c.index-readers-index.result in
    let pushed : c.push.new.self.items ≡ c.loop-index.sources.items ++ c.in_ok-source.source ∷ [] = search rules in
    let same : get_or c.loop-index.readers c.loop-index.index d ≡ get_or c.args.readers.now c.loop-index.index d = c.loop-index.invariant.0 c.loop-index.index d (omega arith) (search rules) in (
      set_past _ _ _ _ c.loop-index.invariant.0,
      search (rules, places),
      λ told h. ap (map (λ s. s.items)) pushed ∙ map-append (λ s. s.items) c.loop-index.sources.items (c.in_ok-source.source ∷ [])
          ∙ told_more (λ r. g.R.Read.remaining (device_of r)) c.args.readers.now c.loop-index.index d (search rules) _ _ c.loop-index.invariant.2 (subst (λ r. IfSome (g.R.Read.remaining (device_of r)) (λ all. c.in_ok-source.source.items ≡ held_of all)) same c.in_ok-source.ensures.bytes) told h,
      all_set IsReadWithin c.loop-index.readers c.loop-index.index c.read_source.new.reader c.loop-index.invariant.3 c.in_ok-source.ensures.within,
      all_set (λ r. failures_of r ≡ 0) c.loop-index.readers c.loop-index.index c.read_source.new.reader c.loop-index.invariant.4 (search rules),
      read_up_more (λ r. g.R.Read.remaining (device_of r)) c.args.readers.now c.loop-index.readers c.loop-index.index c.read_source.new.reader (search rules) c.loop-index.invariant.5 (λ e. subst (λ r. IsReadUp (g.R.Read.remaining (device_of r)) (g.R.Read.remaining (device_of c.read_source.new.reader))) (same ∙ get_or_default c.args.readers.now c.loop-index.index d e (search rules)) c.in_ok-source.ensures.read_up),
      all_more (λ s. vec_len s ≤ 1048577) c.loop-index.sources.items c.push.new.self.items c.in_ok-source.source pushed c.loop-index.invariant.6 c.in_ok-source.ensures.len,
      given_more (λ s. s.items) given_of c.loop-index.sources.items c.push.new.self.items c.in_ok-source.source c.loop-index.readers c.loop-index.index c.read_source.new.reader (search rules) pushed c.loop-index.invariant.7 c.in_ok-source.ensures.given,
      all_taken IsReadWhole c.loop-index.readers c.loop-index.index c.read_source.new.reader (search rules) c.loop-index.invariant.8 c.in_ok-source.ensures.whole,
    )

pub returns-clause-bytes : goal.returns-clause-bytes
returns-clause-bytes g c told h =
    let all : take c.loop-index.index c.args.readers.now ≡ c.args.readers.now = take_all _ _ (search rules) in
    c.loop-index.invariant.2 told (subst (λ l. Tell (λ r. g.R.Read.remaining (device_of r)) l told) (sym all) h)

pub returns-in_err-source-clause-stops : goal.returns-in_err-source-clause-stops
returns-in_err-source-clause-stops g c = answered c.from_residual.result (stops (λ r. g.R.Read.remaining (device_of r)) c.args.readers.now c.loop-index.readers c.loop-index.index c.read_source.new.reader c.loop-index.invariant.1 (search rules) c.loop-index.invariant.5 c.loop-index.invariant.0)

pub returns-in_err-push-clause-stops : goal.returns-in_err-push-clause-stops
returns-in_err-push-clause-stops g c = answered c.from_residual-in_err-push.result (stops (λ r. g.R.Read.remaining (device_of r)) c.args.readers.now c.loop-index.readers c.loop-index.index c.read_source.new.reader c.loop-index.invariant.1 (search rules) c.loop-index.invariant.5 c.loop-index.invariant.0)

pub returns-clause-given : goal.returns-clause-given
returns-clause-given g c = c.loop-index.invariant.7 ∙ ap (map given_of) (take_all _ _ (search rules))

pub returns-in_err-source-clause-reads : goal.returns-in_err-source-clause-reads
returns-in_err-source-clause-reads g c =
    let e = c.in_err-source.field-0.0 in
    let p = err_from_is_err_and c.from_residual.result c.from_residual.ensures.1 in
    let is : c.from_residual.result ≡ Err e = let made = p.1 in let same = p.2 in cc in
    subst (λ r. ReadsAll (λ d. g.R.Read.remaining d) c.args.readers.now (set c.loop-index.readers c.loop-index.index c.read_source.new.reader) r) (sym is)
    (reads_stopped (λ d. g.R.Read.remaining d) c.args.readers.now c.loop-index.readers c.loop-index.index c.read_source.new.reader e c.loop-index.invariant.1 (search rules) c.loop-index.invariant.5 c.loop-index.invariant.0
    c.loop-index.invariant.3 c.in_err-source.ensures.within c.loop-index.invariant.4 c.in_err-source.ensures.memory c.in_err-source.ensures.read c.in_err-source.ensures.others)

pub returns-in_err-push-clause-reads : goal.returns-in_err-push-clause-reads
returns-in_err-push-clause-reads g c =
    let p = err_from_is_err_and c.from_residual-in_err-push.result c.from_residual-in_err-push.ensures.1 in
    let is : c.from_residual-in_err-push.result ≡ Err Memory = let made = p.1 in let same = p.2 in cc in
    let ok : failures_of c.read_source.new.reader ≡ 0 = search rules in
    subst (λ r. ReadsAll (λ d. g.R.Read.remaining d) c.args.readers.now (set c.loop-index.readers c.loop-index.index c.read_source.new.reader) r) (sym is)
    (reads_stopped_by_memory (λ d. g.R.Read.remaining d) c.args.readers.now c.loop-index.readers c.loop-index.index c.read_source.new.reader c.loop-index.invariant.1 (search rules) c.loop-index.invariant.5 c.loop-index.invariant.0
    c.loop-index.invariant.3 c.in_ok-source.ensures.within c.loop-index.invariant.4 ok)

pub returns-clause-reads : goal.returns-clause-reads
returns-clause-reads g c =
    reads_ended (λ d. g.R.Read.remaining d) c.args.readers.now c.loop-index.readers c.loop-index.sources (subst (All IsReadWhole) (take_all _ _ (search rules)) c.loop-index.invariant.8)
    (record { as_many = c.loop-index.invariant.1; each = λ k d less. c.loop-index.invariant.5 k d (search rules) }) c.loop-index.invariant.3 c.loop-index.invariant.4
