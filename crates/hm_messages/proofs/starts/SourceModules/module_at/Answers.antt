use Rattle.std.proofs.Common.{◌≡◌, ◌-◌, ◌<◌, ℕ, suc, arith, length, map, get_or, subst, sym}
use Rattle.hm_lex.specs.Places.{IsBefore}
use Rattle.hm_messages.specs.ModuleStarts.{IsBeforeFirst, IsWithin, KnownModules, MayStart, start_of}
use Rattle.hm_messages.specs.declared.starts.ModuleStart.{ModuleStart}
use Rattle.hm_messages.proofs.InModules.{before_first, spelled_within, within_at}
use Rattle.hm_messages.proofs.starts.SourceModules.module_at.Goals as goal

pub returns-then-low-eq0-clause-among : goal.returns-then-low-eq0-clause-among
returns-then-low-eq0-clause-among c =
    let items = c.self.inside.starts.items in
    let place = c.args.place in
    let none : c.loop-low.high ≡ 0 = omega (arith, c.loop-low.invariant.ordered, c.loop-low-test.false, c.if-low-eq0.true) in
    let first : IsBeforeFirst place (map start_of items) =
    before_first place items (λ d low. subst (λ (k : ℕ). k < length items → IsBefore place (get_or items k d).place) none (c.loop-low.invariant.ends d) low) in
    subst (λ (v : KnownModules). IsBeforeFirst place v.starts) c.self.view_is first

pub returns-clause-among : goal.returns-clause-among
returns-clause-among c =
    let items = c.self.inside.starts.items in
    let place = c.args.place in
    let x : ModuleStart = c.index-2.result.now in
    let same : c.loop-low.high ≡ suc (c.loop-low.low - 1) = omega (arith, c.loop-low.invariant.ordered, c.loop-low-test.false, c.if-low-eq0.false) in
    let found : IsWithin (map start_of items) place x.name.now =
    within_at place items (c.loop-low.low - 1) x (omega (arith, c.loop-low.invariant.ordered, c.loop-low.invariant.within, c.if-low-eq0.false)) c.index-2.ensures
    (subst (λ (s : ModuleStart). ¬ (IsBefore place s.place)) (sym c.index-2.ensures) (c.loop-low.invariant.begun (c.loop-low.low - 1) x (omega (arith, c.if-low-eq0.false))))
    (λ d low. subst (λ (k : ℕ). k < length items → IsBefore place (get_or items k d).place) same (c.loop-low.invariant.ends d) low) in
    subst (λ (v : KnownModules). IsWithin v.starts place x.name.now) c.self.view_is found

pub returns-clause-spelled : goal.returns-clause-spelled
returns-clause-spelled c =
    let name = c.index-2.result.now.name.now in
    let place = c.args.place in
    let within : IsWithin c.args.self.now.starts place name = returns-clause-among c in
    let known = subst (λ (v : KnownModules). MayStart v.source v.starts) c.self.view_is c.self.invariant in
    spelled_within place c.args.self.now.source c.args.self.now.starts name known within
