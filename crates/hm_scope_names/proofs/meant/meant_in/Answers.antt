use Rattle.std.proofs.Common.{◌≡◌, ◌+◌, List, [], ◌∷◌, ◌++◌, Contains, drop, take, ap, subst, sym, ◌∙◌}
use Rattle.std.proofs.lemmas.List.{take-append-drop, take_all, take_more}
use Rattle.std.proofs.lemmas.List.Elements.{Contains-append_left}
use Rattle.hm_names.specs.Bindings.{Pair}
use Rattle.hm_scope_names.specs.Meant.{AreMeantIn}
use Rattle.hm_scope_names.proofs.MeantOnce.{meant_none}
use Rattle.hm_scope_names.proofs.ScopeMeanings.{meant_exactly}
use Rattle.hm_scope_names.proofs.meant.meant_in.Goals as goal

pub pairs-init : goal.pairs-init
pairs-init c = meant_none c.args.pairs.now c.new-seen.result c.new-names.result.items c.new-seen.ensures c.new-names.ensures.items

pub pairs-preserved : goal.pairs-preserved
pairs-preserved c =
    let pairs : List Pair = c.args.pairs.now in
    let i = c.pairs.pair-index in
    let x : Pair = c.pair-item.result in
    let more : take (i + 1) pairs ≡ take i pairs ++ x ∷ [] = take_more pairs i x c.pairs-test.true ∙ ap (λ (y : Pair). take i pairs ++ y ∷ []) (sym c.pair-item.is) in
    subst (λ (l : List Pair). AreMeantIn pairs l c.add_meant.new.seen c.add_meant.new.names.items) (sym more)
    (c.in_ok-add_meant.ensures pairs (take i pairs) c.in_ok-table.ensures
    (λ q h. subst (λ (l : List Pair). Contains l q) (take-append-drop (i + 1) pairs) (Contains-append_left (take (i + 1) pairs) (drop (i + 1) pairs) q (subst (λ (l : List Pair). Contains l q) (sym more) h)))
    c.pairs.invariant)

pub returns-clause-exact : goal.returns-clause-exact
returns-clause-exact c = λ m fs scope p.
    meant_exactly m fs c.args.pairs.now scope p c.pairs.seen c.pairs.names.items
    (subst (λ (l : List Pair). AreMeantIn c.args.pairs.now l c.pairs.seen c.pairs.names.items) (take_all c.pairs.pair-index c.args.pairs.now c.pairs-test.false) c.pairs.invariant)

pub returns-clause-once : goal.returns-clause-once
returns-clause-once c = c.pairs.invariant.apart
