use Rattle.std.proofs.Common.{◌≡◌, ◌++◌, ◌∷◌, [], ◌⊎◌, ◌↔◌, Contains, option_map, sym, ap, subst, ◌∙◌}
use Rattle.std.proofs.lemmas.Bool.{both_ways}
use Rattle.hm_names.specs.Bindings.{Pair}
use Rattle.hm_scope_names.specs.Meant.{name_of}
use Rattle.hm_scope_names.proofs.MeantOnce.{seen_before, seen_more, seen_several}
use Rattle.hm_scope_tables.specs.NameSets.{FullName}
use Rattle.hm_scope_names.proofs.meant.add_meant.Goals as goal

pub returns-then-contains : goal.returns-then-contains
returns-then-contains c = λ pairs before table within so_far.
    let same : record { space = c.space.result; qualifier = option_map (λ q. q.now) c.qualifier.result; text = c.text.result.now } ≡ name_of c.args.pair.now = λ i. record { space = c.space.ensures i; qualifier = c.qualifier.ensures i; text = c.text.ensures i } in
    seen_before pairs before c.args.seen.now c.args.names.now.items c.args.pair.now so_far within (subst (λ (n : FullName). Contains c.args.seen.now n) same (c.contains.ensures.0 c.if-contains.true))

pub returns-then-is_several : goal.returns-then-is_several
returns-then-is_several c = λ pairs before table within so_far.
    let same : record { space = c.space-2.result; qualifier = option_map (λ q. q.now) c.qualifier-2.result; text = c.text-2.result.now } ≡ name_of c.args.pair.now = λ i. record { space = c.space-2.ensures i; qualifier = c.qualifier-2.ensures i; text = c.text-2.ensures i } in
    seen_several pairs before c.args.seen.now c.args.names.now.items c.args.pair.now so_far within c.insert.new.self
    (λ n. subst (λ (m : FullName). Contains c.insert.new.self n ↔ (Contains c.args.seen.now n ⊎ (n ≡ m))) same (c.in_ok-insert.ensures n))
    ((c.is_several.ensures pairs table).0 c.if-is_several.true)

pub returns : goal.returns
returns c = λ pairs before table within so_far.
    let first : record { space = c.space.result; qualifier = option_map (λ q. q.now) c.qualifier.result; text = c.text.result.now } ≡ name_of c.args.pair.now = λ i. record { space = c.space.ensures i; qualifier = c.qualifier.ensures i; text = c.text.ensures i } in
    let same : record { space = c.space-2.result; qualifier = option_map (λ q. q.now) c.qualifier-2.result; text = c.text-2.result.now } ≡ name_of c.args.pair.now = λ i. record { space = c.space-2.ensures i; qualifier = c.qualifier-2.ensures i; text = c.text-2.ensures i } in
    seen_more pairs before c.args.seen.now c.args.names.now.items c.args.pair.now so_far within c.insert.new.self c.push.new.self.items
    (λ n. subst (λ (m : FullName). Contains c.insert.new.self n ↔ (Contains c.args.seen.now n ⊎ (n ≡ m))) same (c.in_ok-insert.ensures n))
    (λ there. both_ways c.contains.result c.if-contains.false (c.contains.ensures.1 (subst (λ (n : FullName). Contains c.args.seen.now n) (sym first) there)))
    (λ several. both_ways c.is_several.result c.if-is_several.false ((c.is_several.ensures pairs table).1 several))
    (c.in_ok-push.ensures.items ∙ ap (λ (x : Pair). c.args.names.now.items ++ x ∷ []) c.copy_of.ensures)
