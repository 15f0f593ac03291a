use Rattle.std.proofs.Common.{◌≡◌, ℕ, List, Bor, subst}
use Rattle.hm_syntax.specs.Names.{Identifier}
use Rattle.hm_names.specs.Bindings.{Adds}
use Rattle.hm_names.proofs.AddedPairs.{for_more, for_all}
use Rattle.hm_scope_tables.proofs.AddedTexts.{text_added}
use Rattle.hm_scope_interface_entries.proofs.known_exports.add_names.Goals as goal

pub loop-name-preserved : goal.loop-name-preserved
loop-name-preserved c = for_more (λ (n : Bor Identifier) (x : List ℕ). n.now.text ≡ x) c.args.out.now c.loop-name.out c.insert.new.self c.args.names.now c.loop-name.name-index c.name-item.result c.loop-name-test.true c.name-item.is c.loop-name.invariant
    (subst (λ (t : List ℕ). Adds c.loop-name.out c.insert.new.self (λ x. t ≡ x)) c.as_str.ensures (text_added c.as_str.result.now c.loop-name.out c.insert.new.self c.in_ok-insert.ensures.texts))

pub returns : goal.returns
returns c = for_all (λ (n : Bor Identifier) (x : List ℕ). n.now.text ≡ x) c.args.out.now c.loop-name.out c.args.names.now c.loop-name.name-index c.loop-name-test.false c.loop-name.invariant
