use Rattle.std.proofs.Common.{◌≡◌, ◌<◌, ◌+◌, ◌-◌, drop, length, refl, sym, ◌∙◌, subst, arith}
use Rattle.std.proofs.lemmas.Option.{slice_get_read}
use Rattle.hm_typing.specs.Names.{IsOneOf}
use Rattle.hm_names_keys.specs.Keys.{variable_of_key}
use Rattle.hm_names_keys.specs.Variables.{identifier}
use Rattle.hm_names_keys.proofs.SameVariables.{key_eq, same_variable-is}
use Rattle.hm_infer_context.specs.Environments.{assumed_names}
use Rattle.hm_infer_context.specs.Kept.{entries_of}
use Rattle.hm_infer_context.proofs.PlacedFirst.{none_before, none_last}
use Rattle.hm_infer_context.proofs.environment.place_among_last.Goals as goal

pub items-init : goal.items-init
items-init c = record {
  from = c.requires;
  within = omega arith;
  none = none_last c.args.items.now (variable_of_key c.args.key.now);
}

pub returns-then-eq : goal.returns-then-eq
returns-then-eq c =
    let w = c.items.invariant.within in
    let inside : c.items.place - 1 < length c.args.items.now = omega (arith, w, c.items-test.true) in
    let d = c.index-items-place.result in
    let n : c.items.place ≡ (c.items.place - 1) + 1 = omega (arith, c.items-test.true) in
    record {
      binding = d;
      at = slice_get_read c.args.items.now (length c.args.items.now) (c.items.place - 1) d refl inside c.index-items-place.is;
      named = same_variable-is (variable_of_key d.name) (variable_of_key c.args.key.now) (sym (key_eq d.name c.args.key.now) ∙ (sym c.eq.ensures ∙ c.if-eq.true));
      last = subst (λ k. ¬ (IsOneOf (identifier (variable_of_key c.args.key.now)) (assumed_names (entries_of (drop k c.args.items.now))))) n c.items.invariant.none;
    }

pub items-preserved : goal.items-preserved
items-preserved c =
    let w = c.items.invariant.within in
    let inside : c.items.place - 1 < length c.args.items.now = omega (arith, w, c.items-test.true) in
    let d = c.index-items-place.result in
    let n : c.items.place ≡ (c.items.place - 1) + 1 = omega (arith, c.items-test.true) in
    record {
      from = omega (arith, c.items-test.true);
      within = omega (arith, w);
      none = none_before c.args.items.now (c.items.place - 1) d (variable_of_key c.args.key.now) inside c.index-items-place.is (subst (λ k. ¬ (IsOneOf (identifier (variable_of_key c.args.key.now)) (assumed_names (entries_of (drop k c.args.items.now))))) n c.items.invariant.none) (sym (key_eq d.name c.args.key.now) ∙ (sym c.eq.ensures ∙ c.if-eq.false));
    }

pub returns : goal.returns
returns c =
    let f = c.items.invariant.from in
    let n : c.items.place ≡ c.args.from = omega (arith, f, c.items-test.false) in
    subst (λ k. ¬ (IsOneOf (identifier (variable_of_key c.args.key.now)) (assumed_names (entries_of (drop k c.args.items.now))))) n c.items.invariant.none
