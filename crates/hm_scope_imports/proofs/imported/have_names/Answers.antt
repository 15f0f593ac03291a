use Rattle.std.proofs.Common.{◌≡◌, ◌<◌, ℕ, List, [], Bor, length, get_or, rules, subst, sym, ◌∙◌, ap, false, true, refl}
use Rattle.std.specs.Arc.{arc_value}
use Rattle.hm_types.specs.Interfaces.{Exports}
use Rattle.hm_scope_imports.proofs.SameNames.{one_more, same_there}
use Rattle.hm_scope_imports.proofs.imported.have_names.Goals as goal

pub returns-then-ne : goal.returns-then-ne
returns-then-ne c =
    let i = c.loop-i.i in
    let xs = c.args.interfaces.now in
    let ys = c.args.names.now in
    let x = c.index-interfaces-i.result in
    let d : Bor (List ℕ) = record { ref_ptr = (0, 0); now = [] } in
    let inside : i < length xs = search rules in
    let few : i < length ys = subst (λ n. i < n) c.loop-i.invariant.sized inside in
    let apart : c.name.result.now ≡ (get_or ys i d).now → ⊥ = search rules in
    let named : c.name.result.now ≡ (arc_value x).name = c.name.ensures ∙ ap (λ (f : Exports). f.name) c.deref.ensures in
    let there : x ≡ get_or xs i x = c.index-interfaces-i.is in
    ((λ t. let f : false ≡ true = t in cc), λ h. absurd (apart (named ∙ same_there arc_value (λ (f : Exports). f.name) (λ (n : Bor (List ℕ)). n.now) xs ys i x (get_or ys i d) d inside few there refl h)))

pub loop-i-preserved : goal.loop-i-preserved
loop-i-preserved c =
    let i = c.loop-i.i in
    let xs = c.args.interfaces.now in
    let ys = c.args.names.now in
    let x = c.index-interfaces-i.result in
    let d : Bor (List ℕ) = record { ref_ptr = (0, 0); now = [] } in
    let inside : i < length xs = search rules in
    let few : i < length ys = subst (λ n. i < n) c.loop-i.invariant.sized inside in
    let same : c.name.result.now ≡ (get_or ys i d).now = search rules in
    let named : (arc_value x).name ≡ c.name.result.now = sym (c.name.ensures ∙ ap (λ (f : Exports). f.name) c.deref.ensures) in
    let there : x ≡ get_or xs i x = c.index-interfaces-i.is in
    record {
      same = one_more arc_value (λ (f : Exports). f.name) (λ (n : Bor (List ℕ)). n.now) xs ys i x (get_or ys i d) d inside few there refl (named ∙ same) c.loop-i.invariant.same;
      sized = c.loop-i.invariant.sized;
    }
