-- One interface alone has a name of its own.
use Rattle.std.proofs.Common.{◌≡◌, List, [], ◌∷◌, ⊎_elim, sym, ◌∙◌}
use Rattle.std.specs.List.{Contains}
use Rattle.hm_types.specs.Interfaces.{Exports as Interface}
use Rattle.hm_names.proofs.Members.{none_in, cases}
use Rattle.hm_scope_imports.specs.Apart.{AreNamedApart}

the_one : (f g : Interface) → Contains (f ∷ []) g → g ≡ f
the_one f g c = ⊎_elim (λ e. e) (λ o. absurd (none_in g o)) (cases f [] g c)

pub one_apart : (f : Interface) (gs : List Interface) → gs ≡ [] → AreNamedApart (f ∷ gs)
one_apart f [] none g h a b e = the_one f g a ∙ sym (the_one f h b)
one_apart f (k ∷ gs) none g h a b e = absurd (let z : k ∷ gs ≡ [] = none in cc)
