-- A unit is told by one name, and has one first name.
use Rattle.std.proofs.Common.{◌≡◌, ℕ, List, [], ◌∷◌, inl, inr, refl, sym, ◌∙◌, subst}
use Rattle.hm_typing.specs.Names.{Identifier as Name}
use Rattle.hm_typing.specs.Syntax.{Bindings}
use Rattle.hm_typing.specs.Units.{SameUnit}
use Rattle.hm_typing.specs.Verdicts.{IsFirstIn}
use Rattle.hm_typing.proofs.FaultLists.{SameUnit-sym}
use Rattle.hm_syntax.specs.Names.{Identifier}
use Rattle.hm_syntax.specs.Trees.{Declaration, data_declaration, newtype_declaration, synonym_declaration, signature, clause, pattern_binding}
use Rattle.hm_names.specs.ModuleCores.{ModuleCore}
use Rattle.hm_names.specs.Untyped.{Begins, by_clause, by_pattern, by_number, IsTold, here, behind}
use Rattle.hm_infer.proofs.FirstTold.{told_by}

begun_by : (c : ModuleCore) (x : Name) (d : Declaration) (j : ℕ) (n : Identifier) → Begins c x d j n → n ≡ told_by d
begun_by c x (data_declaration m ps cs) j n h = elim h [ ]
begun_by c x (newtype_declaration m ps b) j n h = elim h [ ]
begun_by c x (synonym_declaration m ps b) j n h = elim h [ ]
begun_by c x (signature ns b) j n h = elim h [ ]
begun_by c x (clause m ps r) j n (by_clause e) = refl
begun_by c x (pattern_binding line column p r) j n (by_pattern i e) = refl
begun_by c x (pattern_binding line column p r) j n (by_number e) = refl

pub told_once : (c : ModuleCore) (x : Name) (ds : List Declaration) (n m : Identifier) → IsTold c x ds n → IsTold c x ds m → n ≡ m
told_once c x [] n m h g = elim h [ ]
told_once c x (d ∷ ds) n m (here a) (here b) = begun_by c x d _ n a ∙ sym (begun_by c x d _ m b)
told_once c x (d ∷ ds) n m (here a) (behind f t) = absurd (f n a)
told_once c x (d ∷ ds) n m (behind f t) (here b) = absurd (f m b)
told_once c x (d ∷ ds) n m (behind f t) (behind g u) = told_once c x ds n m t u

pub one_first_name : (ds : Bindings) (x y : Name) (ys : List Name) → SameUnit ds x y → IsFirstIn ds x ys → IsFirstIn ds y ys → x ≡ y
one_first_name ds x y [] s f g = absurd f
one_first_name ds x y (z ∷ zs) s (inl e) (inl h) = e ∙ sym h
one_first_name ds x y (z ∷ zs) s (inl e) (inr g) = absurd (g.0 (SameUnit-sym ds (subst (λ v. SameUnit ds v y) e s)))
one_first_name ds x y (z ∷ zs) s (inr f) (inl h) = absurd (f.0 (subst (SameUnit ds x) h s))
one_first_name ds x y (z ∷ zs) s (inr f) (inr g) = one_first_name ds x y zs s f.1 g.1
