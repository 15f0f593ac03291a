-- A module has one interface for given schemes, and one skeleton in a set.
use Rattle.std.proofs.Common.{◌≡◌, ℕ, suc, ◌+◌, ◌<◌, List, ◌∷◌, Some, inl, inr, refl, sym, ap, ◌∙◌, subst, arith}
use Rattle.hm_types.specs.Interfaces.{Exports as Interface}
use Rattle.hm_typing.specs.Names.{IsOneOf}
use Rattle.hm_syntax.specs.declared.ast.Module.{Module}
use Rattle.hm_names.specs.Cores.{IsCore, IsInterfaceOf}
use Rattle.hm_names.proofs.OneCore.{one_core, one_interface}
use Rattle.hm_verdicts.specs.Sets.{ModuleSet, module_at}
use Rattle.hm_verdicts.specs.Skeletons.{blank, with_prelude, IsSkeletonOf, HasSkeleton, of_module, HaveSkeletons, none, one_more}

one_of_module : (m : Module) (ks ks' : List Interface) (k k' : Interface) → ks ≡ ks' → IsSkeletonOf m ks k → IsSkeletonOf m ks' k' → k ≡ k'
one_of_module m ks ks' k k' e s t =
    let d : IsCore m (with_prelude ks') s.core = subst (λ z. IsCore m (with_prelude z) s.core) e s.is_core in
    let same : t.core ≡ s.core = one_core m (with_prelude ks') t.core s.core t.is_core d in
    one_interface s.core (λ x. Some blank) k k' s.ordered t.ordered s.interface (subst (λ c. IsInterfaceOf c (λ x. Some blank) k') same t.interface)

module _ (p : ModuleSet) where
  mutual
    pub one_skeleton : {i : ℕ} {k k' : Interface} → HasSkeleton p i k → HasSkeleton p i k' → k ≡ k'
    one_skeleton (of_module {i = i} {ks = ks} {k = k} a s) (of_module {ks = ks'} {k = k'} b t) = one_of_module (module_at p i) ks ks' k k' (one_skeletons a b) s t

    pub one_skeletons : {js : List ℕ} {ks ks' : List Interface} → HaveSkeletons p js ks → HaveSkeletons p js ks' → ks ≡ ks'
    one_skeletons none none = refl
    one_skeletons (one_more {k = k} {ks = ks} a rest) (one_more {k = k'} {ks = ks'} b others) = ap (λ z. z ∷ ks) (one_skeleton a b) ∙ ap (λ zs. k' ∷ zs) (one_skeletons rest others)

  -- how high the import order stands below a module
  abbrev mutual
    pub height : {i : ℕ} {k : Interface} → HasSkeleton p i k → ℕ
    height (of_module a s) = suc (heights a)

    pub heights : {js : List ℕ} {ks : List Interface} → HaveSkeletons p js ks → ℕ
    heights none = 0
    heights (one_more a rest) = height a + heights rest

  mutual
    pub one_height : {i : ℕ} {k k' : Interface} (d : HasSkeleton p i k) (e : HasSkeleton p i k') → height d ≡ height e
    one_height (of_module a s) (of_module b t) = ap suc (one_heights a b)

    pub one_heights : {js : List ℕ} {ks ks' : List Interface} (d : HaveSkeletons p js ks) (e : HaveSkeletons p js ks') → heights d ≡ heights e
    one_heights none none = refl
    one_heights (one_more a rest) (one_more b others) = ap (λ n. n + heights rest) (one_height a b) ∙ ap (λ n. height b + n) (one_heights rest others)

  -- one of them
  pub record Found (n j : ℕ) (ks : List Interface) : Type 0 where
    pub skeleton : Interface
    pub derivation : HasSkeleton p j skeleton
    pub low : height derivation < suc n
    pub stands : IsOneOf skeleton ks

  behind : (n m j : ℕ) (k : Interface) (ks : List Interface) → Found n j ks → Found (m + n) j (k ∷ ks)
  behind n m j k ks f = record { skeleton = f.skeleton; derivation = f.derivation; low = let h = f.low in omega (arith, h); stands = inr f.stands }

  pub skeleton_at : {js : List ℕ} {ks : List Interface} (d : HaveSkeletons p js ks) (j : ℕ) → IsOneOf j js → Found (heights d) j ks
  skeleton_at none j o = absurd o
  skeleton_at (one_more {j = h} {k = k} {ks = ks} a rest) j (inl e) = subst (λ z. Found (height a + heights rest) z (k ∷ ks)) (sym e) (record { skeleton = k; derivation = a; low = omega arith; stands = inl refl })
  skeleton_at (one_more {j = h} {k = k} {ks = ks} a rest) j (inr o) = behind (heights rest) (height a) j k ks (skeleton_at rest j o)

  -- and each skeleton is of one of them
  pub record Owner (js : List ℕ) (k : Interface) : Type 0 where
    pub number : ℕ
    pub derivation : HasSkeleton p number k
    pub stands : IsOneOf number js
