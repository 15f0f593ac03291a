-- A module has one verdict for given interfaces.
use Rattle.std.proofs.Common.{◌≡◌, ℕ, List, [], ◌∷◌, Option, Some, inl, inr, sym, ap, ◌∙◌, subst}
use Rattle.hm_types.specs.declared.Entity.{Entity}
use Rattle.hm_types.specs.Interfaces.{Exports as Interface}
use Rattle.hm_types.specs.Schemes.{TypeScheme}
use Rattle.hm_typing.specs.Names.{Identifier, global, IsOneOf}
use Rattle.hm_typing.specs.Verdicts.{AreTypeFaults}
use Rattle.hm_typing.proofs.ListVerdicts.{one_verdict}
use Rattle.hm_typing.proofs.Ordering.{layout}
use Rattle.hm_typing.proofs.Unifying.{unification}
use Rattle.hm_syntax.specs.declared.ast.Module.{Module}
use Rattle.hm_names.specs.ModuleCores.{ModuleCore}
use Rattle.hm_names.specs.Cores.{IsCore, IsTop, IsInterfaceOf, HasScheme, own, other, assumptions, syntax_of}
use Rattle.hm_names.specs.Untyped.{AreUntyped}
use Rattle.hm_names.specs.declared.faults.Fault.{Fault}
use Rattle.hm_names.proofs.Elaboration.{assumes_closed}
use Rattle.hm_names.proofs.OneCore.{one_core, one_interface}
use Rattle.hm_names.proofs.TopVariables.{distinct_names_of_core}
use Rattle.hm_verdicts.specs.ModuleVerdicts.{ArePrincipal, IsGoodFor, IsFaultyFor, Verdict, Good, Faulty, IsVerdict}
use Rattle.hm_verdicts.proofs.CanonicalSchemes.{one_scheme}
use Rattle.hm_verdicts.proofs.Chosen.{same_given}
use Rattle.hm_verdicts.proofs.FaultLists.{found_one, not_well_formed}
use Rattle.hm_verdicts.proofs.OneVerdict.{one_list, one_telling}

module _ (c : ModuleCore) where
  -- two principal tables give a variable one scheme
  same_scheme : (given other : List ℕ → Option TypeScheme) (a : ArePrincipal c given) (b : ArePrincipal c other) (e : Entity) (top : IsTop c e) → (a.each e top).0 ≡ (b.each e top).0
  same_scheme given others a b e top =
      let s = a.each e top in
      let t = b.each e top in
      one_scheme s.0 t.0 s.1.1 t.1.1 (
        (λ u i. t.1.2.0 u (b.principal.most a.schemes a.principal.typed (global e) top u (s.1.2.1 u i))),
        (λ u i. s.1.2.0 u (a.principal.most b.schemes b.principal.typed (global e) top u (t.1.2.1 u i))),
      )

  scheme_there : (given other : List ℕ → Option TypeScheme) → ArePrincipal c given → ArePrincipal c other → (e : Entity) (s : TypeScheme) → HasScheme c given e s → HasScheme c other e s
  scheme_there given others a b e s (own top k) =
      let q : s ≡ (b.each e top).0 = same_given s (a.each e top).0 (sym k ∙ (a.each e top).1.0) ∙ same_scheme given others a b e top in
      own top ((b.each e top).1.0 ∙ ap (λ z. Some z) (sym q))
  scheme_there given others a b e s (other {r = r} n k q) = other {r = r} n k q

  interface_there : (given other : List ℕ → Option TypeScheme) → ArePrincipal c given → ArePrincipal c other → (f : Interface) → IsInterfaceOf c given f → IsInterfaceOf c other f
  interface_there given others a b f i = record {
    name = i.name;
    types = i.types;
    synonyms = i.synonyms;
    constructors = i.constructors;
    values = λ r. (
      (λ k. let q = (i.values r).0 k in (q.0, scheme_there given others a b r.entity r.scheme q.1)),
      (λ q. (i.values r).1 (q.0, scheme_there others given b a r.entity r.scheme q.1)),
    );
  }

module _ (m : Module) (fs : List Interface) where
  one_good : (f g : Interface) → IsGoodFor m fs f → IsGoodFor m fs g → f ≡ g
  one_good f g a b =
      let e : b.core ≡ a.core = one_core m fs b.core a.core b.is_core a.is_core in
      let q : ArePrincipal a.core b.given = subst (λ c. ArePrincipal c b.given) e b.principal in
      one_interface a.core a.given f g a.ordered b.ordered a.interface (interface_there a.core b.given a.given q a.principal g (subst (λ c. IsInterfaceOf c b.given g) e b.interface))

  not_both : (f : Interface) (found : List Fault) → IsGoodFor m fs f → ¬ (IsFaultyFor m fs found)
  not_both f found a (inl q) = not_well_formed m fs found q a.is_core.well_formed
  not_both f found a (inr (c, (is, u))) =
      let e : c ≡ a.core = one_core m fs c a.core is a.is_core in
      at (subst (λ z. AreUntyped z found) e u)
    where
      at : AreUntyped a.core found → ⊥
      at u = listed u.units u.faulty (let f = found_one found u.told.some in let q = (u.told.exact f.0).0 f.1 in (q.0, q.1.1.0))
        where
          listed : (xs : List Identifier) → AreTypeFaults (assumptions a.core) (syntax_of a.core) xs → (x : Identifier) × IsOneOf x xs → ⊥
          listed [] t o = o.1
          listed (x ∷ xs) t o = one_verdict unification layout (syntax_of a.core) (assumptions a.core) (distinct_names_of_core m fs a.core a.is_core) (assumes_closed a.core) a.principal.schemes (x ∷ xs) a.principal.principal t

  both_untyped : (found found' : List Fault) (c d : ModuleCore) → IsCore m fs c → IsCore m fs d → AreUntyped c found → AreUntyped d found' → found ≡ found'
  both_untyped found found' c d a b u v =
      let w : AreUntyped c found' = subst (λ z. AreUntyped z found') (one_core m fs d c b a) v in
      one_telling c u.units w.units found found' (λ x o. (w.faulty x).1 ((u.faulty x).0 o)) (λ x o. (u.faulty x).1 ((w.faulty x).0 o)) u.told w.told

  one_faulty : (found found' : List Fault) → IsFaultyFor m fs found → IsFaultyFor m fs found' → found ≡ found'
  one_faulty found found' (inl a) (inl b) = one_list m fs found found' a b
  one_faulty found found' (inl a) (inr b) = absurd (not_well_formed m fs found a b.1.0.well_formed)
  one_faulty found found' (inr a) (inl b) = absurd (not_well_formed m fs found' b a.1.0.well_formed)
  one_faulty found found' (inr a) (inr b) = both_untyped found found' a.0 b.0 a.1.0 b.1.0 a.1.1 b.1.1

  pub one_module_verdict : (v w : Verdict) → IsVerdict m fs v → IsVerdict m fs w → v ≡ w
  one_module_verdict (Good f) (Good g) a b = ap Good (one_good f g a b)
  one_module_verdict (Good f) (Faulty found) a b = absurd (not_both f found a b)
  one_module_verdict (Faulty found) (Good g) a b = absurd (not_both g found b a)
  one_module_verdict (Faulty found) (Faulty found') a b = ap Faulty (one_faulty found found' a b)
