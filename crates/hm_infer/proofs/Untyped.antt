-- Where the units of a core that are faults begin, where it has no typing.
use Rattle.std.proofs.Common.{◌≡◌, ℕ, zero, suc, ◌<◌, All, List, [], ◌∷◌, ◌++◌, length, inl, inr, ⊎_elim, refl, sym, subst, arith}
use Rattle.hm_typing.specs.Assumptions.{Assumptions, IsClosed}
use Rattle.hm_typing.specs.BindingLists.{HasSchemes}
use Rattle.hm_typing.specs.Names.{Identifier as Name, IsDistinct, IsOneOf}
use Rattle.hm_typing.specs.Schemes.{Scheme}
use Rattle.hm_typing.specs.Syntax.{names}
use Rattle.hm_typing.specs.Units.{IsSigned, IsUnsigned}
use Rattle.hm_typing.specs.Verdicts.{AreTypeFaults, IsFirstIn, IsTypeFault}
use Rattle.hm_typing.proofs.FaultLists.{first_listed}
use Rattle.hm_typing.proofs.Lists.{kind_of}
use Rattle.hm_typing.proofs.ListVerdicts.{faults_found, typed_where_none}
use Rattle.hm_typing.proofs.Ordering.{layout}
use Rattle.hm_typing.proofs.Unifying.{unification}
use Rattle.hm_types.specs.StandardPrelude.{prelude_interface}
use Rattle.hm_names.specs.Cores.{IsSomeCore, assumptions, syntax_of}
use Rattle.hm_names.specs.Untyped.{AreToldAs, AreUntyped}
use Rattle.hm_names.specs.declared.faults.Fault.{Fault}
use Rattle.hm_names.proofs.Elaboration.{assumes_closed}
use Rattle.hm_names.proofs.TopVariables.{distinct_names_of_core}
use Rattle.hm_names.specs.ModuleCores.{ModuleCore}
use Rattle.hm_names.proofs.OrderedLists.{one_of_contained, contained}
use Rattle.hm_verdicts.proofs.Lists.{one_of_left, one_of_right, one_of_either}
use Rattle.hm_infer.specs.Told.{AreStartsOf, IsStart}
use Rattle.hm_infer.specs.UnitStarts.{AreFaultStarts, AreStartsOfKind}

module _ (c : ModuleCore) (A : Assumptions) (us ss : List ℕ) (unsigned : AreStartsOfKind c A (λ x. IsUnsigned x (syntax_of c)) us) (signed : AreStartsOfKind c A (λ x. IsSigned x (syntax_of c)) ss) where
  abbrev Started : ℕ → Type 0
  Started p = (x : Name) × (IsFirstIn (syntax_of c) x (names (syntax_of c)) × (IsTypeFault A (syntax_of c) x × IsStart c c.decls x p))

  both_back : (p : ℕ) → IsOneOf p (us ++ ss) → Started p
  both_back p o = ⊎_elim (unsigned.back p) (signed.back p) (one_of_either p us ss o)

  both_each : (x : Name) → IsFirstIn (syntax_of c) x (names (syntax_of c)) → IsTypeFault A (syntax_of c) x → (p : ℕ) × (IsOneOf p (us ++ ss) × IsStart c c.decls x p)
  both_each x first fault = ⊎_elim
      (λ k. let h = unsigned.each x k first fault in (h.0, (one_of_left h.0 us ss h.1.0, h.1.1)))
      (λ k. let h = signed.each x k first fault in (h.0, (one_of_right h.0 us ss h.1.0, h.1.1)))
      (kind_of (syntax_of c) x (first_listed (syntax_of c) x (names (syntax_of c)) first))

  all_inside : (ps : List ℕ) → ((p : ℕ) → IsOneOf p ps → p < length c.decls) → All (λ p. p < length c.decls) ps
  all_inside [] f i d l = absurd (omega arith)
  all_inside (p ∷ ps) f zero d l = f p (inl refl)
  all_inside (p ∷ ps) f (suc i) d l = all_inside ps (λ q o. f q (inr o)) i d (omega arith)

  pub are_inside : All (λ p. p < length c.decls) (us ++ ss)
  are_inside = all_inside (us ++ ss) (λ p o. (both_back p o).1.1.1.place)

  module _ (shut : IsClosed A) (distinct : IsDistinct (names (syntax_of c))) (untyped : (B : Name → Scheme) → ¬ (HasSchemes A (syntax_of c) B)) where
    some_start : (xs : List Name) → AreTypeFaults A (syntax_of c) xs → ¬ (us ++ ss ≡ [])
    some_start [] f e = let t = typed_where_none unification layout (syntax_of c) A distinct shut f in untyped t.0 t.1
    some_start (x ∷ xs) f e =
        let k = (f x).0 (inl refl) in
        let h = both_each x k.0 k.1 in
        subst (IsOneOf h.0) e h.1.0

    pub are_starts : (xs : List Name) × (AreTypeFaults A (syntax_of c) xs × AreStartsOf c xs (us ++ ss))
    are_starts =
        let f = faults_found unification layout (syntax_of c) A distinct shut in (
          f.0,
          (
            f.1,
            record {
              some = some_start f.0 f.1;
              each = λ x o. let k = (f.1 x).0 o in let h = both_each x k.0 k.1 in (h.0, (contained (us ++ ss) h.0 h.1.0, h.1.1));
              back = λ p o. let h = both_back p (one_of_contained (us ++ ss) p o) in (h.0, ((f.1 h.0).1 (h.1.0, h.1.1.0), h.1.1.1));
            },
          ),
        )

pub starts_inside : (c : ModuleCore) (A : Assumptions) (starts : List ℕ) → AreFaultStarts c A starts → All (λ p. p < length c.decls) starts
starts_inside c A starts a = subst (All (λ p. p < length c.decls)) (sym a.all) (are_inside c A a.without a.with_signatures a.unsigned_ones a.signed_ones)

-- the faults of a core that has no typing, as they are told
pub core_untyped : (c : ModuleCore) → IsSomeCore c → (A : Assumptions) → A ≡ assumptions c → (starts : List ℕ) (found : List Fault) → AreFaultStarts c A starts → ((B : Name → Scheme) → ¬ (HasSchemes (assumptions c) (syntax_of c) B)) → ((units : List Name) → AreStartsOf c units starts → AreToldAs c units found) → AreUntyped c found
core_untyped c s A e starts found a untyped told = record {
  units = h.0;
  faulty = h.1.0;
  told = told h.0 (subst (AreStartsOf c h.0) (sym a.all) h.1.1);
}
  where
    h : (xs : List Name) × (AreTypeFaults (assumptions c) (syntax_of c) xs × AreStartsOf c xs (a.without ++ a.with_signatures))
    h = are_starts c (assumptions c) a.without a.with_signatures (subst (λ z. AreStartsOfKind c z (λ x. IsUnsigned x (syntax_of c)) a.without) e a.unsigned_ones) (subst (λ z. AreStartsOfKind c z (λ x. IsSigned x (syntax_of c)) a.with_signatures) e a.signed_ones)
        (assumes_closed c) (distinct_names_of_core s.module_of (prelude_interface ∷ s.imports) c s.is_core) untyped
