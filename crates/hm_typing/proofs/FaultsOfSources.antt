-- A worked list with its type faults.
use Rattle.std.proofs.Common.{◌≡◌, [], ◌∷◌, inl, inr, ◌⊎◌, ⊎_elim, refl, sym, ap, ◌∙◌, subst, arith}
use Rattle.hm_typing.specs.Names.{Identifier, IsDistinct}
use Rattle.hm_typing.specs.Schemes.{Monotype, Scheme, arrow, closed}
use Rattle.hm_typing.specs.Assumptions.{Assumptions, bind_all}
use Rattle.hm_typing.specs.Syntax.{Bindings, no_binding, unsigned, signed, matched, names, bool, Apply, Variable}
use Rattle.hm_typing.specs.Units.{seen, IsUnsigned, RefersTo, Reaches, directly, through, SameUnit, DependsOn}
use Rattle.hm_typing.specs.Verdicts.{UnitsHave, IsTypable, IsTypeFault, IsFirstIn, AreTypeFaults}
use Rattle.hm_typing.specs.Orders.{SignedAre}
use Rattle.hm_typing.specs.Sources.{f, g, x, s, t, not, int, some_faults, with_not}
use Rattle.hm_typing.proofs.Ordering.{layout}
use Rattle.hm_typing.proofs.WorkedSources.{differ, f≢g, g≢f, found, behind, only, only_at, argument, int≢char, no_self_arrow, maps_typed, type_letter}

-- names

f≢s : ¬ (f ≡ s)
f≢s = differ f s (λ e. omega arith)

f≢t : ¬ (f ≡ t)
f≢t = differ f t (λ e. omega arith)

g≢s : ¬ (g ≡ s)
g≢s = differ g s (λ e. omega arith)

g≢t : ¬ (g ≡ t)
g≢t = differ g t (λ e. omega arith)

s≢t : ¬ (s ≡ t)
s≢t = differ s t (λ e. omega arith)

not≢f : ¬ (not ≡ f)
not≢f = differ not f (λ e. omega arith)

not≢g : ¬ (not ≡ g)
not≢g = differ not g (λ e. omega arith)

not≢s : ¬ (not ≡ s)
not≢s = differ not s (λ e. omega arith)

not≢t : ¬ (not ≡ t)
not≢t = differ not t (λ e. omega arith)

distinct : IsDistinct (names some_faults)
distinct = (
  (λ o. ⊎_elim f≢g (λ k. ⊎_elim f≢s (λ h. ⊎_elim f≢t (λ i. i) h) k) o),
  ((λ o. ⊎_elim g≢s (λ k. ⊎_elim g≢t (λ i. i) k) o), ((λ o. ⊎_elim s≢t (λ i. i) o), ((λ o. o), tt))),
)

-- the one reference is that of g to f

unsigned_one : (b : Identifier) → IsUnsigned b some_faults → (b ≡ f) ⊎ ((b ≡ g) ⊎ (b ≡ t))
unsigned_one b (inl e) = inl e
unsigned_one b (inr (inl e)) = inr (inl e)
unsigned_one b (inr (inr (inl e))) = inr (inr e)
unsigned_one b (inr (inr (inr e))) = absurd e

not_unsigned : (b c : Identifier) → b ≡ c → ¬ (c ≡ f) → ¬ (c ≡ g) → ¬ (c ≡ t) → ¬ (IsUnsigned b some_faults)
not_unsigned b c e nf ng nt u = ⊎_elim (λ p. nf (sym e ∙ p)) (λ k. ⊎_elim (λ p. ng (sym e ∙ p)) (λ p. nt (sym e ∙ p)) k) (unsigned_one b u)

refers : (a b : Identifier) → RefersTo some_faults a b → (a ≡ g) × (b ≡ f)
refers a b (inl (e, inl (n, (k, inl (inl (inl p))))), u) = absurd (n (inl p))
refers a b (inl (e, inl (n, (k, inl (inl (inr p))))), u) = absurd (n (inl p))
refers a b (inl (e, inl (n, (k, inl (inr p)))), u) = absurd p
refers a b (inl (e, inl (n, (k, inr p))), u) = absurd p
refers a b (inl (e, inr m), u) = absurd m
refers a b (inr (inl (e, inl (n, (k, inl (inl (inl p)))))), u) = (e, p)
refers a b (inr (inl (e, inl (n, (k, inl (inl (inr p)))))), u) = absurd p
refers a b (inr (inl (e, inl (n, (k, inl (inr p))))), u) = absurd p
refers a b (inr (inl (e, inl (n, (k, inr p)))), u) = absurd p
refers a b (inr (inl (e, inr m)), u) = absurd m
refers a b (inr (inr (inl (e, inl (n, (k, inl (inl p)))))), u) = absurd p
refers a b (inr (inr (inl (e, inl (n, (k, inl (inr p)))))), u) = absurd p
refers a b (inr (inr (inl (e, inl (n, (k, inr p))))), u) = absurd p
refers a b (inr (inr (inl (e, inr m))), u) = absurd m
refers a b (inr (inr (inr (inl (e, inl (n, (k, inl (inl (inl p)))))))), u) = absurd (not_unsigned b not p not≢f not≢g not≢t u)
refers a b (inr (inr (inr (inl (e, inl (n, (k, inl (inl (inr p)))))))), u) = absurd (not_unsigned b s p (λ q. f≢s (sym q)) (λ q. g≢s (sym q)) s≢t u)
refers a b (inr (inr (inr (inl (e, inl (n, (k, inl (inr p))))))), u) = absurd p
refers a b (inr (inr (inr (inl (e, inl (n, (k, inr p)))))), u) = absurd p
refers a b (inr (inr (inr (inl (e, inr m)))), u) = absurd m
refers a b (inr (inr (inr (inr m))), u) = absurd m

reached : (a b : Identifier) → Reaches some_faults a b → (a ≡ g) × (b ≡ f)
reached a b (directly r) = refers a b r
reached a b (through {y = c} r p) = absurd (f≢g (sym (refers a c r).1 ∙ (reached c b p).0))

one_unit : (a b : Identifier) → SameUnit some_faults a b → a ≡ b
one_unit a b (inl e) = e
one_unit a b (inr p) = absurd (f≢g (sym (reached a b p.0).1 ∙ (reached b a p.1).0))

g_depends : DependsOn some_faults g f
g_depends = (directly (inr (inl (refl, inl ((λ o. o), ((λ o. o), inl (inl (inl refl)))))), inl refl), λ u. g≢f (one_unit g f u))

nothing_above : (a : Identifier) → ¬ (a ≡ g) → (b : Identifier) → ¬ (DependsOn some_faults a b)
nothing_above a n b d = n (reached a b d.0).0

-- an empty set of units is typable

no_units_have : (U : Identifier → Type 0) (A : Assumptions) (sees : Identifier → Assumptions) (ts : Identifier → Monotype) (B : Identifier → Scheme) → ((y : Identifier) → ¬ (U y)) → (D : Bindings) → SignedAre B D → UnitsHave U A sees ts B D
no_units_have U A sees ts B none no_binding d = tt
no_units_have U A sees ts B none (unsigned v cs D) d = ((λ u. absurd (none v u)), no_units_have U A sees ts B none D d)
no_units_have U A sees ts B none (signed v w cs D) d = ((d.0, λ u. absurd (none v u)), no_units_have U A sees ts B none D d.1)
no_units_have U A sees ts B none (matched k p cs D) d = ((λ u. absurd (none k u)), no_units_have U A sees ts B none D d)

pub nothing_typable : (A : Assumptions) (ds : Bindings) → IsDistinct (names ds) → (U : Identifier → Type 0) → ((y : Identifier) → ¬ (U y)) → IsTypable A ds U
nothing_typable A ds distinct U none =
    let order = layout ds distinct in
    record {
      schemes = order.declared;
      are_closed = order.are_closed;
      units = record { own = order.own; units = order.units; types = λ y. int; bindings = no_units_have U A (λ v. bind_all (names ds) (seen order.own (λ y. int) order.declared v) A) (λ y. int) order.declared none ds order.are_declared };
    }

-- the bindings that have no type

f_untyped : (U : Identifier → Type 0) → U f → ¬ (IsTypable with_not some_faults U)
f_untyped U u p =
    let m = maps_typed x (Apply (Variable x) (Variable x)) _ _ (p.units.bindings.0 u).1 in
    let q = m.3 in
    no_self_arrow q.0 m.1 (only m.0 (arrow q.0 m.1) (found q.1.0) ∙ sym (only m.0 q.0 (found q.1.1)))

s_untyped : (U : Identifier → Type 0) → U s → ¬ (IsTypable with_not some_faults U)
s_untyped U u p = let d = (p.units.bindings.1.1.0.1 u).typed.0 in int≢char (d.function ∙ d.body.body.0)

pub bool≢int : ¬ (bool ≡ int)
bool≢int e = let h : type_letter bool ≡ type_letter int = ap type_letter e in absurd (omega arith)

t_untyped : (U : Identifier → Type 0) → U t → ¬ (IsTypable with_not some_faults U)
t_untyped U u p =
    let w = p.units in
    let d = (w.bindings.1.1.1.0 u).1.0.body.body.0 in
    let declared : p.schemes s ≡ closed int = w.bindings.1.1.0.0 in
    let negated = only_at (arrow bool bool) _ (found (behind not≢t (behind not≢s (behind not≢g (behind not≢f d.1.0))))) in
    let other : w.own t s ≡ Rattle.std.specs.Prelude.false =
    Rattle.hm_typing.proofs.Bridge.not_true (w.own t s) (λ e. not_unsigned s s refl (λ q. f≢s (sym q)) (λ q. g≢s (sym q)) s≢t ((w.units.1 t s).0 e).1) in
    let seen_s = subst (Rattle.hm_typing.specs.Schemes.IsInstance d.0) (Rattle.hm_typing.proofs.Groups.cond_false (w.own t s) _ _ other ∙ declared) (found (behind (λ e. g≢s (sym e)) (behind (λ e. f≢s (sym e)) d.1.1))) in
    let signed_s = only_at int d.0 seen_s in
    bool≢int (sym (ap argument negated.1) ∙ signed_s.1)

first_f : IsFirstIn some_faults f (names some_faults)
first_f = inl refl

first_s : IsFirstIn some_faults s (names some_faults)
first_s = inr ((λ u. f≢s (sym (one_unit s f u))), inr ((λ u. g≢s (sym (one_unit s g u))), inl refl))

first_t : IsFirstIn some_faults t (names some_faults)
first_t = inr ((λ u. f≢t (sym (one_unit t f u))), inr ((λ u. g≢t (sym (one_unit t g u))), inr ((λ u. s≢t (sym (one_unit t s u))), inl refl)))

f_fault : IsTypeFault with_not some_faults f
f_fault = (nothing_typable with_not some_faults distinct (DependsOn some_faults f) (nothing_above f f≢g), f_untyped _ (inr (inl refl)))

s_fault : IsTypeFault with_not some_faults s
s_fault = (nothing_typable with_not some_faults distinct (DependsOn some_faults s) (nothing_above s (λ e. g≢s (sym e))), s_untyped _ (inr (inl refl)))

t_fault : IsTypeFault with_not some_faults t
t_fault = (nothing_typable with_not some_faults distinct (DependsOn some_faults t) (nothing_above t (λ e. g≢t (sym e))), t_untyped _ (inr (inl refl)))

g_no_fault : ¬ (IsTypeFault with_not some_faults g)
g_no_fault k = f_untyped (DependsOn some_faults g) g_depends k.0

pub faults_listed : AreTypeFaults with_not some_faults (f ∷ s ∷ t ∷ [])
faults_listed v = (
  (λ o. ⊎_elim
      (λ e. both v f e first_f f_fault)
      (λ k. ⊎_elim (λ e. both v s e first_s s_fault) (λ h. ⊎_elim (λ e. both v t e first_t t_fault) (λ i. absurd i) h) k) o),
  (λ k. ⊎_elim inl
      (λ o. ⊎_elim (λ e. absurd (g_no_fault (subst (IsTypeFault with_not some_faults) e k.1)))
      (λ o'. ⊎_elim (λ e. inr (inl e)) (λ o''. ⊎_elim (λ e. inr (inr (inl e))) (λ i. absurd i) o'') o') o)
      (Rattle.hm_typing.proofs.FaultLists.first_listed some_faults v (names some_faults) k.0)),
)
  where
    both : (v w : Identifier) → v ≡ w → IsFirstIn some_faults w (names some_faults) → IsTypeFault with_not some_faults w → IsFirstIn some_faults v (names some_faults) × IsTypeFault with_not some_faults v
    both v w e a b = (subst (λ z. IsFirstIn some_faults z (names some_faults)) (sym e) a, subst (IsTypeFault with_not some_faults) (sym e) b)
