-- Clauses with signatures are checked one by one, and the places of those bindings that are faults are found.
use Rattle.std.proofs.Common.{◌≡◌, ℕ, zero, suc, ◌+◌, ◌<◌, ◌≤◌, List, [], ◌∷◌, ◌++◌, drop, length, get_or, Bool, true, false, Some, Contains, inl, inr, ◌⊎◌, ⊎_elim, ◌↔◌, refl, sym, ap, ◌∙◌, subst, arith, length-append, true≢false}
use Rattle.std.specs.Bool.{Decides}
use Rattle.std.specs.List.{slice_get}
use Rattle.std.proofs.lemmas.List.{get_or_append_left, get_or_push}
use Rattle.std.proofs.lemmas.List.Elements.{Contains-append_left, Contains-append_right, Contains-append_cases}
use Rattle.std.proofs.lemmas.Option.{slice_get_within}
use native.Mathlib.Decide.{ℕ_discrete}
use Rattle.hm_types.specs.Types.{Var}
use Rattle.hm_typing.specs.Assumptions.{assumptions_put}
use Rattle.hm_typing.specs.Problems.{Unifies, MostGeneralUnifier}
use Rattle.hm_typing.proofs.Principal.{assumptions_put_closed}
use Rattle.hm_syntax.specs.Trees.{Declaration, Declarations}
use Rattle.hm_names.specs.Syntax.{Known}
use Rattle.hm_unify.specs.Solving.{Solving}
use Rattle.hm_unify.specs.declared.faults.UnifyFault.{UnifyFault}
use Rattle.hm_unify.specs.declared.faults.UnifyFault.TheVariants.{Clash}
use Rattle.hm_infer_context.specs.Environments.{Assumed, AreAssumed, assumptions}
use Rattle.hm_infer_context.specs.Problems.{problem, HasNone, Refuses as RefusesAnswer}
use Rattle.hm_infer.specs.SignedFaults.{HasFlag, IsFaultAt, Refuses, goes_on}
use Rattle.hm_infer_expressions.specs.SignedLists.{SignedClauseHas}
use Rattle.hm_infer_context.proofs.Outcomes.{SolvedBy}
use Rattle.hm_infer_expressions.proofs.PrincipalLists.{closed_assumptions}
use Rattle.hm_infer_expressions.proofs.Referring.{get_at}

-- One clause

pub clause_typed : (k : Known) (all : Declarations) (d : Declaration) (w : Bool) (es fs : List Assumed) (s s1 : Solving) → w ≡ false → es ≡ fs → AreAssumed 0 fs → MostGeneralUnifier (problem s1) → SolvedBy (λ r. SignedClauseHas k all (assumptions_put r (assumptions es)) d) s s1 → Refuses w false k all (assumptions fs) d
clause_typed k all d w es fs s s1 e f a m solved =
    subst (λ z. Refuses z false k all (assumptions fs) d) (sym e)
    (subst (λ C. SignedClauseHas k all C d) (assumptions_put_closed m.map (assumptions fs) (closed_assumptions fs a))
    (subst (λ z. SignedClauseHas k all (assumptions_put m.map (assumptions z)) d) f (solved.sound m.map m.unifies).1))

pub clause_refused : (k : Known) (all : Declarations) (d : Declaration) (w : Bool) (es fs : List Assumed) (s : Solving) (x : UnifyFault) → w ≡ false → es ≡ fs → AreAssumed 0 fs → s ≡ record { equations = []; given = 0; failed = false; opened = [] } → x ≡ Clash → RefusesAnswer (λ r. SignedClauseHas k all (assumptions_put r (assumptions es)) d) s x → Refuses w true k all (assumptions fs) d
clause_refused k all d w es fs s x e f a i c n =
    let never : HasNone (λ r. SignedClauseHas k all (assumptions_put r (assumptions es)) d) s = subst (RefusesAnswer (λ r. SignedClauseHas k all (assumptions_put r (assumptions es)) d) s) c n in
    subst (λ z. Refuses z true k all (assumptions fs) d) (sym e)
    (λ h. never Var (subst (λ z. Unifies Var (problem z)) (sym i) tt)
    (subst (λ z. SignedClauseHas k all (assumptions_put Var (assumptions z)) d) (sym f) (subst (λ C. SignedClauseHas k all C d) (sym (assumptions_put_closed Var (assumptions fs) (closed_assumptions fs a))) h)))

-- Flags of declarations, one after the other

abbrev pub Flagged : (ℕ → Declaration → Bool → Type 0) → List Declaration → ℕ → List Bool → Type 0
Flagged P ds i flags = (length flags ≡ i) × ((p : ℕ) (d : Declaration) → p < i → slice_get ds p ≡ Some d → P p d (get_or flags p false))

some_one : {X : Type 0} {a b : X} → Some a ≡ Some b → a ≡ b
some_one h = cc

pub flagged_start : (P : ℕ → Declaration → Bool → Type 0) (ds : List Declaration) (flags : List Bool) → flags ≡ [] → Flagged P ds 0 flags
flagged_start P ds flags e = (ap length e, λ p d l g. absurd (omega (arith, l)))

pub flagged_step : (P : ℕ → Declaration → Bool → Type 0) (ds : List Declaration) (i : ℕ) (d : Declaration) (b : Bool) (old new : List Bool) → i < length ds → d ≡ get_or ds i d → new ≡ old ++ b ∷ [] → P i d b → Flagged P ds i old → Flagged P ds (i + 1) new
flagged_step P ds i d b old new l e f h t = ((ap length f ∙ length-append old (b ∷ [])) ∙ (let q = t.0 in omega (arith, q)), λ p c m g. at p c m g (ℕ_discrete p i))
  where
    at : (p : ℕ) (c : Declaration) → p < i + 1 → slice_get ds p ≡ Some c → Dec (p ≡ i) → P p c (get_or new p false)
    at p c m g (yes s) =
        let same : d ≡ c = some_one (sym (get_at ds i d l e) ∙ (ap (slice_get ds) (sym s) ∙ g)) in
        let flag : get_or new i false ≡ b = ap (λ z. get_or z i false) f ∙ get_or_push old b false i t.0 in
        subst (λ z. P z c (get_or new z false)) (sym s) (subst (λ z. P i z (get_or new i false)) same (subst (P i d) (sym flag) h))
    at p c m g (no n) =
        let below : p < i = omega (arith, m, n) in
        let there : p < length old = (let q = t.0 in omega (arith, below, q)) in
        subst (P p c) (sym (ap (λ z. get_or z p false) f ∙ get_or_append_left old (b ∷ []) false p there)) (t.1 p c below g)

pub flagged_all : (P : ℕ → Declaration → Bool → Type 0) (ds : List Declaration) (i : ℕ) (flags : List Bool) → length ds ≤ i → i ≤ length ds → Flagged P ds i flags → (length flags ≡ length ds) × ((p : ℕ) (d : Declaration) → slice_get ds p ≡ Some d → P p d (get_or flags p false))
flagged_all P ds i flags l m t = ((let q = t.0 in omega (arith, q, l, m)), λ p d g. t.1 p d (let h = slice_get_within ds p d g in omega (arith, h, l)) g)

-- Runs

-- no clause before i of the run that begins at p has the flag, and the run goes on
abbrev pub NoneBefore : List Declaration → List Bool → ℕ → ℕ → Type 0
NoneBefore ds flags p i = (q : ℕ) → p ≤ q → q < i → (goes_on (drop q ds) ≡ true) × (get_or flags q false ≡ false)

pub opposite : {X : Type 0} {b : Bool} → b ≡ true → b ≡ false → X
opposite e f = absurd (true≢false (sym e ∙ f))

pub flag_found : (ds : List Declaration) (flags : List Bool) (p i : ℕ) → p ≤ i → i < length ds → NoneBefore ds flags p i → get_or flags i false ≡ true → Decides true (HasFlag ds flags p)
flag_found ds flags p i l m n e = ((λ t. (i, (record { behind = l; inside = m; each = λ j a b. (n j a b).0 }, e))), (λ h. refl))

pub flag_ended : (ds : List Declaration) (flags : List Bool) (p i : ℕ) → NoneBefore ds flags p i → get_or flags i false ≡ false → p ≤ i → goes_on (drop i ds) ≡ false → Decides false (HasFlag ds flags p)
flag_ended ds flags p i n e l g = ((λ t. absurd (true≢false (sym t))), (λ h. at h (ℕ_discrete h.0 i)))
  where
    at : (h : HasFlag ds flags p) → Dec (h.0 ≡ i) → false ≡ true
    at h (yes s) = opposite h.1.1 (ap (λ z. get_or flags z false) s ∙ e)
    at h (no m) = later (below h.0 i m)
      where
        below : (a b : ℕ) → ¬ (a ≡ b) → (a < b) ⊎ (b < a)
        below zero zero f = absurd (f refl)
        below zero (suc b) f = inl (omega arith)
        below (suc a) zero f = inr (omega arith)
        below (suc a) (suc b) f = ⊎_elim (λ c. inl (omega (arith, c))) (λ c. inr (omega (arith, c))) (below a b (λ q. f (ap suc q)))

        later : (h.0 < i) ⊎ (i < h.0) → false ≡ true
        later (inl a) = opposite h.1.1 (n h.0 h.1.0.behind a).1
        later (inr a) = opposite (h.1.0.each i l a) g

pub flag_missing : (ds : List Declaration) (flags : List Bool) (p i : ℕ) → NoneBefore ds flags p i → length ds ≤ i → Decides false (HasFlag ds flags p)
flag_missing ds flags p i n l = ((λ t. absurd (true≢false (sym t))), (λ h. opposite h.1.1 (n h.0 h.1.0.behind (let q = h.1.0.inside in omega (arith, q, l))).1))

pub none_more : (ds : List Declaration) (flags : List Bool) (p i : ℕ) → NoneBefore ds flags p i → get_or flags i false ≡ false → goes_on (drop i ds) ≡ true → NoneBefore ds flags p (i + 1)
none_more ds flags p i n e g q l m = at (ℕ_discrete q i)
  where
    at : Dec (q ≡ i) → (goes_on (drop q ds) ≡ true) × (get_or flags q false ≡ false)
    at (yes s) = (ap (λ z. goes_on (drop z ds)) s ∙ g, ap (λ z. get_or flags z false) s ∙ e)
    at (no k) = n q l (omega (arith, m, k))

-- Places

abbrev pub PlacesBefore : List Declaration → List Bool → List Bool → ℕ → List ℕ → Type 0
PlacesBefore ds waiting refused i places = (p : ℕ) → Contains places p ↔ ((p < i) × IsFaultAt ds waiting refused p)

pub places_start : (ds : List Declaration) (waiting refused : List Bool) (places : List ℕ) → places ≡ [] → PlacesBefore ds waiting refused 0 places
places_start ds waiting refused places e p = ((λ h. absurd (none (subst (λ z. Contains z p) e h))), (λ h. absurd (let l = h.0 in omega (arith, l))))
  where
    none : Contains [] p → ⊥
    none h = let l = h.1 in omega (arith, l)

pub places_pushed : (ds : List Declaration) (waiting refused : List Bool) (i : ℕ) (old new : List ℕ) → new ≡ old ++ i ∷ [] → IsFaultAt ds waiting refused i → PlacesBefore ds waiting refused i old → PlacesBefore ds waiting refused (i + 1) new
places_pushed ds waiting refused i old new e f t p = (
  (λ h. ⊎_elim (λ o. let g = (t p).0 o in ((let l = g.0 in omega (arith, l)), g.1)) (λ o. let s = only o in ((omega (arith, s)), subst (IsFaultAt ds waiting refused) (sym s) f)) (Contains-append_cases old (i ∷ []) p (subst (λ z. Contains z p) e h))),
  (λ h. subst (λ z. Contains z p) (sym e) (at h (ℕ_discrete p i))),
)
  where
    only : Contains (i ∷ []) p → p ≡ i
    only (zero, l, s) = sym s
    only (suc j, l, s) = absurd (omega (arith, l))

    at : (p < i + 1) × IsFaultAt ds waiting refused p → Dec (p ≡ i) → Contains (old ++ i ∷ []) p
    at h (yes s) = Contains-append_right old (i ∷ []) p (0, omega arith, sym s)
    at h (no n) = Contains-append_left old (i ∷ []) p ((t p).1 ((let l = h.0 in omega (arith, l, n)), h.1))

pub places_same : (ds : List Declaration) (waiting refused : List Bool) (i : ℕ) (places : List ℕ) → ¬ (IsFaultAt ds waiting refused i) → PlacesBefore ds waiting refused i places → PlacesBefore ds waiting refused (i + 1) places
places_same ds waiting refused i places n t p = (
  (λ h. let g = (t p).0 h in ((let l = g.0 in omega (arith, l)), g.1)),
  (λ h. at h (ℕ_discrete p i)),
)
  where
    at : (p < i + 1) × IsFaultAt ds waiting refused p → Dec (p ≡ i) → Contains places p
    at h (yes s) = absurd (n (subst (IsFaultAt ds waiting refused) s h.1))
    at h (no m) = (t p).1 ((let l = h.0 in omega (arith, l, m)), h.1)

pub places_all : (ds : List Declaration) (waiting refused : List Bool) (i : ℕ) (places : List ℕ) → length ds ≤ i → PlacesBefore ds waiting refused i places → (p : ℕ) → Contains places p ↔ ((p < length ds) × IsFaultAt ds waiting refused p)
places_all ds waiting refused i places l t p = (
  (λ h. let g = (t p).0 h in (inside g.1, g.1)),
  (λ h. (t p).1 ((let m = h.0 in omega (arith, l, m)), h.1)),
)
  where
    inside : IsFaultAt ds waiting refused p → p < length ds
    inside f = let a = f.refused_one.1.0.behind in let b = f.refused_one.1.0.inside in omega (arith, a, b)
