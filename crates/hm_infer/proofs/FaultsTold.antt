-- Type faults are told as they should be.
use Rattle.std.proofs.Common.{◌≡◌, ℕ, ◌+◌, ◌<◌, List, [], ◌∷◌, ◌++◌, length, None, Some, get_or, take, Contains, ◌↔◌, inl, inr, ⊎_elim, refl, sym, ap, ◌∙◌, subst, arith}
use Rattle.std.proofs.lemmas.List.{append_assoc, append-nil, get_or_default, take_all, take_more}
use Rattle.hm_syntax.specs.Lists.{patterns}
use Rattle.hm_syntax.specs.Names.{Identifier}
use Rattle.hm_syntax.specs.Sizes.{pattern_size, patterns_size}
use Rattle.hm_syntax.specs.Trees.{Pattern, Declaration}
use Rattle.hm_typing.specs.Names.{Identifier as Name, IsOneOf}
use Rattle.hm_names.specs.ModuleCores.{ModuleCore}
use Rattle.hm_names.specs.Faults.Phases.{AreOrdered, fault}
use Rattle.hm_names.specs.Untyped.{IsTold, AreToldAs}
use Rattle.hm_names.specs.declared.faults.Fault.{Fault}
use Rattle.hm_names.specs.declared.faults.Kind.TheVariants.{Untyped}
use Rattle.hm_names.proofs.OrderedLists.{one_of_contained, contained}
use Rattle.hm_names.proofs.Rows as rows
use Rattle.hm_verdicts.proofs.Lists.{one_of_left, one_of_right, one_of_either}
use Rattle.hm_infer.specs.Told.{leading, told_name, faults_told, no_declaration, declaration_at, faults_at, IsStart, AreStartsOf}
use Rattle.hm_infer.proofs.ToldOnce.{told_once}

pub pattern_falls : (row : List Pattern) (i : ℕ) (d : Pattern) → i < length row → d ≡ get_or row i d → pattern_size d < patterns_size (patterns row)
pattern_falls = rows.pattern_falls

pub none_leads : (xs ys : List Identifier) → leading xs ≡ None → leading (xs ++ ys) ≡ leading ys
none_leads [] ys e = refl
none_leads (x ∷ xs) ys e = absurd (cc)

pub one_leads : (xs ys : List Identifier) (n : Identifier) → leading xs ≡ Some n → leading (xs ++ ys) ≡ Some n
one_leads [] ys n e = absurd (cc)
one_leads (x ∷ xs) ys n e = e

-- ---- the faults of the declarations at some places

module _ (ds : List Declaration) where
  abbrev fault_list : ℕ → List Fault
  fault_list p = faults_told (told_name (declaration_at ds p))

  faults_append : (xs ys : List ℕ) → faults_at ds (xs ++ ys) ≡ faults_at ds xs ++ faults_at ds ys
  faults_append [] ys = refl
  faults_append (x ∷ xs) ys = ap (λ r. fault_list x ++ r) (faults_append xs ys) ∙ sym (append_assoc (fault_list x) (faults_at ds xs) (faults_at ds ys))

  pub faults_more : (starts : List ℕ) (i p : ℕ) (d : Declaration) → i < length starts → p ≡ get_or starts i p → p < length ds → d ≡ get_or ds p d → faults_at ds (take i starts) ++ faults_told (told_name d) ≡ faults_at ds (take (i + 1) starts)
  faults_more starts i p d l e m f =
      let same : d ≡ declaration_at ds p = f ∙ get_or_default ds p d no_declaration m in
      ap (λ z. faults_at ds (take i starts) ++ faults_told (told_name z)) same ∙
      (ap (λ r. faults_at ds (take i starts) ++ r) (sym (append-nil (fault_list p))) ∙
      (sym (faults_append (take i starts) (p ∷ [])) ∙ ap (faults_at ds) (sym (take_more starts i p l ∙ ap (λ z. take i starts ++ z ∷ []) (sym e)))))

  in_faults : (starts : List ℕ) (f : Fault) → IsOneOf f (faults_at ds starts) → (p : ℕ) × (IsOneOf p starts × IsOneOf f (fault_list p))
  in_faults [] f o = absurd o
  in_faults (p ∷ ps) f o = ⊎_elim (λ q. (p, (inl refl, q))) (λ q. let r = in_faults ps f q in (r.0, (inr r.1.0, r.1.1))) (one_of_either f (fault_list p) (faults_at ds ps) o)

  to_faults : (starts : List ℕ) (f : Fault) (p : ℕ) → IsOneOf p starts → IsOneOf f (fault_list p) → IsOneOf f (faults_at ds starts)
  to_faults [] f p o q = absurd o
  to_faults (r ∷ rs) f p (inl e) q = one_of_left f (fault_list r) (faults_at ds rs) (subst (λ z. IsOneOf f (fault_list z)) e q)
  to_faults (r ∷ rs) f p (inr o) q = one_of_right f (fault_list r) (faults_at ds rs) (to_faults rs f p o q)

-- ---- units are told by where they begin

module _ (c : ModuleCore) where
  start_told : (ds : List Declaration) (x : Name) (p : ℕ) → IsStart c ds x p → (n : Identifier) × (IsTold c x ds n × (told_name (declaration_at ds p) ≡ Some n))
  start_told ds x p s = (s.name, (s.told, s.shown))

  told_fault : (p : ℕ) (n : Identifier) → told_name (declaration_at c.decls p) ≡ Some n → IsOneOf (fault Untyped n) (fault_list c.decls p)
  told_fault p n e = subst (λ o. IsOneOf (fault Untyped n) (faults_told o)) (sym e) (inl refl)

  only_fault : (p : ℕ) (n : Identifier) (f : Fault) → told_name (declaration_at c.decls p) ≡ Some n → IsOneOf f (fault_list c.decls p) → f ≡ fault Untyped n
  only_fault p n f e o = ⊎_elim (λ q. q) (λ z. absurd z) (subst (λ z. IsOneOf f (faults_told z)) e o)

  pub told_as : (units : List Name) (starts : List ℕ) (found : List Fault) → AreStartsOf c units starts → AreOrdered found → ((f : Fault) → Contains found f ↔ Contains (faults_at c.decls starts) f) → AreToldAs c units found
  told_as units starts found a ordered same = record { some = some a.some; exact = λ f. (there f, back f); ordered = ordered }
    where
      there : (f : Fault) → Contains found f → (x : Name) × ((n : Identifier) × (IsOneOf x units × IsTold c x c.decls n × (f ≡ fault Untyped n)))
      there f h =
          let q = in_faults c.decls starts f (one_of_contained (faults_at c.decls starts) f ((same f).0 h)) in
          let u = a.back q.0 (contained starts q.0 q.1.0) in
          let t = start_told c.decls u.0 q.0 u.1.1 in
          (u.0, (t.0, (u.1.0, t.1.0, only_fault q.0 t.0 f t.1.1 q.1.1)))

      back : (f : Fault) → (x : Name) × ((n : Identifier) × (IsOneOf x units × IsTold c x c.decls n × (f ≡ fault Untyped n))) → Contains found f
      back f h =
          let p = a.each h.0 h.1.1.0 in
          let t = start_told c.decls h.0 p.0 p.1.1 in
          let e : f ≡ fault Untyped t.0 = h.1.1.2 ∙ ap (fault Untyped) (told_once c h.0 c.decls h.1.0 t.0 h.1.1.1 t.1.0) in
          (same f).1 (contained (faults_at c.decls starts) f (to_faults c.decls starts f p.0 (one_of_contained starts p.0 p.1.0) (subst (λ g. IsOneOf g (fault_list c.decls p.0)) (sym e) (told_fault p.0 t.0 t.1.1))))

      some : ¬ (starts ≡ []) → ¬ (found ≡ [])
      some n e = at starts n (λ p k. a.back p k)
        where
          at : (ps : List ℕ) → ¬ (ps ≡ []) → ((p : ℕ) → Contains ps p → (x : Name) × (IsOneOf x units × IsStart c c.decls x p)) → ⊥
          at [] m k = m refl
          at (p ∷ ps) m k =
              let u = k p (contained (p ∷ ps) p (inl refl)) in
              let t = start_told c.decls u.0 p u.1.1 in
              subst (λ gs. IsOneOf (fault Untyped t.0) gs) e (one_of_contained found (fault Untyped t.0) (back (fault Untyped t.0) (u.0, (t.0, (u.1.0, t.1.0, refl)))))

pub all_told : (decls : List Declaration) (starts : List ℕ) (i : ℕ) (faults found : List Fault) → i ≡ length starts → faults ≡ faults_at decls (take i starts) → AreOrdered found → ((f : Fault) → Contains found f ↔ Contains faults f) →
    (c : ModuleCore) (units : List Name) → c.decls ≡ decls → AreStartsOf c units starts → AreToldAs c units found
all_told decls starts i faults found e f ordered same c units d a =
    let all : faults ≡ faults_at c.decls starts = f ∙ (ap (λ k. faults_at decls (take k starts)) e ∙ (ap (faults_at decls) (take_all (length starts) starts (omega arith)) ∙ ap (λ ds. faults_at ds starts) (sym d))) in
    told_as c units starts found a ordered (subst (λ z. (g : Fault) → Contains found g ↔ Contains z g) all same)
