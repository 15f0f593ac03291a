-- What the items of an export list give together, and their faults.
use Rattle.std.proofs.Common.{◌≡◌, ℕ, ◌+◌, ◌<◌, List, [], ◌∷◌, ◌++◌, None, Some, ◌⊎◌, inl, inr, ⊎_elim, refl, sym, ap, ap₂, ◌∙◌, subst, Contains, length, take, get_or, append_assoc}
use Rattle.std.specs.Prelude.{◌↔◌}
use Rattle.std.proofs.lemmas.List.{take_more}
use Rattle.std.proofs.lemmas.List.Elements.{Contains-push, Contains-push_cases, Contains-append_left, Contains-append_right, Contains-append_cases}
use Rattle.hm_types.specs.declared.Entity.{Entity}
use Rattle.hm_types.specs.Interfaces.{Exports as Interface}
use Rattle.hm_syntax.specs.Names.{Identifier}
use Rattle.hm_syntax.specs.declared.ast.Module.{Module}
use Rattle.hm_syntax.specs.declared.ast.Export.{Export}
use Rattle.hm_syntax.specs.declared.ast.Export.TheVariants as export
use Rattle.hm_syntax.specs.declared.ast.SubItems.{SubItems}
use Rattle.hm_syntax.specs.declared.ast.SubItems.TheVariants as subs
use Rattle.hm_scope_exports.specs.declared.exports.ModuleExports.{ModuleExports}
use Rattle.hm_names.specs.declared.namespace.Namespace.{Namespace}
use Rattle.hm_names.specs.declared.namespace.Namespace.TheVariants.{Types}
use Rattle.hm_names.specs.declared.faults.Fault.{Fault}
use Rattle.hm_names.specs.declared.faults.Kind.{Kind}
use Rattle.hm_names.specs.declared.faults.Kind.TheVariants.{Unbound, Ambiguous, ExportClash, NotImported}
use Rattle.hm_names.specs.Bindings.{Pair, Adds, IsOwnPair}
use Rattle.hm_scope_exports.specs.ExportItems.{bare_pair, GivesPair, FaultBehind, ItemFault, ClashFault, LeastFault}
use Rattle.hm_names.specs.Exports.{IsExported, all, listed}
use Rattle.hm_names.specs.Faults.Exports.{ExportFault, unbound_value, unbound_type, ambiguous_value, ambiguous_type, unbound_constructor, clash, not_imported, item_name, bare_at}
use Rattle.hm_names.specs.Faults.Phases.{HasFault, Exporting, fault}
use Rattle.hm_scope_exports.specs.ModuleExports.{AreListedExports, AreExportsSoFar, AreExportsOf}
use Rattle.hm_names.specs.Scope.{Means}
use Rattle.hm_scope_tables.specs.Tables.{Table, IsTable, IsTold, same_key}
use Rattle.std.specs.Map.{lookup}
use Rattle.hm_scope_exports.proofs.ExportClashes.{gives, given, least_is_clash, clash_is_least}
use Rattle.hm_names.proofs.Members.{none_in}

-- one more of a list
pub more_of : {X : Type 0} (old mid new xs : List X) (i : ℕ) (x : X) → i < length xs → x ≡ get_or xs i x → mid ≡ old ++ take i xs → new ≡ mid ++ x ∷ [] → new ≡ old ++ take (i + 1) xs
more_of old mid new xs i x inside is before pushed =
    pushed ∙ ap (λ l. l ++ x ∷ []) before ∙ append_assoc old (take i xs) (x ∷ []) ∙ ap (λ l. old ++ l) (sym (take_more xs i x inside ∙ ap (λ y. take i xs ++ y ∷ []) (sym is)))

-- where an item stands in a list that one more was added to
stands_last : {X : Type 0} (before after xs : List X) (i x : X) → xs ++ x ∷ [] ≡ before ++ (i ∷ after) → ((behind : List X) × (xs ≡ before ++ (i ∷ behind))) ⊎ ((xs ≡ before) × (x ≡ i))
stands_last [] after [] i x e = inr (refl, let h : x ∷ [] ≡ i ∷ after = e in cc)
stands_last [] after (y ∷ ys) i x e = let h : y ∷ (ys ++ x ∷ []) ≡ i ∷ after = e in inl (ys, let z : y ≡ i = cc in ap (λ w. w ∷ ys) z)
stands_last (b ∷ bs) after [] i x e = absurd (nothing bs (let h : x ∷ [] ≡ b ∷ (bs ++ (i ∷ after)) = e in let z : [] ≡ bs ++ (i ∷ after) = cc in z))
  where
    nothing : (bs : List _) → [] ≡ bs ++ (i ∷ after) → ⊥
    nothing [] z = cc
    nothing (c ∷ cs) z = cc
stands_last (b ∷ bs) after (y ∷ ys) i x e =
    let h : y ∷ (ys ++ x ∷ []) ≡ b ∷ (bs ++ (i ∷ after)) = e in
    let one : y ≡ b = cc in
    let rest : ys ++ x ∷ [] ≡ bs ++ (i ∷ after) = cc in
    ⊎_elim (λ (behind, f). inl (behind, ap₂ (λ w v. w ∷ v) one f)) (λ (f, g). inr (ap₂ (λ w v. w ∷ v) one f, g)) (stands_last bs after ys i x rest)

module _ (m : Module) (fs : List Interface) where
  abbrev AnyItem : List Export → Fault → Type 0
  AnyItem items g = (i : Export) × (Contains items i × ItemFault m fs i g)

  abbrev AnyClash : List Export → Fault → Type 0
  AnyClash items g = (before : List Export) × ((after : List Export) × ((i : Export) × ((items ≡ before ++ (i ∷ after)) × ClashFault m fs before i g)))

  pub none_so_far : (e : ModuleExports) (table : Table) → e.given.items ≡ [] → e.faults.items ≡ [] → IsTable e.given.items table → AreExportsSoFar m fs [] e table
  none_so_far e table nothing fine tabled = record {
    listed = record {
      given = λ p. (λ h. absurd (none_in p (subst (λ l. Contains l p) nothing h)), λ (i, (c, _)). absurd (none_in i c));
      found = λ g. (λ h. absurd (none_in g (subst (λ l. Contains l g) fine h)), λ h. ⊎_elim (λ (i, (c, _)). absurd (none_in i c)) (λ (before, (after, (i, (is, _)))). absurd (nowhere before after i is)) h);
    };
    tabled = tabled;
  }
    where
      nowhere : (before after : List Export) (i : Export) → [] ≡ before ++ (i ∷ after) → ⊥
      nowhere [] after i is = cc
      nowhere (b ∷ bs) after i is = cc

  -- one more item
  module _ (before : List Export) (i : Export) (old new : ModuleExports) (oldtable newtable : Table) (mid out : List Pair) (faults : List Fault) where
    pub one_more : AreExportsSoFar m fs before old oldtable → out ≡ [] → Adds out mid (GivesPair m fs i) → Adds old.faults.items faults (ItemFault m fs i) → new.given.items ≡ old.given.items ++ mid
        → (IsTable old.given.items oldtable → IsTable new.given.items newtable) → ((all : List Pair) → IsTable all newtable → Adds faults new.faults.items (LeastFault all mid i)) → AreExportsSoFar m fs (before ++ i ∷ []) new newtable
    one_more so_far nothing gave found more tables clashes = record {
      listed = record {
        given = every;
        found = λ g. (
          λ h. ⊎_elim (λ w. ⊎_elim (λ o. ⊎_elim (λ a. inl (widened g a)) (λ b. inr (longer g b)) ((so_far.listed.found g).0 o)) (λ f. inl (i, (Contains-push before i, f))) ((found g).0 w)) (λ l. inr (before, ([], (i, (refl, least_is_clash m fs before i new.given.items mid every mine g l))))) ((clashes new.given.items tabled g).0 h),
          λ h. ⊎_elim (λ a. item_back g a) (λ b. clash_back g b) h,
        );
      };
      tabled = tabled;
    }
      where
        tabled : IsTable new.given.items newtable
        tabled = tables so_far.tabled

        mine : (p : Pair) → Contains mid p ↔ GivesPair m fs i p
        mine p = (λ h. ⊎_elim (λ o. absurd (none_in p (subst (λ l. Contains l p) nothing o))) (λ g. g) ((gave p).0 h), λ g. (gave p).1 (inr g))

        every : (p : Pair) → Contains new.given.items p ↔ ((j : Export) × (Contains (before ++ i ∷ []) j × GivesPair m fs j p))
        every p = (
          (λ h. ⊎_elim (λ o. let (j, (c, g)) = (so_far.listed.given p).0 o in (j, (Contains-append_left before (i ∷ []) j c, g))) (λ n. (i, (Contains-push before i, (mine p).0 n))) (Contains-append_cases old.given.items mid p (subst (λ l. Contains l p) more h))),
          (λ (j, (c, g)). subst (λ l. Contains l p) (sym more) (⊎_elim (λ b. Contains-append_left old.given.items mid p ((so_far.listed.given p).1 (j, (b, g)))) (λ e. Contains-append_right old.given.items mid p ((mine p).1 (subst (λ z. GivesPair m fs z p) (sym e) g))) (Contains-push_cases before i j c))),
        )

        widened : (g : Fault) → AnyItem before g → AnyItem (before ++ i ∷ []) g
        widened g (j, (c, f)) = (j, (Contains-append_left before (i ∷ []) j c, f))

        longer : (g : Fault) → AnyClash before g → AnyClash (before ++ i ∷ []) g
        longer g (b, (after, (j, (is, f)))) = (b, (after ++ i ∷ [], (j, (ap (λ l. l ++ i ∷ []) is ∙ append_assoc b (j ∷ after) (i ∷ []), f))))

        item_back : (g : Fault) → AnyItem (before ++ i ∷ []) g → Contains new.faults.items g
        item_back g (j, (c, f)) = (clashes new.given.items tabled g).1 (inl ((found g).1 (⊎_elim (λ b. inl ((so_far.listed.found g).1 (inl (j, (b, f))))) (λ e. inr (subst (λ z. ItemFault m fs z g) (sym e) f)) (Contains-push_cases before i j c))))

        clash_back : (g : Fault) → AnyClash (before ++ i ∷ []) g → Contains new.faults.items g
        clash_back g (b, (after, (j, (is, f)))) = ⊎_elim
            (λ (behind, e). (clashes new.given.items tabled g).1 (inl ((found g).1 (inl ((so_far.listed.found g).1 (inr (b, (behind, (j, (e, f)))))))))
            )
            (λ (e, same). (clashes new.given.items tabled g).1 (inr (clash_is_least m fs before i new.given.items mid every mine g (subst (λ z. ClashFault m fs z i g) (sym e) (subst (λ z. ClashFault m fs b z g) (sym same) f)))))
            (stands_last b after before j i is)

  -- the exports of a module with an export list
  module _ (es : List Export) (e : ModuleExports) (stand : m.header.exports ≡ Some es) (are : AreListedExports m fs es e) where
    of_fault : (k : Kind) (n : Identifier) (g : Fault) → ExportFault m fs es k n → fault k n ≡ g → HasFault m fs Exporting g
    of_fault k n g f is = record { kind = k; name = n; stands = (es, (stand, f)); is = sym is }

    behind_fault : (v : Identifier) (s : SubItems) (t : Entity) (g : Fault) → Contains es (export.Con v s) → Means m fs Types v t → FaultBehind m fs t s g → HasFault m fs Exporting g
    behind_fault v subs.None t g c means h = absurd h
    behind_fault v subs.All t g c means h = absurd h
    behind_fault v (subs.Some cs) t g c means (n, (there, (none, is))) = of_fault Unbound n g (unbound_constructor c means there none) is

    item_fault : (i : Export) (g : Fault) → Contains es i → ItemFault m fs i g → HasFault m fs Exporting g
    item_fault (export.Var n) g c h = ⊎_elim (λ (u, is). of_fault Unbound n g (unbound_value c u) is) (λ (a, is). of_fault Ambiguous n g (ambiguous_value c a) is) h
    item_fault (export.Con n s) g c h = ⊎_elim (λ f. ⊎_elim (λ (u, is). of_fault Unbound n g (unbound_type c u) is) (λ (a, is). of_fault Ambiguous n g (ambiguous_type c a) is) f) (λ (t, (means, f)). behind_fault n s t g c means f) h
    item_fault (export.Whole n) g c (none, is) = of_fault NotImported n g (not_imported c none) is

    clash_fault : (g : Fault) → AnyClash es g → HasFault m fs Exporting g
    clash_fault g (before, (after, (i, (is, (x, (h, (least, f))))))) = of_fault ExportClash (bare_at (item_name i) x) g (clash before after is h least) f

    found_fault : (k : Kind) (n : Identifier) (g : Fault) → ExportFault m fs es k n → fault k n ≡ g → AnyItem es g ⊎ AnyClash es g
    found_fault k n g (unbound_value c u) is = inl (export.Var n, (c, inl (u, is)))
    found_fault k n g (unbound_type {s = s} c u) is = inl (export.Con n s, (c, inl (inl (u, is))))
    found_fault k n g (ambiguous_value c a) is = inl (export.Var n, (c, inr (a, is)))
    found_fault k n g (ambiguous_type {s = s} c a) is = inl (export.Con n s, (c, inl (inr (a, is))))
    found_fault k n g (unbound_constructor {n = v} {cs = cs} {t = t} c means there none) is = inl (export.Con v (subs.Some cs), (c, inr (t, (means, (n, (there, (none, is)))))))
    found_fault k n g (clash before after {i = i} {x = x} at h least) is = inr (before, (after, (i, (at, (x, (h, (least, is)))))))
    found_fault k n g (not_imported c none) is = inl (export.Whole n, (c, (none, is)))

    one_list : (fs' : List Export) → m.header.exports ≡ Some fs' → fs' ≡ es
    one_list fs' is = let h : Some fs' ≡ Some es = sym is ∙ stand in cc

    pub listed_exports_are : AreExportsOf m fs e
    listed_exports_are = record {
      given_names = λ s x k. (
        (λ h. let (i, (c, g)) = (are.given (bare_pair s x k)).0 h in listed stand c (gives m fs i (bare_pair s x k) g).1),
        (λ h. exported s x k h),
      );
      bare = λ p h. let (i, (c, g)) = (are.given p).0 h in (gives m fs i p g).0;
      exact = λ g. (
        (λ h. ⊎_elim (λ (i, (c, f)). item_fault i g c f) (λ f. clash_fault g f) ((are.found g).0 h)),
        (λ h. (are.found g).1 (found_fault h.kind h.name g (subst (λ l. ExportFault m fs l h.kind h.name) (one_list h.stands.0 h.stands.1.0) h.stands.1.1) (sym h.is))),
      );
    }
      where
        exported : (s : Namespace) (x : List ℕ) (k : Entity) → IsExported m fs s x k → Contains e.given.items (bare_pair s x k)
        exported s x k (all none declared is) = absurd (let h : None ≡ Some es = sym none ∙ stand in cc)
        exported s x k (listed {es = fs'} {i = i} is c g) = (are.given (bare_pair s x k)).1 (i, (subst (λ l. Contains l i) (one_list fs' is) c, given m fs i s x k g))

  -- and of one without
  pub declared_exports_are : (e : ModuleExports) → m.header.exports ≡ None → ((p : Pair) → Contains e.given.items p ↔ (IsOwnPair m p × (p.qualifier ≡ None))) → e.faults.items ≡ [] → AreExportsOf m fs e
  declared_exports_are e none exact fine = record {
    given_names = λ s x k. (
      (λ h. let o = ((exact (bare_pair s x k)).0 h).0 in all none o.declared o.pair.entity_is),
      (λ h. exported s x k h),
    );
    bare = λ p h. ((exact p).0 h).1;
    exact = λ g. (
      (λ h. absurd (none_in g (subst (λ l. Contains l g) fine h))),
      (λ h. let f : None ≡ Some h.stands.0 = sym none ∙ h.stands.1.0 in cc),
    );
  }
    where
      exported : (s : Namespace) (x : List ℕ) (k : Entity) → IsExported m fs s x k → Contains e.given.items (bare_pair s x k)
      exported s x k (all _ declared is) = (exact (bare_pair s x k)).1 (record { declared = declared; pair = record { space_is = refl; qualifier_is = inl (refl, refl); text_is = refl; entity_is = is } }, refl)
      exported s x k (listed {es = es} is c g) = absurd (let h : None ≡ Some es = sym none ∙ is in cc)

pub no_table : (pairs : List Pair) (table : Table) → pairs ≡ [] → table.entries ≡ [] → IsTable pairs table
no_table pairs table nothing empty k =
    subst (λ o. IsTold pairs k o) (sym (ap (λ es. lookup (same_key k) es) empty)) (λ p h. absurd (none_in p (subst (λ l. Contains l p) nothing h)))

module _ (m : Module) (fs : List Interface) (items : List Export) where
  pub so_far_none : (e : ModuleExports) (table : Table) → AreExportsSoFar m fs [] e table → AreExportsSoFar m fs (take 0 items) e table
  so_far_none e table h = subst (λ l. AreExportsSoFar m fs l e table) (nothing items) h
    where
      nothing : (l : List Export) → [] ≡ take 0 l
      nothing [] = refl
      nothing (x ∷ l) = refl

  pub so_far_more : (i : ℕ) (x : Export) (e : ModuleExports) (table : Table) → i < length items → x ≡ get_or items i x → AreExportsSoFar m fs (take i items ++ x ∷ []) e table → AreExportsSoFar m fs (take (i + 1) items) e table
  so_far_more i x e table inside is h = subst (λ l. AreExportsSoFar m fs l e table) (sym (take_more items i x inside ∙ ap (λ y. take i items ++ y ∷ []) (sym is))) h
