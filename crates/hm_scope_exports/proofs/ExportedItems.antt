-- What the items of an export list give, and their faults.
use Rattle.std.proofs.Common.{◌≡◌, ℕ, Bool, true, false, List, Option, None, Some, option_map, Bor, ◌⊎◌, inl, inr, ⊎_elim, refl, sym, ap, ◌∙◌, subst, Contains}
use Rattle.std.specs.Prelude.{◌↔◌}
use Rattle.hm_types.specs.declared.Entity.{Entity}
use Rattle.hm_types.specs.Interfaces.{Exports as Interface}
use Rattle.hm_syntax.specs.Names.{Identifier}
use Rattle.hm_syntax.specs.declared.ast.Module.{Module}
use Rattle.hm_syntax.specs.declared.ast.Export.TheVariants as export
use Rattle.hm_syntax.specs.declared.ast.SubItems.{SubItems}
use Rattle.hm_names.specs.declared.namespace.Namespace.{Namespace}
use Rattle.hm_names.specs.declared.namespace.Namespace.TheVariants.{Types, Constructors, Values}
use Rattle.hm_names.specs.declared.faults.Fault.{Fault}
use Rattle.hm_names.specs.declared.faults.Kind.TheVariants.{Unbound, Ambiguous, NotImported}
use Rattle.hm_scope_export_items.specs.declared.export_groups.Selector.{Selector}
use Rattle.hm_names.specs.Bindings.{Pair, Adds}
use Rattle.hm_scope_export_items.specs.ExportGroups.{Groups, group_of, IsBoth, IsOwned, IsSelected, AreGroupsOf}
use Rattle.hm_scope_exports.specs.ExportItems.{bare_pair, GivesBehind, GivesPair, NameFault, FaultBehind, ItemFault, IsExportMeaning}
use Rattle.hm_names.specs.Exports.{HasConstructor, IsModuleName}
use Rattle.hm_names.specs.Faults.Phases.{fault}
use Rattle.hm_names.specs.Scope.{IsUnbound, IsAmbiguous, Means}
use Rattle.hm_names.specs.Texts.{is_text_among}
use Rattle.hm_names.proofs.AddedPairs.{adds_like, adds_none, adds_then, adds_where, adds_where_not}
use Rattle.hm_names.proofs.Standing.{among_decides}

module _ (m : Module) (fs : List Interface) where
  -- the meaning of an exported name
  module _ (s : Namespace) (n : Identifier) where
    ambiguous_apart : IsAmbiguous m fs s n → (e : Entity) → ¬ (Means m fs s n e)
    ambiguous_apart a e means = a.1.1.2 (means.alone a.0 a.1.1.0 ∙ sym (means.alone a.1.0 a.1.1.1))

    pub unbound_meaning : (old new : List Fault) → IsUnbound m fs s n → Adds old new (λ g. fault Unbound n ≡ g) → IsExportMeaning m fs s n old new None
    unbound_meaning old new u a = ((λ e means. u e means.in_scope), adds_like old new (λ g. fault Unbound n ≡ g) (NameFault m fs s n) (λ g e. inl (u, e)) (λ g h. ⊎_elim (λ (_, e). e) (λ (b, _). absurd (u b.0 b.1.1.0)) h) a)

    pub ambiguous_meaning : (old new : List Fault) → IsAmbiguous m fs s n → Adds old new (λ g. fault Ambiguous n ≡ g) → IsExportMeaning m fs s n old new None
    ambiguous_meaning old new b a = (ambiguous_apart b, adds_like old new (λ g. fault Ambiguous n ≡ g) (NameFault m fs s n) (λ g e. inr (b, e)) (λ g h. ⊎_elim (λ (u, _). absurd (u b.0 b.1.1.0)) (λ (_, e). e) h) a)

    pub fine_name : (old : List Fault) (e : Entity) → Means m fs s n e → Adds old old (NameFault m fs s n)
    fine_name old e means = adds_none old (NameFault m fs s n) (λ g h. ⊎_elim (λ (u, _). u e means.in_scope) (λ (b, _). ambiguous_apart b e means) h)

  -- an exported variable
  module _ (n : Identifier) where
    pub value_missing : (old : List Pair) → ((e : Entity) → ¬ (Means m fs Values n e)) → Adds old old (GivesPair m fs (export.Var n))
    value_missing old none = adds_none old (GivesPair m fs (export.Var n)) (λ p (e, (means, _)). none e means)

    pub value_given : (old new : List Pair) (e : Entity) → Means m fs Values n e → Adds old new (λ p. bare_pair Values n.text e ≡ p) → Adds old new (GivesPair m fs (export.Var n))
    value_given old new e means a = adds_like old new (λ p. bare_pair Values n.text e ≡ p) (GivesPair m fs (export.Var n)) (λ p h. (e, (means, h)))
        (λ p (d, (also, h)). ap (bare_pair Values n.text) (sym (means.alone d also.in_scope)) ∙ h) a

  -- an exported type
  module _ (n : Identifier) (s : SubItems) where
    pub type_missing : (old : List Pair) → ((e : Entity) → ¬ (Means m fs Types n e)) → Adds old old (GivesPair m fs (export.Con n s))
    type_missing old none = adds_none old (GivesPair m fs (export.Con n s)) (λ p (e, (means, _)). none e means)

    pub type_unknown : (old new : List Fault) → ((e : Entity) → ¬ (Means m fs Types n e)) → Adds old new (NameFault m fs Types n) → Adds old new (ItemFault m fs (export.Con n s))
    type_unknown old new none a = adds_like old new (NameFault m fs Types n) (ItemFault m fs (export.Con n s)) (λ g h. inl h) (λ g h. ⊎_elim (λ f. f) (λ (e, (means, _)). absurd (none e means)) h) a

    pub type_given : (old mid new : List Pair) (t : Entity) → Means m fs Types n t → Adds old mid (λ p. bare_pair Types n.text t ≡ p) → Adds mid new (GivesBehind m fs t s) → Adds old new (GivesPair m fs (export.Con n s))
    type_given old mid new t means a b = adds_like old new (λ p. (bare_pair Types n.text t ≡ p) ⊎ GivesBehind m fs t s p) (GivesPair m fs (export.Con n s)) (λ p h. (t, (means, h)))
        (λ p (d, (also, h)). subst (λ (z : Entity). (bare_pair Types n.text z ≡ p) ⊎ GivesBehind m fs z s p) (means.alone d also.in_scope) h)
        (adds_then old mid new (λ p. bare_pair Types n.text t ≡ p) (GivesBehind m fs t s) a b)

    pub type_faults : (old new : List Fault) (t : Entity) → Means m fs Types n t → Adds old new (FaultBehind m fs t s) → Adds old new (ItemFault m fs (export.Con n s))
    type_faults old new t means a = adds_like old new (FaultBehind m fs t s) (ItemFault m fs (export.Con n s)) (λ g h. inr (t, (means, h)))
        (λ g h. ⊎_elim (λ f. absurd (name_fine g f)) (λ (d, (also, f)). subst (λ (z : Entity). FaultBehind m fs z s g) (means.alone d also.in_scope) f) h) a
      where
        name_fine : (g : Fault) → NameFault m fs Types n g → ⊥
        name_fine g f = ⊎_elim (λ (u, _). u t means.in_scope) (λ (b, _). ambiguous_apart Types n b t means) f

  -- the groups
  module _ (groups : Groups) (are : AreGroupsOf m fs groups) (k : Selector) where
    abbrev InGroup : Pair → Type 0
    InGroup p = Contains (group_of groups k) p

    selected_at : (q : List ℕ) (o r : Option (List ℕ)) → k.«module».now ≡ q → option_map (λ t. t.now) k.owner ≡ o → option_map (λ t. t.now) k.part ≡ r → (p : Pair) → InGroup p ↔ IsSelected m fs q o r p
    selected_at q o r eq eo er p =
        subst (λ z. InGroup p ↔ IsSelected m fs z o r p) eq
        (subst (λ z. InGroup p ↔ IsSelected m fs k.«module».now z r p) eo
        (subst (λ z. InGroup p ↔ IsSelected m fs k.«module».now (option_map (λ t. t.now) k.owner) z p) er (are k p)))

    like_group : (old new : List Pair) (Q : Pair → Type 0) → ((p : Pair) → InGroup p ↔ Q p) → Adds old new InGroup → Adds old new Q
    like_group old new Q same a = adds_like old new InGroup Q (λ p h. (same p).0 h) (λ p h. (same p).1 h) a

    pub whole_group : (old new : List Pair) (q : Bor (List ℕ)) (n : Identifier) → k ≡ record { «module» = q; owner = None; part = None } → q.now ≡ n.text → IsModuleName m n.text → Adds old new InGroup → Adds old new (GivesPair m fs (export.Whole n))
    whole_group old new q n is same named a = adds_where old new (IsModuleName m n.text) (IsBoth m fs n.text) named
        (like_group old new (IsBoth m fs n.text) (selected_at n.text None None (ap (λ (z : Selector). z.«module».now) is ∙ same) (ap (λ (z : Selector). option_map (λ t. t.now) z.owner) is) (ap (λ (z : Selector). option_map (λ t. t.now) z.part) is)) a)

    module _ (t : Entity) (of_module : k.«module».now ≡ t.«module») (of_type : option_map (λ z. z.now) k.owner ≡ Some t.name) where
      pub all_group : (old new : List Pair) → option_map (λ z. z.now) k.part ≡ None → Adds old new InGroup → Adds old new (IsOwned m fs t)
      all_group old new all a = like_group old new (IsOwned m fs t) (selected_at t.«module» (Some t.name) None of_module of_type all) a

      module _ (x : List ℕ) (one : option_map (λ z. z.now) k.part ≡ Some x) where
        part_at : (p : Pair) → InGroup p ↔ (IsOwned m fs t p × (p.text ≡ x))
        part_at p = selected_at t.«module» (Some t.name) (Some x) of_module of_type one p

        pub part_group : (old new : List Pair) → Adds old new InGroup → Adds old new (λ p. IsOwned m fs t p × (p.text ≡ x))
        part_group old new a = like_group old new (λ p. IsOwned m fs t p × (p.text ≡ x)) part_at a

        abbrev IsMissing : Type 0
        IsMissing = (e : Entity) → ¬ (HasConstructor m fs t x e)

        pub part_fine : (old : List Fault) (c : Identifier) → ((p : Pair) × Contains (group_of groups k) p) → Adds old old (λ g. IsMissing × (fault Unbound c ≡ g))
        part_fine old c (p, h) = adds_where_not old IsMissing (λ g. fault Unbound c ≡ g) (λ none. let o = (part_at p).0 h in none p.entity (subst (λ y. HasConstructor m fs t y p.entity) o.1 o.0.1.1))

        pub part_fault : (old new : List Fault) (c : Identifier) → ¬ ((p : Pair) × Contains (group_of groups k) p) → Adds old new (λ g. fault Unbound c ≡ g) → Adds old new (λ g. IsMissing × (fault Unbound c ≡ g))
        part_fault old new c none a = adds_where old new IsMissing (λ g. fault Unbound c ≡ g) (λ e h. none (bare_pair Constructors x e, (part_at (bare_pair Constructors x e)).1 ((refl, (refl, h)), refl))) a

  -- a module that is exported whole
  module _ (n : Identifier) where
    pub whole_missing : (old : List Pair) → ¬ (IsModuleName m n.text) → Adds old old (GivesPair m fs (export.Whole n))
    whole_missing old none = adds_where_not old (IsModuleName m n.text) (IsBoth m fs n.text) none

    pub whole_fine : (old : List Fault) → IsModuleName m n.text → Adds old old (ItemFault m fs (export.Whole n))
    whole_fine old named = adds_where_not old (¬ (IsModuleName m n.text)) (λ g. fault NotImported n ≡ g) (λ none. none named)

    pub whole_fault : (old new : List Fault) → ¬ (IsModuleName m n.text) → Adds old new (λ g. fault NotImported n ≡ g) → Adds old new (ItemFault m fs (export.Whole n))
    whole_fault old new none a = adds_where old new (¬ (IsModuleName m n.text)) (λ g. fault NotImported n ≡ g) none a

  pub is_named : (names : List (List ℕ)) (x y : List ℕ) (r : Bool) → ((z : List ℕ) → Contains names z ↔ IsModuleName m z) → r ≡ is_text_among x names → x ≡ y → r ≡ true → IsModuleName m y
  is_named names x y r all is same t = (all y).0 (subst (λ z. Contains names z) same ((among_decides x names).0 (sym is ∙ t)))

  pub isnt_named : (names : List (List ℕ)) (x y : List ℕ) (r : Bool) → ((z : List ℕ) → Contains names z ↔ IsModuleName m z) → r ≡ is_text_among x names → x ≡ y → r ≡ false → ¬ (IsModuleName m y)
  isnt_named names x y r all is same f h = let t : true ≡ false = sym ((among_decides x names).1 (subst (λ z. Contains names z) (sym same) ((all y).1 h))) ∙ sym is ∙ f in cc
